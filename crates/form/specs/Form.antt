-- What the parts of the gate decide, over just what each part reads.
use Rattle.std.specs.Prelude.{◌≡◌, Bool, true, ◌&&◌, ◌||◌, List, [], ◌∷◌, ℕ, ◌%◌, ◌^◌, ◌<◌, eqb, leb, ltb, length, get_or}
use Rattle.std.specs.Int.Bits.{bit_and}
use Rattle.rules.specs.Tests.{pick, all, eqs}
use Rattle.rules.specs.Words.{bal_in, tube_in, height_of, Room}
use Rattle.rules.specs.Lent.{Memory, pairs_of, bytes_of, meaning, stored, board_of, meaning_cell, heard_at, counts, long, pairs_in, good_msg, good_cell, is_1b_at, in_form}
use Rattle.rules.specs.Replies.{pairs_plain}
use Rattle.rules.specs.declared.Message.{Message}
use Rattle.rules.specs.declared.Cell as cell_as_stored

-- ---- pairs and cells

-- the pairs are in their limits and ascend, unused ones are 0, and their tubes are on intake
abbrev pub paired : ℕ → ℕ → List ℕ → Bool
paired t c l = (pairs_in (pairs_of c l) && pairs_plain c l) && all (λ p. leb p.0 t) (pairs_of c l)

abbrev pub cell_formed : ℕ → cell_as_stored.Cell → Bool
cell_formed t c = pairs_plain c.count c.pairs && good_cell t (meaning_cell c)

-- ---- a stored message

-- it is stored as what it means is, and that is good
abbrev pub message_formed : Room → ℕ → Message → Bool
message_formed ρ t m = eqs (bytes_of m) (bytes_of (stored (meaning m))) && good_msg ρ t (meaning m)

-- no vote and no pairs
abbrev pub bare_of : Message → Bool
bare_of m = eqb m.mbal 0 && (eqb m.mval 0 && eqb m.count 0)

-- its kind is known, and the fields that the kind lacks are 0
unfoldable pub lacking : Message → Bool
lacking m = pick (eqb m.kind 1) (eqb m.node 0 && (eqb m.tube 0 && bare_of m))
    (pick (eqb m.kind 2) (eqb m.tube 0)
    (pick (eqb m.kind 3) (eqb m.node 0 && bare_of m)
    ((eqb m.kind 4 || eqb m.kind 5) && bare_of m)))

-- the fields that the kind has are in their limits, and the tubes on intake
unfoldable pub held : ℕ → ℕ → ℕ → Message → Bool
held nodes rows t m = ((leb 1 m.row && leb m.row rows) && bal_in m.bal)
    && pick (eqb m.kind 1) true
    (pick (eqb m.kind 2) (ltb m.node nodes && (leb (height_of m.mbal) 16 && (leb m.mval 64 && leb m.mval t)))
    (pick (eqb m.kind 3) (tube_in m.tube && leb m.tube t)
    (ltb m.node nodes && (tube_in m.tube && leb m.tube t))))

-- so it is plain and good
abbrev pub message_fields : ℕ → ℕ → ℕ → Message → Bool
message_fields nodes rows t m = (lacking m && held nodes rows t m) && paired t m.count m.pairs

-- ---- heard bits

-- the bit of a message in its byte if its first byte says 1b
abbrev pub promise_bit : ℕ → ℕ → ℕ
promise_bit kind k = pick (eqb kind 2) (2 ^ (k % 8)) 0

-- one node's heard bytes r have just the bits of the 1b messages among the first n
pub record Promises (s : List ℕ) (n : ℕ) (r : List ℕ) : Type 0 where
  pub long : length r ≡ 128
  pub bits : (k : ℕ) → k < 1024 → heard_at r 0 k ≡ is_1b_at (board_of s n) k

-- byte t of the heard area has only bits of r, which is one node's
abbrev pub byte_in : List ℕ → List ℕ → ℕ → Bool
byte_in heard r t = eqb (bit_and (get_or heard t 0) (get_or r (t % 128) 0)) (get_or heard t 0)

-- ---- the gate

-- a call's own areas being long enough or not
abbrev pub gate_of : Memory → Bool → List (Bool × ℕ)
gate_of m areas = (counts m.house, 17) ∷ (long m && areas, 5) ∷ (in_form m, 17) ∷ []
