-- What the search and the writer of messages ask: a struct that is its meaning's own, a plain board, and room if it is new.
use Rattle.std.specs.Prelude.{◌≡◌, Bool, false, List, [], ℕ, ◌*◌, ◌≤◌, ◌<◌, T, length}
use Rattle.rules.specs.Tests.{all_below, any_below, eqs}
use Rattle.rules.specs.Words.{Msg, raw_of, same_raw}
use Rattle.rules.specs.Lent.{memory, window, meaning, stored, board_of, plain_msg}
use Rattle.rules.specs.Steps as steps
use Rattle.rules.specs.declared.House.{House}
use Rattle.rules.specs.declared.Message.{Message}

-- the first n messages of a board may be read, and each one's bytes are those of what it means
pub record Plain (s : List ℕ) (n : ℕ) : Type 0 where
  pub count : n ≤ 1024
  pub long : 40 * n ≤ length s
  pub plain : T (all_below (plain_msg s) n)

-- a struct is how its meaning is stored
abbrev pub Own : Message → Type 0
Own m = stored (meaning m) ≡ m

-- these forty bytes are those of one of the first n messages
unfoldable pub standing : List ℕ → ℕ → List ℕ → Bool
standing s n b = any_below (λ k. eqs (window 40 k s) b) n

-- a message may be posted: where it is new, the board is below its capacity
pub record Postable (h : House) (s : List ℕ) (m : Message) : Type 0 where
  pub board : Plain s h.count
  pub own : Own m
  pub capacity : h.capacity ≤ 1024
  pub room : 40 * h.capacity ≤ length s
  pub fresh : steps.has (meaning m) (board_of s h.count) ≡ false → h.count < h.capacity

-- the house record and the board afterwards are those of the rules, whatever stands beside them
abbrev pub Posted : House → List ℕ → Message → House → List ℕ → Type 0
Posted h s m h' s' = (cells heard : List ℕ) → memory h' s' cells heard ≡ steps.post (memory h s cells heard) (meaning m)

-- a message of this kind (4 a 2av, 5 a 2b), row, ballot and tube from node a: the rules' is2av and is2b
abbrev pub is_vote : ℕ → ℕ → ℕ → ℕ → ℕ → Msg → Bool
is_vote k r b v a x = same_raw (raw_of x) (record { kind = k; row = r; bal = b; node = a; tube = v; mbal = 0; mval = 0; pairs = [] })
