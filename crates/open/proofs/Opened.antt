-- What opening leaves where it is refused, and where it is done.
use mathlib.Core.Path.{◌≡◌, ap, sym, ◌∙◌}
use mathlib.Core.Bool.{Bool, true, false}
use mathlib.Core.List.{List, [], ◌∷◌}
use Prim.Native.Nat.{ℕ, ◌*◌, ◌≤◌}
use native.Mathlib.Nat.{mul-le-mul}
use native.Mathlib.Omega.{arith}
use borrow.Author.Tests.{eq-eqb}
use lib.Dec.{T, leb, leb→le}
use Rattle.rules.specs.Tests.{pick, all, many, first}
use Rattle.rules.specs.Words.{Room, fresh}
use Rattle.rules.specs.Lent.{Memory, memory, patch, encode, stored_cell, present, tables}
use Rattle.rules.specs.Replies.{Answer, bare, room_counts, room_long, open_reply, house_of, opened, opening, Opened}
use Rattle.rules.specs.declared.House.{House}
use Rattle.rules.proofs.Refusals.{opening_keeps}
use Rattle.rules.proofs.Scan.{holds}
use Rattle.rules.proofs.Sound.{Clear, clear, and_l, and_r}
use Rattle.rules.proofs.Spare.{Wide, wide}
use Rattle.open.specs.Room.{Housed}
use Rattle.open.proofs.Housed.{sizes}

-- no test has a higher number
most : (n : ℕ) (l : List (Bool × ℕ)) → T (all (λ x. leb x.1 n) l) → first l ≤ n
most n [] t = omega arith
most n (x ∷ l) t =
    let rest : Bool = all (λ (y : Bool × ℕ). leb y.1 n) l in
    one_of x.0 (most n l (and_r (leb x.1 n) rest t)) (leb→le x.1 n (and_l (leb x.1 n) rest t))
  where
    one_of : {a b : ℕ} (c : Bool) → a ≤ n → b ≤ n → pick c a b ≤ n
    one_of true p q = p
    one_of false p q = q

pub at_most : (ρ : Room) (m : Memory) → open_reply ρ m ≤ 5
unfolding open_reply
at_most ρ m = most 5 ((room_counts ρ, 1) ∷ (room_long ρ m, 5) ∷ tables ρ) tt

pub refused : (ρ : Room) (m : Memory) (k : ℕ) (a : Answer) → k ≡ open_reply ρ m → (open_reply ρ m ≡ 0 → ⊥) → a ≡ bare k → Opened ρ m a m
refused ρ m k a e n d = record { answer = d ∙ ap bare e; memory = sym (opening_keeps ρ m n) }

-- what the tests tell where none fails
pub record Passed (ρ : Room) (m : Memory) : Type 0 where
  pub housed : Housed ρ
  pub places : ρ.nodes * ρ.rows ≤ 512
  pub wide : Wide ρ m

pub passed : (ρ : Room) (m : Memory) → open_reply ρ m ≡ 0 → Passed ρ m
unfolding open_reply
passed ρ m e =
    let t : Clear ((room_counts ρ, 1) ∷ (room_long ρ m, 5) ∷ tables ρ) = clear ((room_counts ρ, 1) ∷ (room_long ρ m, 5) ∷ tables ρ) tt e in
    let q : Bool = all (present ρ) ρ.quorums in
    let w : Bool = all (present ρ) ρ.weaks in
    let h : Housed ρ = record {
      counts = holds (room_counts ρ) t.0;
      quorums = holds q (and_l q w t.1.1.0);
      weaks = holds w (and_r q w t.1.1.0);
    } in
    let z = sizes h in
    record {
      housed = h;
      places = mul-le-mul {n₂ = 8} {m₂ = 64} z.nodes z.rows;
      wide = wide ρ m e;
    }

pub done : (ρ : Room) (m : Memory) (h : House) (cells heard : List ℕ) → open_reply ρ m ≡ 0 → h ≡ house_of ρ
    → cells ≡ patch m.cells 0 (many (ρ.nodes * ρ.rows) (encode (stored_cell fresh)))
    → heard ≡ patch m.heard 0 (many (128 * ρ.nodes) (0 ∷ []))
    → Opened ρ m (bare 0) (memory h m.board cells heard)
unfolding opening opened
done ρ m h cells heard e p q r = record {
  answer = ap bare (sym e);
  memory = (λ i. memory (p i) m.board (q i) (r i)) ∙ rw (eq-eqb (open_reply ρ m) 0 e);
}
