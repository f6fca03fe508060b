-- A scan's tube on an intake that is read from the front.
use mathlib.Core.Path.{◌≡◌, refl, ap, sym, ◌∙◌}
use mathlib.Core.Bool.{Bool, true, false, ◌&&◌, ◌||◌, true≢false}
use mathlib.Core.List.{List, [], ◌∷◌}
use Prim.Native.Nat.{ℕ, zero, suc, ◌+◌, ◌≤◌}
use native.Mathlib.Numerals.{add-one}
use native.Mathlib.Omega.{arith}
use borrow.Author.Tests.{le-leb, ltb-false}
use lib.Dec.{eqb, leb, ltb, leb-suc-suc}
use lib.ListN.{length}
use Rattle.std.specs.List.{zip, position_or_len}
use Rattle.std.specs.Option.{unwrap_or}
use Rattle.std.proofs.Common.{Option, Some, None, cond, not}
use Rattle.std.proofs.lemmas.List.Sums.{prefix_len-le-length}
use Rattle.rules.specs.Tests.{pick}
use Rattle.rules.specs.Lent.{intake_of}
use Rattle.rules.specs.Steps.{scanned_in, tube_for}
use Rattle.rules.proofs.Codec.{length-scans}

-- intake is the scans of two lists, each station with the serial beside it
scan_first : (x y : ℕ) (a b : List ℕ) (n : ℕ) → intake_of (x ∷ a) (y ∷ b) (suc n) ≡ (x, y) ∷ intake_of a b n
scan_first x y a b zero = refl
scan_first x y a b (suc n) = rw (scan_first x y a b n)

scans_zip : (a b : List ℕ) → length a ≤ length b → zip a b ≡ intake_of a b (length a)
scans_zip [] b h = refl
scans_zip (x ∷ a) [] h = absurd (omega arith)
scans_zip (x ∷ a) (y ∷ b) h = rw (scans_zip a b (omega arith)) (sym (scan_first x y a b (length a)))

-- the scan asked for
abbrev pub is : ℕ → ℕ → ℕ × ℕ → Bool
is x y p = eqb x p.0 && eqb y p.1

-- the tube of the first that is it, or the next
tube_first : (l : List (ℕ × ℕ)) (x y : ℕ) → suc (position_or_len (is x y) l) ≡ tube_for l x y
tube_first [] x y = refl
tube_first (p ∷ l) x y = go (is x y p) (tube_first l x y)
  where
    go : (b : Bool) → suc (position_or_len (is x y) l) ≡ tube_for l x y → suc (cond (not b) (1 + position_or_len (is x y) l) 0) ≡ pick b 1 (suc (tube_for l x y))
    go true r = refl
    go false r = ap suc (omega (arith, r))

first_or : (n k : ℕ) → k ≤ n → unwrap_or (cond (ltb k n) (Some k) None) n ≡ k
first_or n k h = go (ltb k n) refl
  where
    go : (b : Bool) → ltb k n ≡ b → unwrap_or (cond b (Some k) None) n ≡ k
    go true e = refl
    go false e = let l : n ≤ k = ltb-false k n e in omega arith

pub tube_at : (a b : List ℕ) (x y : ℕ) (r : Option ℕ) → length a ≤ length b
    → r ≡ cond (ltb (position_or_len (is x y) (zip a b)) (length (zip a b))) (Some (position_or_len (is x y) (zip a b))) None
    → unwrap_or r (length a) + 1 ≡ tube_for (intake_of a b (length a)) x y
tube_at a b x y r h e =
    let l = intake_of a b (length a) in
    let k = prefix_len-le-length (λ p. not (is x y p)) l in
    let f = rw (scans_zip a b h, length-scans a b (length a)) at e in
    rw f (add-one _ ∙ ap suc (first_or (length a) (position_or_len (is x y) l) (omega (arith, k, length-scans a b (length a)))) ∙ tube_first l x y)

-- a new scan gets the next tube
pub tube_new : (l : List (ℕ × ℕ)) (x y : ℕ) → scanned_in l x y ≡ false → tube_for l x y ≡ suc (length l)
tube_new [] x y e = refl
tube_new (p ∷ l) x y e = go (eqb x p.0 && eqb y p.1) (tube_new l x y) e
  where
    go : (b : Bool) → (scanned_in l x y ≡ false → tube_for l x y ≡ suc (length l)) → b || scanned_in l x y ≡ false → pick b 1 (suc (tube_for l x y)) ≡ suc (suc (length l))
    go true r h = absurd (true≢false h)
    go false r h = ap suc (r h)

-- a scan is known exactly when its tube is not the next one
pub known_tube : (l : List (ℕ × ℕ)) (x y : ℕ) → scanned_in l x y ≡ leb (tube_for l x y) (length l)
known_tube [] x y = refl
known_tube (p ∷ l) x y = go (eqb x p.0 && eqb y p.1) (known_tube l x y)
  where
    go : (b : Bool) → scanned_in l x y ≡ leb (tube_for l x y) (length l) → b || scanned_in l x y ≡ leb (pick b 1 (suc (tube_for l x y))) (suc (length l))
    go true r = sym (le-leb 1 (suc (length l)) (omega arith))
    go false r = r ∙ sym (leb-suc-suc (tube_for l x y) (length l))
