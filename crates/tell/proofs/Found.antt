-- The library's search over a list, by the list's numbers.
use mathlib.Core.Path.{◌≡◌, refl, ◌∙◌}
use mathlib.Core.Bool.{Bool}
use mathlib.Core.List.{List}
use Prim.Native.Nat.{ℕ, zero, suc, ◌+◌, ◌≤◌}
use native.Mathlib.Numerals.{add-one}
use native.Mathlib.Omega.{arith}
use lib.ListN.{length, get_or, take, drop, length-drop}
use lib.Seq.{take_all, get_or-drop}
use Rattle.std.specs.List.{list_any}
use Rattle.std.proofs.lemmas.List.Folds.{list_any_more}
use Rattle.rules.specs.Tests.{any_below}
use Rattle.rules.proofs.Scan.{or_swap, below_same}

module _ (p : ℕ → Bool) (l : List ℕ) where
  -- among the first n
  pub found_below : (n : ℕ) → n ≤ length l → list_any p (take n l) ≡ any_below (λ k. p (get_or l k 0)) n
  found_below zero h = refl
  found_below (suc n) h =
      let m = list_any_more p l n 0 h in
      rw add-one at m ∙ rw (found_below n (omega arith)) (or_swap (any_below (λ k. p (get_or l k 0)) n) (p (get_or l n 0)))

  -- among all
  pub found_all : list_any p l ≡ any_below (λ k. p (get_or l k 0)) (length l)
  found_all = let r = found_below (length l) (omega arith) in rw (take_all (length l) l (omega arith)) at r

-- among the n from a place on
pub found_from : (p : ℕ → Bool) (l : List ℕ) (at n : ℕ) → at + n ≤ length l → list_any p (take n (drop at l)) ≡ any_below (λ k. p (get_or l (at + k) 0)) n
found_from p l at n h =
    found_below p (drop at l) n (omega (arith, length-drop at l))
    ∙ below_same (λ k. p (get_or (drop at l) k 0)) (λ k. p (get_or l (at + k) 0)) n (λ k b. rw get_or-drop)
