-- Lists of sets as opening is handed them and as the house record has them.
use mathlib.Core.Path.{◌≡◌, refl, ap, sym, ◌∙◌}
use mathlib.Core.Bool.{Bool, true, false}
use mathlib.Core.List.{List, [], ◌∷◌}
use Prim.Native.Nat.{ℕ, zero, suc, ◌+◌, ◌^◌, ◌≤◌, ◌<◌}
use native.Mathlib.Numerals.{add-one}
use native.Mathlib.Omega.{arith}
use borrow.Author.Tests.{ltb-true, ltb-false}
use lib.Dec.{ltb}
use lib.ListN.{length, get_or, take, set, replicate, get_or-eq_default}
use lib.Pow.{pow_mono}
use lib.Seq.{take-length}
use Rattle.rules.specs.Tests.{all, all_below, fit}
use Rattle.rules.proofs.Each.{each_at, all_take}

-- a list by its numbers
pub all_list : (p : ℕ → Bool) (l : List ℕ) → all p l ≡ all_below (λ i. p (get_or l i 0)) (length l)
all_list p l = ap (all p) (sym (take-length l)) ∙ all_take p l (length l) (omega arith)

-- no number yet
pub fit-none : (n : ℕ) → replicate n 0 ≡ fit n []
fit-none zero = refl
fit-none (suc n) = ap (λ (t : List ℕ). 0 ∷ t) (fit-none n)

-- one number more fits
pub fit-more : (n i : ℕ) (l : List ℕ) → i < length l → i < n → set (fit n (take i l)) i (get_or l i 0) ≡ fit n (take (i + 1) l)
fit-more zero i l a b = absurd (omega arith)
fit-more (suc n) i [] a b = absurd (omega arith)
fit-more (suc n) zero (x ∷ l) a b = refl
fit-more (suc n) (suc i) (x ∷ l) a b = ap (λ (t : List ℕ). x ∷ t) (fit-more n i l (omega arith) (omega arith)) ∙ sym (rw (add-one (suc i), add-one i))

-- sets that name present nodes are bytes
pub set_bytes : (nodes : ℕ) (l : List ℕ) → nodes ≤ 8 → all (λ q. ltb q (2 ^ nodes)) l ≡ true → (i : ℕ) → get_or l i 0 < 256
set_bytes nodes l h e i = go (ltb i (length l)) refl
  where
    go : (b : Bool) → ltb i (length l) ≡ b → get_or l i 0 < 256
    go true d =
        let a = ltb-true (get_or l i 0) (2 ^ nodes) (each_at (λ k. ltb (get_or l k 0) (2 ^ nodes)) (length l) i (sym (all_list (λ q. ltb q (2 ^ nodes)) l) ∙ e) (ltb-true i (length l) d)) in
        let m : 2 ^ nodes ≤ 2 ^ 8 = pow_mono h in
        omega arith
    go false d = let z = get_or-eq_default l 0 {n = i} (ltb-false i (length l) d) in omega arith
