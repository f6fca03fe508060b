-- A tube without votes: sets added up are 0 exactly when each is empty, and empty sets carry no tube.
use mathlib.Core.Path.{◌≡◌, refl, ap, sym, ◌∙◌}
use mathlib.Core.Bool.{Bool, true, false, ◌&&◌, ◌||◌}
use mathlib.Core.List.{List}
use Prim.Native.Nat.{ℕ, zero, suc, ◌+◌, ◌-◌, ◌*◌}
use native.Mathlib.Nat.{add-zero}
use native.Mathlib.Numerals.{add-one}
use native.Mathlib.Omega.{arith}
use borrow.Author.Tests.{eqb-true, eqb-false, ne_eqb}
use lib.Dec.{eqb}
use lib.ListN.{get_or}
use Rattle.rules.specs.Tests.{all_below, any_below}
use Rattle.tell.specs.Votes.{unvoted}
use Rattle.tell.specs.Chosen.{filled, carried}

sum_none : (s x : ℕ) → eqb (s + x) 0 ≡ eqb x 0 && eqb s 0
sum_none s x = go (eqb x 0) refl
  where
    go : (q : Bool) → eqb x 0 ≡ q → eqb (s + x) 0 ≡ q && eqb s 0
    go true e = ap (λ (y : ℕ). eqb (s + y) 0) (eqb-true x 0 e) ∙ ap (λ (y : ℕ). eqb y 0) (add-zero s)
    go false e = ne_eqb (s + x) 0 (λ z. eqb-false x 0 e (omega (arith, z)))

-- one set more
pub none_more : (p : ℕ → ℕ) (sum b r : ℕ) → eqb sum 0 ≡ all_below (λ i. eqb (p i) 0) b → r ≡ sum + p b → eqb r 0 ≡ all_below (λ i. eqb (p i) 0) (b + 1)
none_more p sum b r h e = ap (λ (y : ℕ). eqb y 0) e ∙ sum_none sum (p b) ∙ ap (λ (q : Bool). eqb (p b) 0 && q) h ∙ rw add-one

-- what no empty set does, none of these does
none_does : (f : ℕ → Bool) (p : ℕ → ℕ) (n : ℕ) → f 0 ≡ false → all_below (λ i. eqb (p i) 0) n ≡ true → any_below (λ i. f (p i)) n ≡ false
none_does f p zero h e = refl
none_does f p (suc n) h e = go (eqb (p n) 0) refl e (none_does f p n h)
  where
    go : (q : Bool) → eqb (p n) 0 ≡ q → q && all_below (λ i. eqb (p i) 0) n ≡ true → (all_below (λ i. eqb (p i) 0) n ≡ true → any_below (λ i. f (p i)) n ≡ false)
        → f (p n) || any_below (λ i. f (p i)) n ≡ false
    go true d k more = rw (eqb-true (p n) 0 d, h) (more k)
    go false d k more = absurd (omega (arith, ap (λ (q : Bool). numbered q) k))
      where
        numbered : Bool → ℕ
        numbered true = 1
        numbered false = 0

pub none_carried : (nodes : ℕ) (quorums votes : List ℕ) (v : ℕ) {at : ℕ} → at ≡ 16 * (v - 1) → filled nodes quorums 0 ≡ false → unvoted votes at ≡ true → carried nodes quorums votes v ≡ false
unfolding carried
none_carried nodes quorums votes v {at} d h e =
    none_does (filled nodes quorums) (λ b. get_or votes (16 * (v - 1) + b) 0) 16 h (ap (unvoted votes) (sym d) ∙ e)
