-- Tests over lists: what passes of each passes of all, and the other way round.
use mathlib.Core.Path.{◌≡◌, refl, sym, subst}
use mathlib.Core.Bool.{Bool, true, false, not, ◌||◌}
use mathlib.Core.List.{List, [], ◌∷◌, ◌++◌}
use Prim.Native.Nat.{ℕ, zero, suc, ◌<◌}
use native.Mathlib.Decide.{ℕ_discrete}
use native.Mathlib.Omega.{arith}
use lib.Dec.{T, eqb, eqb→eq, eqb_refl}
use Rattle.rules.specs.Tests.{any, all, all_below, distinct}
use Rattle.rules.specs.Words.{Msg, same_msg}
use Rattle.rules.specs.Lent.{is_1b_at, same_scan}
use Rattle.rules.proofs.Sound.{and_l, and_r, same_msg_equal, and_two, same_refl}
use Rattle.rules.proofs.Codec.{any_last, or_no}
use Rattle.rules.proofs.Lists.{failed}

pub all-below : (p : ℕ → Bool) (n : ℕ) → T (all_below p n) → (k : ℕ) → k < n → T (p k)
all-below p zero t k l = absurd (omega arith)
all-below p (suc n) t k l = go (all-below p n (and_r (p n) (all_below p n) t) k) (ℕ_discrete k n)
  where
    go : (k < n → T (p k)) → Dec (k ≡ n) → T (p k)
    go r (yes e) = rw e (and_l (p n) (all_below p n) t)
    go r (no e) = r (omega arith)

pub below_all : (p : ℕ → Bool) (n : ℕ) → ((k : ℕ) → k < n → T (p k)) → T (all_below p n)
below_all p zero h = tt
below_all p (suc n) h = and_two (p n) (all_below p n) (h n (omega arith)) (below_all p n (λ k l. h k (omega arith)))

pub all_last : {A : Type 0} (p : A → Bool) (l : List A) (x : A) → T (all p l) → T (p x) → T (all p (l ++ (x ∷ [])))
all_last p [] x s t = and_two (p x) true t tt
all_last p (y ∷ l) x s t = and_two (p y) (all p (l ++ (x ∷ []))) (and_l (p y) (all p l) s) (all_last p l x (and_r (p y) (all p l) s) t)

pub all_more : {A : Type 0} (p q : A → Bool) (l : List A) → ((x : A) → T (p x) → T (q x)) → T (all p l) → T (all q l)
all_more p q [] h t = tt
all_more p q (y ∷ l) h t = and_two (q y) (all q l) (h y (and_l (p y) (all p l) t)) (all_more p q l h (and_r (p y) (all p l) t))

or_false : (a b : Bool) → a || b ≡ false → (a ≡ false) × (b ≡ false)
or_false false b e = (refl, e)
or_false true b e = absurd (let z : ◌≡◌ {A = ℕ} 0 1 = cc in omega arith)

-- one that equals none before it, put last
module _ {A : Type 0} (same : A → A → Bool) (flip : (x y : A) → same x y ≡ false → same y x ≡ false) where
  any_end : (y x : A) (l : List A) → T (not (any (same y) l)) → same x y ≡ false → T (not (any (same y) (l ++ (x ∷ []))))
  any_end y x l t e = rw (any_last (same y) l x, flip x y e, or_no (any (same y) l)) t

  pub distinct_last : (l : List A) (x : A) → T (distinct same l) → any (same x) l ≡ false → T (distinct same (l ++ (x ∷ [])))
  distinct_last [] x t e = tt
  distinct_last (y ∷ l) x t e =
      let f = or_false (same x y) (any (same x) l) e in
      and_two (not (any (same y) (l ++ (x ∷ [])))) (distinct same (l ++ (x ∷ []))) (any_end y x l (and_l (not (any (same y) l)) (distinct same l) t) f.0)
      (distinct_last l x (and_r (not (any (same y) l)) (distinct same l) t) f.1)

pub same_flip : (x y : Msg) → same_msg x y ≡ false → same_msg y x ≡ false
same_flip x y e = failed (same_msg y x) (λ t. subst T e (subst (λ (w : Msg). T (same_msg x w)) (sym (same_msg_equal y x t)) (same_refl x)))

pub scan_flip : (p q : ℕ × ℕ) → same_scan p q ≡ false → same_scan q p ≡ false
scan_flip p q e = failed (same_scan q p) (λ t.
    let u = eqb→eq q.0 p.0 (and_l (eqb q.0 p.0) (eqb q.1 p.1) t) in
    let v = eqb→eq q.1 p.1 (and_r (eqb q.0 p.0) (eqb q.1 p.1) t) in
    subst T e (and_two (eqb p.0 q.0) (eqb p.1 q.1) (rw u (eqb_refl p.0)) (rw v (eqb_refl p.1))))

pub is1b_last : (l : List Msg) (x : Msg) (k : ℕ) → T (is_1b_at l k) → T (is_1b_at (l ++ (x ∷ [])) k)
is1b_last [] x k t = absurd t
is1b_last (y ∷ l) x zero t = t
is1b_last (y ∷ l) x (suc k) t = is1b_last l x k t
