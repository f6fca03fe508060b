-- Scans that go up by one and are left at the first that passes: `any_below` by one step, and the lists of the rules by their numbers.
use mathlib.Core.Path.{◌≡◌, refl, ap, sym, ◌∙◌}
use mathlib.Core.Bool.{Bool, true, false, not, ◌&&◌, ◌||◌}
use mathlib.Core.List.{List, [], ◌∷◌, ◌++◌}
use Prim.Native.Nat.{ℕ, zero, suc, ◌+◌, ◌-◌, ◌*◌, ◌≤◌, ◌<◌}
use native.Mathlib.Nat.{add-suc, add-zero}
use native.Mathlib.Numerals.{add-one}
use native.Mathlib.Omega.{arith}
use borrow.Author.Tests.{eqb-true, eq-eqb}
use lib.Dec.{T, eqb, eqb→eq, eqb_refl}
use lib.ListN.{length, get_or, take, drop}
use lib.Seq.{take-suc, get_or-drop}
use Rattle.rules.specs.Tests.{any, all, any_below, all_in, bit, eqs}
use Rattle.rules.specs.Words.{Pair}
use Rattle.rules.specs.Lent.{pairs_of}
use Rattle.rules.proofs.Sound.{and_l, and_r}
use Rattle.rules.proofs.Codec.{or_no, any_last}

-- ---- Booleans

pub or_swap : (a b : Bool) → a || b ≡ b || a
or_swap true b = go b
  where
    go : (b : Bool) → true ≡ b || true
    go true = refl
    go false = refl
or_swap false b = sym (or_no b)

pub holds : (b : Bool) → T b → b ≡ true
holds true t = refl
holds false t = absurd t

pub fails : (b : Bool) → (b ≡ true → ⊥) → b ≡ false
fails true h = absurd (h refl)
fails false h = refl

pub both_ways : (a b : Bool) → (a ≡ true → b ≡ true) → (b ≡ true → a ≡ true) → a ≡ b
both_ways true b p q = sym (p refl)
both_ways false true p q = q refl
both_ways false false p q = refl

-- ---- numbers

pub turn : (a b : ℕ) → eqb a b ≡ eqb b a
turn a b = both_ways (eqb a b) (eqb b a) (λ e. eq-eqb b a (sym (eqb-true a b e))) (λ e. eq-eqb a b (sym (eqb-true b a e)))

-- one more that does not pass
pub below_more : (p : ℕ → Bool) (i : ℕ) → any_below p i ≡ false → p i ≡ false → any_below p (i + 1) ≡ false
below_more p i e h = rw (add-one, e, h)

below_far : (p : ℕ → Bool) (i : ℕ) → p i ≡ true → (d : ℕ) → any_below p (suc i + d) ≡ true
below_far p i h zero = rw (add-zero, h)
below_far p i h (suc d) = rw (add-suc, below_far p i h d) (or_swap (p (suc i + d)) true)

-- one that passes
pub below_here : (p : ℕ → Bool) (i n : ℕ) → i < n → p i ≡ true → any_below p n ≡ true
below_here p i n l h = let e : n ≡ suc i + (n - suc i) = omega arith in rw e (below_far p i h (n - suc i))

-- the same test below n
pub below_same : (p q : ℕ → Bool) (n : ℕ) → ((i : ℕ) → i < n → p i ≡ q i) → any_below p n ≡ any_below q n
below_same p q zero f = refl
below_same p q (suc n) f = rw (f n (omega arith), below_same p q n (λ i l. f i (omega arith)))

-- ---- lists by their numbers

-- the first n of a list
pub take_below : (p : ℕ → Bool) (l : List ℕ) (n : ℕ) → n ≤ length l → any p (take n l) ≡ any_below (λ k. p (get_or l k 0)) n
take_below p l zero h = refl
take_below p l (suc n) h =
    ap (any p) (take-suc l n 0 h) ∙ any_last p (take n l) (get_or l n 0)
    ∙ rw (take_below p l n (omega arith)) (or_swap (any_below (λ k. p (get_or l k 0)) n) (p (get_or l n 0)))

-- the pair numbered k of an array
abbrev pub pair_at : List ℕ → ℕ → Pair
pair_at s k = (get_or s (2 * k) 0, get_or s (2 * k + 1) 0)

-- the first n pairs: one more stands last
pub pairs_last : (s : List ℕ) (n : ℕ) → pairs_of (suc n) s ≡ pairs_of n s ++ (pair_at s n ∷ [])
pairs_last s zero = refl
pairs_last s (suc n) =
    let e : 2 + 2 * n ≡ 2 * suc n = omega arith in
    let f : 2 + (2 * n + 1) ≡ 2 * suc n + 1 = omega arith in
    ap (λ (t : List Pair). (get_or s 0 0, get_or s 1 0) ∷ t) (pairs_last (drop 2 s) n ∙ rw (get_or-drop 2 s (2 * n) 0, get_or-drop 2 s (2 * n + 1) 0, e, f))

pub pairs_below : (p : Pair → Bool) (s : List ℕ) (n : ℕ) → any p (pairs_of n s) ≡ any_below (λ k. p (pair_at s k)) n
pairs_below p s zero = refl
pairs_below p s (suc n) =
    ap (any p) (pairs_last s n) ∙ any_last p (pairs_of n s) (pair_at s n)
    ∙ rw (pairs_below p s n) (or_swap (any_below (λ k. p (pair_at s k)) n) (p (pair_at s n)))

-- all pass: none fails
pub all_none : {A : Type 0} (p : A → Bool) (l : List A) → all p l ≡ not (any (λ x. not (p x)) l)
all_none p [] = refl
all_none p (x ∷ l) = go (p x) (all_none p l)
  where
    go : (b : Bool) → all p l ≡ not (any (λ x. not (p x)) l) → b && all p l ≡ not (not b || any (λ x. not (p x)) l)
    go true e = e
    go false e = refl

-- every node of a set passes: none is of the set and fails
pub in_none : (n q : ℕ) (p : ℕ → Bool) → all_in n q p ≡ not (any_below (λ a. bit q a && not (p a)) n)
in_none zero q p = refl
in_none (suc n) q p = rw (in_none n q p) (go (bit q n) (p n) (any_below (λ a. bit q a && not (p a)) n))
  where
    go : (a b c : Bool) → (not a || b) && not c ≡ not ((a && not b) || c)
    go true true c = refl
    go true false c = refl
    go false b c = refl

-- ---- two lists

pub eqs_means : (s t : List ℕ) → T (eqs s t) → s ≡ t
eqs_means [] [] e = refl
eqs_means [] (y ∷ t) e = absurd e
eqs_means (x ∷ s) [] e = absurd e
eqs_means (x ∷ s) (y ∷ t) e =
    let a = eqb→eq x y (and_l (eqb x y) (eqs s t) e) in
    let b = eqs_means s t (and_r (eqb x y) (eqs s t) e) in
    λ i. a i ∷ b i

pub eqs_refl : (s : List ℕ) → eqs s s ≡ true
eqs_refl [] = refl
eqs_refl (x ∷ s) = rw (holds (eqb x x) (eqb_refl x), eqs_refl s)

pub eqs_same : (s t : List ℕ) → s ≡ t → eqs s t ≡ true
eqs_same s t e = rw e (eqs_refl t)

-- a place where they differ
pub eqs_differ : (s t : List ℕ) (i : ℕ) → (get_or s i 0 ≡ get_or t i 0 → ⊥) → eqs s t ≡ false
eqs_differ s t i h = fails (eqs s t) (λ e. h (ap (λ (l : List ℕ). get_or l i 0) (eqs_means s t (rw e tt))))
