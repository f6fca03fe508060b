-- Scans that are left at the first that fails: `all_below` by one step, and the lists of the rules by their indices.
use mathlib.Core.Path.{◌≡◌, refl, ap, sym, ◌∙◌}
use mathlib.Core.Bool.{Bool, true, false, not, ◌&&◌, ◌||◌, and-false}
use mathlib.Core.List.{List, [], ◌∷◌, ◌++◌}
use Prim.Native.Nat.{ℕ, zero, suc, ◌+◌, ◌-◌, ◌*◌, ◌≤◌, ◌<◌}
use native.Mathlib.Nat.{add-suc, add-zero, mul-zero, mul-suc}
use native.Mathlib.Numerals.{add-one}
use native.Mathlib.Omega.{arith}
use lib.ListN.{length, get_or, take}
use lib.Seq.{take-suc, get_or-take, length-take-le}
use Rattle.rules.specs.Tests.{any, all, any_below, all_below, distinct}
use Rattle.rules.specs.Lent.{board_of, meaning, msg_at, intake_of}

-- ---- numbers

-- one more that passes
pub each_more : (p : ℕ → Bool) (i : ℕ) → all_below p i ≡ true → p i ≡ true → all_below p (i + 1) ≡ true
each_more p i e h = rw (add-one, e, h)

each_far : (p : ℕ → Bool) (i : ℕ) → p i ≡ false → (d : ℕ) → all_below p (suc i + d) ≡ false
each_far p i h zero = rw (add-zero, h)
each_far p i h (suc d) = rw (add-suc, each_far p i h d) (and-false (p (suc i + d)))

-- one that fails
pub each_stop : (p : ℕ → Bool) (i n : ℕ) → i < n → p i ≡ false → all_below p n ≡ false
each_stop p i n l h =
    let e : n ≡ suc i + (n - suc i) = omega arith in
    rw e (each_far p i h (n - suc i))

-- all pass: each does
pub each_at : (p : ℕ → Bool) (n i : ℕ) → all_below p n ≡ true → i < n → p i ≡ true
each_at p n i e l = go (p i) refl
  where
    go : (b : Bool) → p i ≡ b → b ≡ true
    go true d = refl
    go false d = sym (each_stop p i n l d) ∙ e

-- each passes: all do
pub each_all : (p : ℕ → Bool) (n : ℕ) → ((i : ℕ) → i < n → p i ≡ true) → all_below p n ≡ true
each_all p zero f = refl
each_all p (suc n) f = rw (f n (omega arith), each_all p n (λ i l. f i (omega arith)))

-- the same test below n
pub each_same : (p q : ℕ → Bool) (n : ℕ) → ((i : ℕ) → i < n → p i ≡ q i) → all_below p n ≡ all_below q n
each_same p q zero f = refl
each_same p q (suc n) f = rw (f n (omega arith), each_same p q n (λ i l. f i (omega arith)))

pub and_assoc : (a b c : Bool) → a && (b && c) ≡ (a && b) && c
and_assoc true b c = refl
and_assoc false b c = refl

and_swap : (a b c d : Bool) → (a && b) && (c && d) ≡ (a && c) && (b && d)
and_swap true b true d = refl
and_swap true b false d = and-false b
and_swap false b c d = refl

-- two tests in one scan
pub each_both : (p q : ℕ → Bool) (n : ℕ) → all_below (λ i. p i && q i) n ≡ all_below p n && all_below q n
each_both p q zero = refl
each_both p q (suc n) = rw (each_both p q n) (and_swap (p n) (q n) (all_below p n) (all_below q n))

-- none passes: all fail
pub each_not : (p : ℕ → Bool) (n : ℕ) → not (any_below p n) ≡ all_below (λ i. not (p i)) n
each_not p zero = refl
each_not p (suc n) = go (p n) (each_not p n)
  where
    go : (b : Bool) → not (any_below p n) ≡ all_below (λ i. not (p i)) n → not (b || any_below p n) ≡ not b && all_below (λ i. not (p i)) n
    go true e = refl
    go false e = e

each_join : (p : ℕ → Bool) (n w : ℕ) → all_below p (n + w) ≡ all_below (λ i. p (n + i)) w && all_below p n
each_join p n zero = rw add-zero
each_join p n (suc w) = rw (add-suc, each_join p n w) (and_assoc (p (n + w)) (all_below (λ i. p (n + i)) w) (all_below p n))

-- a scan goes by parts of w numbers
pub each_parts : (p : ℕ → Bool) (w n : ℕ) → all_below p (w * n) ≡ all_below (λ a. all_below (λ i. p (w * a + i)) w) n
each_parts p w zero = rw mul-zero
each_parts p w (suc n) = rw (mul-suc, each_join p (w * n) w, each_parts p w n)

-- ---- lists that are built by adding the last

abbrev pub build : {A : Type 0} → (ℕ → A) → ℕ → List A
build f zero = []
build f (suc n) = build f n ++ (f n ∷ [])

pub board_build : (s : List ℕ) (n : ℕ) → board_of s n ≡ build (λ i. meaning (msg_at s i)) n
board_build s zero = refl
board_build s (suc n) = rw (board_build s n)

pub intake_build : (a b : List ℕ) (n : ℕ) → intake_of a b n ≡ build (λ i. (get_or a i 0, get_or b i 0)) n
intake_build a b zero = refl
intake_build a b (suc n) = rw (intake_build a b n)

-- the intake of the first n of two lists is the first n scans
fronts : (a b : List ℕ) (n k : ℕ) → k ≤ n → intake_of (take n a) (take n b) k ≡ intake_of a b k
fronts a b n zero h = refl
fronts a b n (suc k) h = rw (fronts a b n k (omega arith), get_or-take n a k 0 (omega arith), get_or-take n b k 0 (omega arith))

pub intake_front : (a b : List ℕ) (n : ℕ) → n ≤ length a → intake_of (take n a) (take n b) (length (take n a)) ≡ intake_of a b n
intake_front a b n h = rw (length-take-le n a h) (fronts a b n n (omega arith))

pub take-build : (l : List ℕ) (n : ℕ) → n ≤ length l → take n l ≡ build (λ i. get_or l i 0) n
take-build l zero h = refl
take-build l (suc n) h = take-suc l n 0 h ∙ rw (take-build l n (omega arith))

all_last : {A : Type 0} (p : A → Bool) (l : List A) (x : A) → all p (l ++ (x ∷ [])) ≡ p x && all p l
all_last p [] x = refl
all_last p (y ∷ l) x = rw (all_last p l x) (and_left (p y) (p x) (all p l))
  where
    and_left : (a b c : Bool) → a && (b && c) ≡ b && (a && c)
    and_left true b c = refl
    and_left false b c = sym (and-false b)

pub all_build : {A : Type 0} (p : A → Bool) (f : ℕ → A) (n : ℕ) → all p (build f n) ≡ all_below (λ i. p (f i)) n
all_build p f zero = refl
all_build p f (suc n) = all_last p (build f n) (f n) ∙ rw (all_build p f n)

-- the first n of a list pass
pub all_take : (p : ℕ → Bool) (l : List ℕ) (n : ℕ) → n ≤ length l → all p (take n l) ≡ all_below (λ i. p (get_or l i 0)) n
all_take p l n h = ap (all p) (take-build l n h) ∙ all_build p (λ i. get_or l i 0) n

-- no element of the list is the same as a later one
not_any : {A : Type 0} (p : A → Bool) (l : List A) → not (any p l) ≡ all (λ x. not (p x)) l
not_any p [] = refl
not_any p (x ∷ l) = go (p x) (not_any p l)
  where
    go : (b : Bool) → not (any p l) ≡ all (λ x. not (p x)) l → not (b || any p l) ≡ not b && all (λ x. not (p x)) l
    go true e = refl
    go false e = e

distinct_last : {A : Type 0} (same : A → A → Bool) (l : List A) (x : A)
    → distinct same (l ++ (x ∷ [])) ≡ all (λ y. not (same y x)) l && distinct same l
distinct_last same [] x = refl
distinct_last same (y ∷ l) x =
    rw (not_any (same y) (l ++ (x ∷ [])), all_last (λ z. not (same y z)) l x, distinct_last same l x, not_any (same y) l)
    (and_swap (not (same y x)) (all (λ z. not (same y z)) l) (all (λ z. not (same z x)) l) (distinct same l))

-- no element is the same as an earlier one
pub distinct-build : {A : Type 0} (same : A → A → Bool) (f : ℕ → A) (n : ℕ)
    → distinct same (build f n) ≡ all_below (λ i. all_below (λ j. not (same (f j) (f i))) i) n
distinct-build same f zero = refl
distinct-build same f (suc n) =
    distinct_last same (build f n) (f n)
    ∙ rw (all_build (λ y. not (same y (f n))) f n, distinct-build same f n)
