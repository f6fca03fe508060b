-- What the tests of the rules say when they pass.
use mathlib.Core.Path.{◌≡◌, refl, sym, ap, ◌∙◌}
use mathlib.Core.Bool.{Bool, true, false, not, ◌&&◌, ◌||◌}
use mathlib.Core.Logic.{◌⊎◌, inl, inr}
use mathlib.Core.List.Memᴰ
use mathlib.Core.List.{List, [], ◌∷◌, ◌++◌, Memᴰ}
use Prim.Native.Nat.{ℕ, zero, suc, ◌<◌}
use native.Mathlib.Nat.{not-suc-le-zero}
use native.Mathlib.Decide.{ℕ_discrete}
use native.Mathlib.Omega.{arith}
use lib.Dec.{T, eqb, ltb, ltb→lt, eqb→eq, eqb_refl}
use Rattle.rules.specs.Words.{Pair, Msg, m1a, m1b, m1c, m2av, m2b, Cell, Raw, raw_of, same_pairs, same_raw, same_msg}
use Rattle.rules.specs.Tests.{pick, any, all, any_below, bit, all_in, first}
use Rattle.rules.specs.Steps.{has, add, set_cell, without, heard_from}

-- ---- Booleans

pub and_l : (a b : Bool) → T (a && b) → T a
and_l true b t = tt
and_l false b t = t

pub and_r : (a b : Bool) → T (a && b) → T b
and_r true b t = t
and_r false b t = absurd t

pub and_two : (a b : Bool) → T a → T b → T (a && b)
and_two true b s t = t
and_two false b s t = absurd s

pub or_cases : (a b : Bool) → T (a || b) → T a ⊎ T b
or_cases true b t = inl tt
or_cases false b t = inr t

pub or_l : (a b : Bool) → T a → T (a || b)
or_l true b t = tt
or_l false b t = absurd t

pub or_r : (a b : Bool) → T b → T (a || b)
or_r true b t = tt
or_r false b t = t

pub not_or : (a b : Bool) → T (not a || b) → T a → T b
not_or true b t u = t
not_or false b t u = absurd u

-- ---- lists and sets

pub any_sound : {A : Type 0} (p : A → Bool) (l : List A) → T (any p l) → (x : A) × Memᴰ x l × T (p x)
any_sound p [] t = absurd t
any_sound p (x ∷ xs) t = go (λ u. any_sound p xs u) (or_cases (p x) (any p xs) t)
  where
    go : (T (any p xs) → (y : _) × Memᴰ y xs × T (p y)) → T (p x) ⊎ T (any p xs) → (y : _) × Memᴰ y (x ∷ xs) × T (p y)
    go r (inl u) = (x, Memᴰ.head refl, u)
    go r (inr u) = let z = r u in (z.0, Memᴰ.tail z.1, z.2)

pub all_sound : {A : Type 0} (p : A → Bool) (l : List A) → T (all p l) → (x : A) → Memᴰ x l → T (p x)
all_sound p [] t x m = absurd (Memᴰ.not-nil m)
all_sound p (y ∷ ys) t x m = go (all_sound p ys (and_r (p y) (all p ys) t) x) (Memᴰ.cases_cons m)
  where
    go : (Memᴰ x ys → T (p x)) → (x ≡ y) ⊎ Memᴰ x ys → T (p x)
    go r (inl e) = rw e (and_l (p y) (all p ys) t)
    go r (inr n) = r n

pub below_sound : (p : ℕ → Bool) (n : ℕ) → T (any_below p n) → (c : ℕ) × (c < n) × T (p c)
below_sound p zero t = absurd t
below_sound p (suc n) t = go (λ u. below_sound p n u) (or_cases (p n) (any_below p n) t)
  where
    go : (T (any_below p n) → (c : ℕ) × (c < n) × T (p c)) → T (p n) ⊎ T (any_below p n) → (c : ℕ) × (c < suc n) × T (p c)
    go r (inl u) = (n, omega arith, u)
    go r (inr u) = let z = r u in (z.0, omega (arith, z.1), z.2)

pub in_sound : (n q : ℕ) (p : ℕ → Bool) → T (all_in n q p) → (a : ℕ) → a < n → T (bit q a) → T (p a)
in_sound zero q p t a lt b = absurd (not-suc-le-zero lt)
in_sound (suc n) q p t a lt b = go (in_sound n q p (and_r (not (bit q n) || p n) (all_in n q p) t) a) (ℕ_discrete a n)
  where
    here : T (not (bit q n) || p n)
    here = and_l (not (bit q n) || p n) (all_in n q p) t

    go : (a < n → T (bit q a) → T (p a)) → Dec (a ≡ n) → T (p a)
    go r (yes e) = rw e (not_or (bit q n) (p n) here (rw e at b))
    go r (no e) = r (omega arith) b

-- ---- messages

pub same_pairs_equal : (ps qs : List Pair) → T (same_pairs ps qs) → ps ≡ qs
same_pairs_equal [] [] t = refl
same_pairs_equal [] (q ∷ qs) t = absurd t
same_pairs_equal (p ∷ ps) [] t = absurd t
same_pairs_equal (p ∷ ps) (q ∷ qs) t =
    let h = and_l (eqb p.0 q.0 && eqb p.1 q.1) (same_pairs ps qs) t in
    let e0 : p.0 ≡ q.0 = eqb→eq p.0 q.0 (and_l (eqb p.0 q.0) (eqb p.1 q.1) h) in
    let e1 : p.1 ≡ q.1 = eqb→eq p.1 q.1 (and_r (eqb p.0 q.0) (eqb p.1 q.1) h) in
    let er : ps ≡ qs = same_pairs_equal ps qs (and_r (eqb p.0 q.0 && eqb p.1 q.1) (same_pairs ps qs) t) in
    λ i. (e0 i, e1 i) ∷ er i

same_raw_equal : (x y : Raw) → T (same_raw x y) → x ≡ y
same_raw_equal x y t =
    let e0 : x.kind ≡ y.kind = search (eqb→eq, and_l, and_r) depth 9 in
    let e1 : x.row ≡ y.row = search (eqb→eq, and_l, and_r) depth 9 in
    let e2 : x.bal ≡ y.bal = search (eqb→eq, and_l, and_r) depth 9 in
    let e3 : x.node ≡ y.node = search (eqb→eq, and_l, and_r) depth 9 in
    let e4 : x.tube ≡ y.tube = search (eqb→eq, and_l, and_r) depth 9 in
    let e5 : x.mbal ≡ y.mbal = search (eqb→eq, and_l, and_r) depth 9 in
    let e6 : x.mval ≡ y.mval = search (eqb→eq, and_l, and_r) depth 9 in
    let e7 : x.pairs ≡ y.pairs = search (same_pairs_equal, and_l, and_r) depth 9 in
    λ i. record { kind = e0 i; row = e1 i; bal = e2 i; node = e3 i; tube = e4 i; mbal = e5 i; mval = e6 i; pairs = e7 i }

make : ℕ → Raw → Msg
make zero x = m1a 0 0
make (suc zero) x = m1a x.row x.bal
make (suc (suc zero)) x = m1b x.row x.bal x.node x.mbal x.mval x.pairs
make (suc (suc (suc zero))) x = m1c x.row x.bal x.tube
make (suc (suc (suc (suc zero)))) x = m2av x.row x.bal x.node x.tube
make (suc (suc (suc (suc (suc k))))) x = m2b x.row x.bal x.node x.tube

make_raw : (x : Msg) → make (raw_of x).kind (raw_of x) ≡ x
unfolding make
make_raw (m1a r b) = refl
make_raw (m1b r b n x y ps) = refl
make_raw (m1c r b v) = refl
make_raw (m2av r b n v) = refl
make_raw (m2b r b n v) = refl

pub same_msg_equal : (x y : Msg) → T (same_msg x y) → x ≡ y
same_msg_equal x y t = sym (make_raw x) ∙ ap (λ (z : Raw). make z.kind z) (same_raw_equal (raw_of x) (raw_of y) t) ∙ make_raw y

pairs_refl : (l : List Pair) → T (same_pairs l l)
pairs_refl [] = tt
pairs_refl (p ∷ l) = and_two (eqb p.0 p.0 && eqb p.1 p.1) (same_pairs l l) (and_two (eqb p.0 p.0) (eqb p.1 p.1) (eqb_refl p.0) (eqb_refl p.1)) (pairs_refl l)

seven : (a b c d e f g h : Bool) → T a → T b → T c → T d → T e → T f → T g → T h → T (a && b && c && d && e && f && g && h)
seven a b c d e f g h p q r s t u v w =
    and_two _ _ (and_two _ _ (and_two _ _ (and_two _ _ (and_two _ _ (and_two _ _ (and_two a b p q) r) s) t) u) v) w

-- a message is the same as itself
pub same_refl : (x : Msg) → T (same_msg x x)
same_refl x = let r = raw_of x in
    seven (eqb r.kind r.kind) (eqb r.row r.row) (eqb r.bal r.bal) (eqb r.node r.node) (eqb r.tube r.tube) (eqb r.mbal r.mbal) (eqb r.mval r.mval) (same_pairs r.pairs r.pairs)
    (eqb_refl r.kind) (eqb_refl r.row) (eqb_refl r.bal) (eqb_refl r.node) (eqb_refl r.tube) (eqb_refl r.mbal) (eqb_refl r.mval) (pairs_refl r.pairs)

-- ---- the board

pub has_sound : (m : Msg) (l : List Msg) → T (has m l) → Memᴰ m l
has_sound m l t = let z = any_sound (same_msg m) l t in rw (same_msg_equal m z.0 z.2) z.1

pub add-keep : (m : Msg) (l : List Msg) (x : Msg) → Memᴰ x l → Memᴰ x (add m l)
add-keep m l x h = go (has m l)
  where
    go : (b : Bool) → Memᴰ x (pick b l (l ++ (m ∷ [])))
    go true = h
    go false = Memᴰ.append_left (m ∷ []) h

pub add-fresh : (m : Msg) (l : List Msg) (x : Msg) → Memᴰ x (add m l) → Memᴰ x l ⊎ (x ≡ m)
add-fresh m l x h = go (has m l) h
  where
    last : Memᴰ x l ⊎ Memᴰ x (m ∷ []) → Memᴰ x l ⊎ (x ≡ m)
    last (inl o) = inl o
    last (inr o) = inr (Memᴰ.eq_of_singleton o)

    go : (b : Bool) → Memᴰ x (pick b l (l ++ (m ∷ []))) → Memᴰ x l ⊎ (x ≡ m)
    go true o = inl o
    go false o = last (Memᴰ.append_cases l o)

pub add_new : (m : Msg) (l : List Msg) → Memᴰ m (add m l)
add_new m l = go (has m l) refl
  where
    go : (b : Bool) → has m l ≡ b → Memᴰ m (pick b l (l ++ (m ∷ [])))
    go true e = has_sound m l (rw e tt)
    go false e = Memᴰ.append_right l (Memᴰ.head refl)

pub heard_on : (h : ℕ → Bool) (k : ℕ) (l : List Msg) (x : Msg) → Memᴰ x (heard_from h k l) → Memᴰ x l
heard_on h k [] x m = m
heard_on h k (y ∷ ys) x m = go (heard_on h (suc k) ys x) (h k) m
  where
    cons : (Memᴰ x (heard_from h (suc k) ys) → Memᴰ x ys) → (x ≡ y) ⊎ Memᴰ x (heard_from h (suc k) ys) → Memᴰ x (y ∷ ys)
    cons r (inl e) = Memᴰ.head e
    cons r (inr o) = Memᴰ.tail (r o)

    go : (Memᴰ x (heard_from h (suc k) ys) → Memᴰ x ys) → (b : Bool)
        → Memᴰ x (pick b (y ∷ heard_from h (suc k) ys) (heard_from h (suc k) ys)) → Memᴰ x (y ∷ ys)
    go r true o = cons r (Memᴰ.cases_cons o)
    go r false o = Memᴰ.tail (r o)

-- ---- cells

pub set_same : (f : ℕ → ℕ → Cell) (r n : ℕ) (c : Cell) → set_cell f r n c r n ≡ c
set_same f r n c = go (eqb r r) (eqb n n) (eqb_refl r) (eqb_refl n)
  where
    go : (a b : Bool) → T a → T b → pick (a && b) c (f r n) ≡ c
    go true true t u = refl
    go true false t u = absurd u
    go false b t u = absurd t

pub set_node : (f : ℕ → ℕ → Cell) (r n : ℕ) (c : Cell) (a : ℕ) → ¬ (a ≡ n) → set_cell f r n c r a ≡ f r a
set_node f r n c a h = go (eqb r r) (eqb a n) (λ t. h (eqb→eq a n t))
  where
    go : (x y : Bool) → ¬ (T y) → pick (x && y) c (f r a) ≡ f r a
    go true true t = absurd (t tt)
    go true false t = refl
    go false b t = refl

pub set_row : (f : ℕ → ℕ → Cell) (r n : ℕ) (c : Cell) (q a : ℕ) → ¬ (q ≡ r) → set_cell f r n c q a ≡ f q a
set_row f r n c q a h = go (eqb q r) (eqb a n) (λ t. h (eqb→eq q r t))
  where
    go : (x y : Bool) → ¬ (T x) → pick (x && y) c (f q a) ≡ f q a
    go true y t = absurd (t tt)
    go false y t = refl

pub without_sub : (v : ℕ) (l : List Pair) (p : Pair) → Memᴰ p (without v l) → Memᴰ p l
without_sub v [] p m = m
without_sub v (x ∷ xs) p m = go (without_sub v xs p) (eqb x.0 v) m
  where
    cons : (Memᴰ p (without v xs) → Memᴰ p xs) → (p ≡ x) ⊎ Memᴰ p (without v xs) → Memᴰ p (x ∷ xs)
    cons r (inl e) = Memᴰ.head e
    cons r (inr o) = Memᴰ.tail (r o)

    go : (Memᴰ p (without v xs) → Memᴰ p xs) → (b : Bool) → Memᴰ p (pick b (without v xs) (x ∷ without v xs)) → Memᴰ p (x ∷ xs)
    go r true o = Memᴰ.tail (r o)
    go r false o = cons r (Memᴰ.cases_cons o)

pub without-keep : (v : ℕ) (l : List Pair) (p : Pair) → ¬ (p.0 ≡ v) → Memᴰ p l → Memᴰ p (without v l)
without-keep v [] p h m = m
without-keep v (x ∷ xs) p h m = go (without-keep v xs p h) (eqb x.0 v) (eqb→eq x.0 v) (Memᴰ.cases_cons m)
  where
    go : (Memᴰ p xs → Memᴰ p (without v xs)) → (b : Bool) → (T b → x.0 ≡ v) → (p ≡ x) ⊎ Memᴰ p xs
        → Memᴰ p (pick b (without v xs) (x ∷ without v xs))
    go r true f (inl e) = absurd (h (ap (λ (z : Pair). z.0) e ∙ f tt))
    go r true f (inr o) = r o
    go r false f (inl e) = Memᴰ.head e
    go r false f (inr o) = Memᴰ.tail (r o)

-- ---- replies: 0 says that every test passed

abbrev pub Clear : List (Bool × ℕ) → Type 0
Clear [] = Unit {0}
Clear (x ∷ xs) = T x.0 × Clear xs

pub clear : (l : List (Bool × ℕ)) → T (all (λ (x : Bool × ℕ). ltb 0 x.1) l) → first l ≡ 0 → Clear l
clear [] t e = tt
clear (x ∷ xs) t e = go (clear xs (and_r (ltb 0 x.1) _ t)) x.0 e
  where
    go : (first xs ≡ 0 → Clear xs) → (b : Bool) → pick b (first xs) x.1 ≡ 0 → T b × Clear xs
    go r true z = (tt, r z)
    go r false z = absurd (omega (arith, ltb→lt 0 x.1 (and_l (ltb 0 x.1) (all (λ (x : Bool × ℕ). ltb 0 x.1) xs) t)))
