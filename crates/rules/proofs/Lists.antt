-- Laws of tests over lists: of `any`, of `keep`, of the numbers from 1 on, of `leading`, and of numbers that climb.
use mathlib.Core.Path.{◌≡◌, refl, sym, ap, ◌∙◌}
use mathlib.Core.Bool.{Bool, true, false, ◌&&◌, ◌||◌, or-false}
use mathlib.Core.Logic.{◌⊎◌, inl, inr, ◌↔◌}
use mathlib.Core.List.Memᴰ
use mathlib.Core.List.{List, [], ◌∷◌, ◌++◌, map, append-nil, Memᴰ}
use Prim.Native.Nat.{ℕ, zero, suc, ◌+◌, ◌≤◌, ◌<◌}
use native.Mathlib.Nat.{not-suc-le-zero, add-zero, zero-add, add-suc, suc-add}
use native.Mathlib.Decide.{ℕ_discrete}
use native.Mathlib.Omega.{arith}
use borrow.Author.Tests.{eqb-true, eqb-false}
use lib.Dec.{T, eqb, ltb, ltb→lt, lt→ltb}
use lib.ListN.{length, length-append}
use lib.Seq.{append_snoc}
use Rattle.rules.specs.Tests.{pick, any, any_below, keep, up_to}
use Rattle.rules.specs.Book.{leading}
use Rattle.rules.specs.Laws.{climbs}
use Rattle.rules.proofs.Sound.{and_l, and_r, or_l, or_r, any_sound, and_two}

-- ---- a test and its truth

pub failed : (b : Bool) → ¬ (T b) → b ≡ false
failed true f = absurd (f tt)
failed false f = refl

-- ---- any

pub any_in : {A : Type 0} (p : A → Bool) (l : List A) (x : A) → Memᴰ x l → T (p x) → T (any p l)
any_in p [] x m t = absurd (Memᴰ.not-nil m)
any_in p (y ∷ ys) x m t = go (λ n. any_in p ys x n t) (Memᴰ.cases_cons m)
  where
    go : (Memᴰ x ys → T (any p ys)) → (x ≡ y) ⊎ Memᴰ x ys → T (p y || any p ys)
    go r (inl e) = or_l (p y) (any p ys) (rw e at t)
    go r (inr n) = or_r (p y) (any p ys) (r n)

pub any_append : {A : Type 0} (p : A → Bool) (l m : List A) → any p (l ++ m) ≡ any p l || any p m
any_append p [] m = refl
any_append p (x ∷ l) m = rw (any_append p l m) (or_first (p x))
  where
    or_first : (b : Bool) → b || (any p l || any p m) ≡ (b || any p l) || any p m
    or_first true = refl
    or_first false = refl

pub any_same : {A : Type 0} (p q : A → Bool) (l : List A) → ((x : A) → Memᴰ x l → p x ≡ q x) → any p l ≡ any q l
any_same p q [] h = refl
any_same p q (x ∷ l) h = rw (h x (Memᴰ.head refl), any_same p q l (λ y m. h y (Memᴰ.tail m)))

pub below_in : (p : ℕ → Bool) (n c : ℕ) → c < n → T (p c) → T (any_below p n)
below_in p zero c h t = absurd (not-suc-le-zero h)
below_in p (suc n) c h t = go (λ k. below_in p n c k t) (ℕ_discrete c n)
  where
    go : (c < n → T (any_below p n)) → Dec (c ≡ n) → T (p n || any_below p n)
    go r (yes e) = or_l (p n) (any_below p n) (rw e at t)
    go r (no e) = or_r (p n) (any_below p n) (r (omega arith))

-- ---- map

pub map-append : {A B : Type 0} (f : A → B) (l m : List A) → map f (l ++ m) ≡ map f l ++ map f m
map-append f [] m = refl
map-append f (x ∷ l) m = rw (map-append f l m)

pub map_same : {A B : Type 0} (f g : A → B) (l : List A) → ((x : A) → Memᴰ x l → f x ≡ g x) → map f l ≡ map g l
map_same f g [] h = refl
map_same f g (x ∷ l) h = rw (h x (Memᴰ.head refl), map_same f g l (λ y m. h y (Memᴰ.tail m)))

-- ---- the numbers from 1 to n

-- the n numbers after k
abbrev pub onwards : ℕ → ℕ → List ℕ
onwards k zero = []
onwards k (suc n) = suc k ∷ onwards (suc k) n

pub up_more : (k n : ℕ) → up_to (k + n) ≡ up_to k ++ onwards k n
up_more k zero = rw (add-zero, append-nil)
up_more k (suc n) = ap up_to (add-suc k n ∙ sym (suc-add k n)) ∙ up_more (suc k) n ∙ append_snoc (up_to k) (suc k) (onwards (suc k) n)

pub up_onwards : (n : ℕ) → up_to n ≡ onwards 0 n
up_onwards n = ap up_to (sym (zero-add n)) ∙ up_more 0 n

pub length_up : (n : ℕ) → length (up_to n) ≡ n
length_up zero = refl
length_up (suc n) = rw length-append (omega (arith, length_up n))

pub up_in : (n x : ℕ) → 1 ≤ x → x ≤ n → Memᴰ x (up_to n)
up_in zero x h k = absurd (omega arith)
up_in (suc n) x h k = go (λ l. up_in n x h l) (ℕ_discrete x (suc n))
  where
    go : (x ≤ n → Memᴰ x (up_to n)) → Dec (x ≡ suc n) → Memᴰ x (up_to n ++ (suc n ∷ []))
    go r (yes e) = Memᴰ.append_right (up_to n) (Memᴰ.head e)
    go r (no e) = Memᴰ.append_left (suc n ∷ []) (r (omega arith))

pub up_out : (n x : ℕ) → Memᴰ x (up_to n) → (1 ≤ x) × (x ≤ n)
up_out zero x m = absurd (Memᴰ.not-nil m)
up_out (suc n) x m = go (up_out n x) (Memᴰ.append_cases (up_to n) m)
  where
    go : (Memᴰ x (up_to n) → (1 ≤ x) × (x ≤ n)) → Memᴰ x (up_to n) ⊎ Memᴰ x (suc n ∷ []) → (1 ≤ x) × (x ≤ suc n)
    go r (inl o) = let h = r o in omega arith
    go r (inr o) = let e = Memᴰ.eq_of_singleton o in omega arith

pub any_up : (p : ℕ → Bool) (n : ℕ) → T (any p (up_to n)) ↔ ((x : ℕ) × (1 ≤ x) × (x ≤ n) × T (p x))
any_up p n = (there, λ h. any_in p (up_to n) h.0 (up_in n h.0 h.1 h.2) h.3)
  where
    there : T (any p (up_to n)) → (x : ℕ) × (1 ≤ x) × (x ≤ n) × T (p x)
    there t =
        let z = any_sound p (up_to n) t in
        let h = up_out n z.0 z.1 in
        (z.0, h.0, h.1, z.2)

-- one number more
pub any_next : (p : ℕ → Bool) (n : ℕ) → any p (up_to (suc n)) ≡ any p (up_to n) || p (suc n)
any_next p n = any_append p (up_to n) (suc n ∷ []) ∙ ap (λ (b : Bool). any p (up_to n) || b) (or-false (p (suc n)))

pub map_next : {A : Type 0} (f : ℕ → A) (n : ℕ) → map f (up_to (suc n)) ≡ map f (up_to n) ++ (f (suc n) ∷ [])
map_next f n = map-append f (up_to n) (suc n ∷ [])

-- ---- keep

pub keep_append : (p : ℕ → Bool) (l m : List ℕ) → keep p (l ++ m) ≡ keep p l ++ keep p m
keep_append p [] m = refl
keep_append p (x ∷ l) m = go (p x) (keep_append p l m)
  where
    go : (b : Bool) → keep p (l ++ m) ≡ keep p l ++ keep p m → pick b (x ∷ keep p (l ++ m)) (keep p (l ++ m)) ≡ pick b (x ∷ keep p l) (keep p l) ++ keep p m
    go true e = ap (λ (k : List ℕ). x ∷ k) e
    go false e = e

pub keep-next : (p : ℕ → Bool) (n : ℕ) → keep p (up_to (suc n)) ≡ keep p (up_to n) ++ pick (p (suc n)) (suc n ∷ []) []
keep-next p n = keep_append p (up_to n) (suc n ∷ [])

pub keep_in : (p : ℕ → Bool) (l : List ℕ) (x : ℕ) → Memᴰ x l → T (p x) → Memᴰ x (keep p l)
keep_in p [] x m t = m
keep_in p (y ∷ l) x m t = go (p y) (λ e. rw e at t) (λ n. keep_in p l x n t) (Memᴰ.cases_cons m)
  where
    go : (b : Bool) → (x ≡ y → T b) → (Memᴰ x l → Memᴰ x (keep p l)) → (x ≡ y) ⊎ Memᴰ x l → Memᴰ x (pick b (y ∷ keep p l) (keep p l))
    go true f r (inl e) = Memᴰ.head e
    go true f r (inr n) = Memᴰ.tail (r n)
    go false f r (inl e) = absurd (f e)
    go false f r (inr n) = r n

pub keep_out : (p : ℕ → Bool) (l : List ℕ) (x : ℕ) → Memᴰ x (keep p l) → Memᴰ x l × T (p x)
keep_out p [] x m = absurd (Memᴰ.not-nil m)
keep_out p (y ∷ l) x m = go (p y) refl (keep_out p l x) m
  where
    later : Memᴰ x l × T (p x) → Memᴰ x (y ∷ l) × T (p x)
    later h = (Memᴰ.tail h.0, h.1)

    here : p y ≡ true → (Memᴰ x (keep p l) → Memᴰ x l × T (p x)) → (x ≡ y) ⊎ Memᴰ x (keep p l) → Memᴰ x (y ∷ l) × T (p x)
    here e r (inl d) = (Memᴰ.head d, rw (d, e) tt)
    here e r (inr n) = later (r n)

    go : (b : Bool) → p y ≡ b → (Memᴰ x (keep p l) → Memᴰ x l × T (p x)) → Memᴰ x (pick b (y ∷ keep p l) (keep p l)) → Memᴰ x (y ∷ l) × T (p x)
    go true e r n = here e r (Memᴰ.cases_cons n)
    go false e r n = later (r n)

pub length-keep : (p : ℕ → Bool) (l : List ℕ) → length (keep p l) ≤ length l
length-keep p [] = omega arith
length-keep p (x ∷ l) = go (p x) (length-keep p l)
  where
    go : (b : Bool) → length (keep p l) ≤ length l → length (pick b (x ∷ keep p l) (keep p l)) ≤ suc (length l)
    go true h = omega arith
    go false h = omega arith

-- ---- numbers that climb

pub climbs_lower : (j k : ℕ) (l : List ℕ) → j ≤ k → T (climbs k l) → T (climbs j l)
climbs_lower j k [] h t = tt
climbs_lower j k (x ∷ l) h t =
    let g : k < x = ltb→lt k x (and_l (ltb k x) (climbs x l) t) in
    and_two (ltb j x) (climbs x l) (lt→ltb j x (omega arith)) (and_r (ltb k x) (climbs x l) t)

pub climbs-keep : (p : ℕ → Bool) (k : ℕ) (l : List ℕ) → T (climbs k l) → T (climbs k (keep p l))
climbs-keep p k [] t = tt
climbs-keep p k (x ∷ l) t = go (p x) (climbs-keep p x l (and_r (ltb k x) (climbs x l) t))
  where
    above : T (ltb k x)
    above = and_l (ltb k x) (climbs x l) t

    low : k < x → k ≤ x
    low h = omega arith

    go : (b : Bool) → T (climbs x (keep p l)) → T (climbs k (pick b (x ∷ keep p l) (keep p l)))
    go true u = and_two (ltb k x) (climbs x (keep p l)) above u
    go false u = climbs_lower k x (keep p l) (low (ltb→lt k x above)) u

pub climbs-onwards : (k n : ℕ) → T (climbs k (onwards k n))
climbs-onwards k zero = tt
climbs-onwards k (suc n) = and_two (ltb k (suc k)) (climbs (suc k) (onwards (suc k) n)) (lt→ltb k (suc k) (omega arith)) (climbs-onwards (suc k) n)

pub climbs_up : (n : ℕ) → T (climbs 0 (up_to n))
climbs_up n = rw (up_onwards n) (climbs-onwards 0 n)

-- ---- leading

module _ (p : ℕ → Bool) where
  -- what one row more does: it passes right after the others, or the count stays
  abbrev Turn : ℕ → ℕ → Type 0
  Turn n x = ((x ≡ suc n) × (leading p n ≡ n) × T (p (suc n))) ⊎ ((x ≡ leading p n) × (leading p n ≡ n → ¬ (T (p (suc n)))))

  turn : (n : ℕ) → Turn n (leading p (suc n))
  turn n = go (eqb (leading p n) n) (p (suc n)) refl refl
    where
      go : (a b : Bool) → eqb (leading p n) n ≡ a → p (suc n) ≡ b → Turn n (pick (a && b) (suc n) (leading p n))
      go true true e d = inl (refl, eqb-true (leading p n) n e, rw d tt)
      go true false e d = inr (refl, λ g t. rw d at t)
      go false b e d = inr (refl, λ g t. eqb-false (leading p n) n e g)

  pub leading_le : (n : ℕ) → leading p n ≤ n
  leading_le zero = omega arith
  leading_le (suc n) = go (leading_le n) (turn n)
    where
      go : leading p n ≤ n → Turn n (leading p (suc n)) → leading p (suc n) ≤ suc n
      go h (inl w) = omega (arith, w.0)
      go h (inr w) = omega (arith, w.0)

  pub leading_pass : (n r : ℕ) → 1 ≤ r → r ≤ leading p n → T (p r)
  leading_pass zero r h k = absurd (omega arith)
  leading_pass (suc n) r h k = go (leading_pass n r h) (turn n) (ℕ_discrete r (suc n))
    where
      go : (r ≤ leading p n → T (p r)) → Turn n (leading p (suc n)) → Dec (r ≡ suc n) → T (p r)
      go f (inl w) (yes e) = rw e w.2
      go f (inl w) (no e) = f (omega (arith, w.0, w.1))
      go f (inr w) d = f (omega (arith, w.0))

  pub leading_stop : (n : ℕ) → leading p n < n → ¬ (T (p (suc (leading p n))))
  leading_stop zero h t = omega arith
  leading_stop (suc n) h t = go (leading_stop n) (leading_le n) (turn n) (ℕ_discrete (leading p n) n)
    where
      go : (leading p n < n → ¬ (T (p (suc (leading p n))))) → leading p n ≤ n → Turn n (leading p (suc n)) → Dec (leading p n ≡ n) → ⊥
      go f l (inl w) d = omega (arith, w.0)
      go f l (inr w) (yes e) = w.1 e (rw (w.0 ∙ e) at t)
      go f l (inr w) (no e) = f (omega arith) (rw w.0 at t)

  pub leading-most : (n m : ℕ) → m ≤ n → ((r : ℕ) → 1 ≤ r → r ≤ m → T (p r)) → m ≤ leading p n
  leading-most zero m h f = h
  leading-most (suc n) m h f = go (λ l. leading-most n m l f) (λ l. leading-most n n (omega arith) (λ r a b. f r a (omega arith))) (turn n) (ℕ_discrete m (suc n))
    where
      go : (m ≤ n → m ≤ leading p n) → (n ≤ m → n ≤ leading p n) → Turn n (leading p (suc n)) → Dec (m ≡ suc n) → m ≤ leading p (suc n)
      go a b (inl w) d = omega (arith, w.0)
      go a b (inr w) (yes e) =
          let l = b (omega arith) in
          absurd (w.1 (omega (arith, leading_le n)) (f (suc n) (omega arith) (omega arith)))
      go a b (inr w) (no e) = let l = a (omega arith) in omega (arith, w.0)

  pub leading_is : (n m : ℕ) → m ≤ n → ((r : ℕ) → 1 ≤ r → r ≤ m → T (p r)) → (m < n → ¬ (T (p (suc m)))) → leading p n ≡ m
  leading_is n m h f g = go (ℕ_discrete (leading p n) m) (leading-most n m h f) (leading_le n)
    where
      go : Dec (leading p n ≡ m) → m ≤ leading p n → leading p n ≤ n → leading p n ≡ m
      go (yes e) a b = e
      go (no e) a b = absurd (g (omega arith) (leading_pass n (suc m) (omega arith) (omega arith)))
