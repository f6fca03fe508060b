-- Every scanned tube has one line, in the book or among the waiting, and never two.
use mathlib.Core.Path.{◌≡◌, refl, sym}
use mathlib.Core.Bool.{Bool, true, false, not, ◌||◌, or-false}
use mathlib.Core.Logic.{◌⊎◌, inl, inr}
use mathlib.Core.List.Memᴰ
use mathlib.Core.List.{List, [], ◌∷◌, ◌++◌, map, Memᴰ}
use Prim.Native.Nat.{ℕ, zero, suc, ◌+◌, ◌-◌, ◌≤◌, ◌<◌}
use native.Mathlib.Nat.{zero-add}
use native.Mathlib.Decide.{ℕ_discrete, dec_lt}
use native.Mathlib.Omega.{arith}
use borrow.Author.Tests.{eqb-true, eq-eqb, ne_eqb}
use lib.Dec.{T, eqb, eqb_refl}
use lib.ListN.{length}
use Rattle.rules.specs.Tests.{pick, keep, up_to, one}
use Rattle.rules.specs.Words.{Room, State}
use Rattle.rules.specs.Book.{reach, row_tube, void, entry, book_of, stands, waiting_of}
use Rattle.rules.specs.Laws.{occurs, OneLine, OneRow, InBook, Waits, BookOrWaiting}
use Rattle.rules.proofs.Lists.{any_in, map_next, up_in}
use Rattle.rules.proofs.Book.{before, before_more, entry_next, book_row}

-- ---- how often a number stands in a list

pub occurs-append : (t : ℕ) (l m : List ℕ) → occurs t (l ++ m) ≡ occurs t l + occurs t m
occurs-append t [] m = sym (zero-add (occurs t m))
occurs-append t (x ∷ l) m = omega (arith, occurs-append t l m)

pub occurs-keep : (p : ℕ → Bool) (t : ℕ) (l : List ℕ) → occurs t (keep p l) ≡ pick (p t) (occurs t l) 0
occurs-keep p t [] = go (p t)
  where
    go : (c : Bool) → ◌≡◌ {A = ℕ} 0 (pick c 0 0)
    go true = refl
    go false = refl
occurs-keep p t (x ∷ l) = go (occurs-keep p t l) (ℕ_discrete x t)
  where
    same : (c : Bool) → occurs t (keep p l) ≡ pick c (occurs t l) 0 → occurs t (pick c (t ∷ keep p l) (keep p l)) ≡ pick c (one (eqb t t) + occurs t l) 0
    same true h = omega arith
    same false h = h

    other : (b c : Bool) → occurs t (keep p l) ≡ pick c (occurs t l) 0 → eqb x t ≡ false → occurs t (pick b (x ∷ keep p l) (keep p l)) ≡ pick c (one (eqb x t) + occurs t l) 0
    other true true h e = omega arith
    other true false h e = rw (e, zero-add) h
    other false true h e = rw (e, zero-add) h
    other false false h e = h

    go : occurs t (keep p l) ≡ pick (p t) (occurs t l) 0 → Dec (x ≡ t) → occurs t (pick (p x) (x ∷ keep p l) (keep p l)) ≡ pick (p t) (one (eqb x t) + occurs t l) 0
    go h (yes e) = rw e (same (p t) h)
    go h (no e) = other (p x) (p t) h (ne_eqb x t e)

up_over : (t n : ℕ) → n < t → occurs t (up_to n) ≡ 0
up_over t zero h = refl
up_over t (suc n) h = rw (occurs-append, up_over t n (omega arith), ne_eqb (suc n) t (λ e. omega arith))

pub occurs_up : (t n : ℕ) → 1 ≤ t → t ≤ n → occurs t (up_to n) ≡ 1
occurs_up t zero h k = absurd (omega arith)
occurs_up t (suc n) h k = go (λ l. occurs_up t n h l) (ℕ_discrete (suc n) t)
  where
    go : (t ≤ n → occurs t (up_to n) ≡ 1) → Dec (suc n ≡ t) → occurs t (up_to n ++ (suc n ∷ [])) ≡ 1
    go r (yes e) = rw (occurs-append, up_over t n (omega arith), eq-eqb (suc n) t e)
    go r (no e) = rw (occurs-append, r (omega arith), ne_eqb (suc n) t e)

pub occurs_in : (t : ℕ) (l : List ℕ) → Memᴰ t l → 1 ≤ occurs t l
occurs_in t [] m = absurd (Memᴰ.not-nil m)
occurs_in t (x ∷ l) m = go (occurs_in t l) (Memᴰ.cases_cons m)
  where
    go : (Memᴰ t l → 1 ≤ occurs t l) → (t ≡ x) ⊎ Memᴰ t l → 1 ≤ one (eqb x t) + occurs t l
    go r (inl e) = rw (eq-eqb x t (sym e)) (omega arith)
    go r (inr n) = let h = r n in omega arith

pub occurs_out : (t : ℕ) (l : List ℕ) → 1 ≤ occurs t l → Memᴰ t l
occurs_out t [] h = absurd (omega arith)
occurs_out t (x ∷ l) h = go (occurs_out t l) (eqb x t) refl h
  where
    go : (1 ≤ occurs t l → Memᴰ t l) → (b : Bool) → eqb x t ≡ b → 1 ≤ one b + occurs t l → Memᴰ t (x ∷ l)
    go r true e k = Memᴰ.head (sym (eqb-true x t e))
    go r false e k = Memᴰ.tail (r (omega arith))

-- ---- one line

-- a row enters its tube only where no earlier row holds it
enter : (f : ℕ → Bool) (x t : ℕ) → 1 ≤ t → one (f t) + (one (eqb (pick (f x) 0 x) t) + 0) ≡ one (f t || eqb x t)
enter f x t h = go (ℕ_discrete x t)
  where
    null : eqb 0 t ≡ false
    null = ne_eqb 0 t (λ e. omega arith)

    same : (b : Bool) → one b + (one (eqb (pick b 0 t) t) + 0) ≡ one (b || eqb t t)
    same true = rw null
    same false = omega arith

    other : (b c : Bool) → eqb x t ≡ false → one c + (one (eqb (pick b 0 x) t) + 0) ≡ one (c || eqb x t)
    other true c e = rw (null, e, or-false) (omega arith)
    other false c e = rw (e, or-false) (omega arith)

    go : Dec (x ≡ t) → one (f t) + (one (eqb (pick (f x) 0 x) t) + 0) ≡ one (f t || eqb x t)
    go (yes e) = rw e (same (f t))
    go (no e) = other (f x) (f t) (ne_eqb x t e)

pub occurs_rows : (ρ : Room) (s : State) (t m : ℕ) → 1 ≤ t → occurs t (map (entry ρ s) (up_to m)) ≡ one (before ρ s m t)
occurs_rows ρ s t zero h = refl
occurs_rows ρ s t (suc m) h =
    rw (map_next, occurs-append, occurs_rows ρ s t m h, before_more, entry_next)
    (enter (before ρ s m) (row_tube ρ s (suc m)) t h)

pub one_line : OneLine
unfolding book_of waiting_of stands
one_line ρ s t h k =
    let a = occurs_rows ρ s t (reach ρ s) h in
    let b = occurs-keep (λ v. not (before ρ s (reach ρ s) v)) t (up_to (length s.intake)) in
    rw (a, b, occurs_up t (length s.intake) h k) (go (before ρ s (reach ρ s) t))
  where
    go : (b : Bool) → one b + pick (not b) 1 0 ≡ 1
    go true = refl
    go false = refl

-- a row that enters a tube holds it, and no earlier row does
entry_means : (ρ : Room) (s : State) (r t : ℕ) → 1 ≤ t → entry ρ s r ≡ t → (row_tube ρ s r ≡ t) × (¬ (T (void ρ s r)))
unfolding entry
entry_means ρ s r t h e = go (void ρ s r) e
  where
    go : (b : Bool) → pick b 0 (row_tube ρ s r) ≡ t → (row_tube ρ s r ≡ t) × (¬ (T b))
    go true d = absurd (omega arith)
    go false d = (d, λ u. u)

not_again : (ρ : Room) (s : State) (t q r : ℕ) → 1 ≤ t → 1 ≤ q → q < r → entry ρ s q ≡ t → entry ρ s r ≡ t → ⊥
unfolding void
not_again ρ s t q r h k l d e =
    let a = entry_means ρ s q t h d in
    let b = entry_means ρ s r t h e in
    b.1 (any_in (λ x. eqb (row_tube ρ s x) (row_tube ρ s r)) (up_to (r - 1)) q (up_in (r - 1) q k (omega arith)) (rw (a.0, b.0) (eqb_refl t)))

pub one_row : OneRow
one_row ρ s t q r h k l d e = go (dec_lt q r) (dec_lt r q)
  where
    go : Dec (q < r) → Dec (r < q) → q ≡ r
    go (yes a) b = absurd (not_again ρ s t q r h k a d e)
    go (no a) (yes b) = absurd (not_again ρ s t r q h l b e d)
    go (no a) (no b) = omega arith

pub book_or_waiting : BookOrWaiting
unfolding book_of
book_or_waiting ρ s t h k = go (ℕ_discrete (occurs t (book_of ρ s)) 0) (one_line ρ s t h k)
  where
    go : Dec (occurs t (book_of ρ s) ≡ 0) → occurs t (book_of ρ s) + occurs t (waiting_of ρ s) ≡ 1 → InBook ρ s t ⊎ Waits ρ s t
    go (yes e) d =
        inr (record {
          once = omega arith;
          nowhere = λ q a b c. omega (arith, occurs_in t (book_of ρ s) (Memᴰ.cast (sym c) (Memᴰ.map (entry ρ s) (up_in (reach ρ s) q a b))));
        })
    go (no e) d =
        let z = book_row ρ s t (occurs_out t (book_of ρ s) (omega arith)) in
        inl (record {
          row = z.0;
          low = z.1;
          high = z.2;
          enters = z.3;
          only = λ q a b c. one_row ρ s t q z.0 h a z.1 c z.3;
          done = λ m. omega (arith, occurs_in t (waiting_of ρ s) m);
        })
