-- Laws of pair arrays: a pair more, a tube removed, ascending by neighbours, unused pairs 0.
use mathlib.Core.Path.{◌≡◌, refl, ap, sym, ◌∙◌}
use mathlib.Core.Bool.{Bool, true, false, not, ◌&&◌, ◌||◌, and-true, and-false}
use mathlib.Core.List.{List, [], ◌∷◌, ◌++◌, append-nil, append_assoc}
use Prim.Native.Nat.{ℕ, zero, suc, ◌+◌, ◌-◌, ◌*◌, ◌≤◌, ◌<◌}
use native.Mathlib.Nat.{add-zero, add-suc}
use native.Mathlib.Numerals.{add-one}
use native.Mathlib.Omega.{arith}
use borrow.Author.Tests.{eq-eqb, ne_eqb, lt-leb, le-leb, leb-true, leb-false}
use lib.Dec.{eqb, leb, eqb_refl}
use lib.ListN.{length, get_or, drop, set, length-append}
use Rattle.rules.specs.Tests.{pick, any, all, any_below, eqs, fit}
use Rattle.rules.specs.Words.{Pair}
use Rattle.rules.specs.Lent.{pairs_of, flatten, pair_bytes, below, ascend, pairs_in}
use Rattle.rules.specs.Steps.{without}
use Rattle.rules.specs.Replies.{pairs_plain}
use Rattle.rules.proofs.Codec.{pairs_back}
use Rattle.rules.proofs.Scan.{holds, pair_at, pairs_last, pairs_below, all_none}
use Rattle.rules.proofs.Forms.{length_pairs}
use Rattle.pairs.specs.Pairs.{passes, Packed}
use Rattle.pairs.specs.declared.Ask.TheVariants.{Limits}

-- ---- each pair passes

pub each_below : (p : Pair → Bool) (s : List ℕ) (n : ℕ) → all p (pairs_of n s) ≡ not (any_below (λ k. not (p (pair_at s k))) n)
each_below p s n = all_none p (pairs_of n s) ∙ ap not (pairs_below (λ q. not (p q)) s n)

-- some pair fails
pub any_not : (p : Pair → Bool) (l : List Pair) → not (all (λ q. not (p q)) l) ≡ any p l
any_not p [] = refl
any_not p (q ∷ l) = go (p q) (any_not p l)
  where
    go : (b : Bool) → not (all (λ q. not (p q)) l) ≡ any p l → not (not b && all (λ q. not (p q)) l) ≡ b || any p l
    go true e = refl
    go false e = e

-- ---- ascending, by neighbours

and_assoc : (a b c : Bool) → a && (b && c) ≡ (a && b) && c
and_assoc true b c = refl
and_assoc false b c = refl

ascend_last : (l : List Pair) (x y : Pair) → ascend (l ++ (x ∷ y ∷ [])) ≡ ascend (l ++ (x ∷ [])) && below x y
ascend_last [] x y = and-true (below x y)
ascend_last (z ∷ []) x y = ap (λ (b : Bool). below z x && b) (and-true (below x y)) ∙ ap (λ (b : Bool). b && below x y) (sym (and-true (below z x)))
ascend_last (z ∷ w ∷ l) x y = ap (λ (b : Bool). below z w && b) (ascend_last (w ∷ l) x y) ∙ and_assoc (below z w) (ascend (w ∷ l ++ (x ∷ []))) (below x y)

-- one pair more: it comes after the one before it
pub ascend_more : (s : List ℕ) (i : ℕ) → 1 ≤ i → ascend (pairs_of (suc i) s) ≡ ascend (pairs_of i s) && below (get_or s (2 * i - 2) 0, get_or s (2 * i - 1) 0) (pair_at s i)
ascend_more s zero h = absurd (omega arith)
ascend_more s (suc n) h =
    let d : 2 * suc n - 2 ≡ 2 * n = omega arith in
    let e : 2 * suc n - 1 ≡ 2 * n + 1 = omega arith in
    rw (d, e) (ap ascend (pairs_last s (suc n) ∙ ap (λ (l : List Pair). l ++ (pair_at s (suc n) ∷ [])) (pairs_last s n) ∙ append_assoc (pairs_of n s) (pair_at s n ∷ []) (pair_at s (suc n) ∷ []))
    ∙ ascend_last (pairs_of n s) (pair_at s n) (pair_at s (suc n))
    ∙ ap (λ (b : Bool). b && below (pair_at s n) (pair_at s (suc n))) (ap ascend (sym (pairs_last s n))))

-- a pair out of order, whatever comes after it
pub ascend_stop : (s : List ℕ) (n i : ℕ) → 1 ≤ i → i < n → below (get_or s (2 * i - 2) 0, get_or s (2 * i - 1) 0) (pair_at s i) ≡ false → ascend (pairs_of n s) ≡ false
ascend_stop s n i h l f = let e : n ≡ suc i + (n - suc i) = omega arith in rw e (far (n - suc i))
  where
    far : (d : ℕ) → ascend (pairs_of (suc i + d) s) ≡ false
    far zero = rw (add-zero, ascend_more s i h, f) (and-false (ascend (pairs_of i s)))
    far (suc d) = rw (add-suc, ascend_more s (suc i + d) (omega arith), far d)

-- no pair or one, or all of them passed over
pub ascend_few : (s : List ℕ) (n i : ℕ) → n ≤ i → (1 < n → i ≤ n) → ascend (pairs_of i s) ≡ true → ascend (pairs_of n s) ≡ true
ascend_few s zero i l k e = refl
ascend_few s (suc zero) i l k e = refl
ascend_few s (suc (suc n)) i l k e = let d : i ≡ suc (suc n) = omega (arith, k (omega arith)) in rw d at e

-- ---- unused pairs

zeros : (l : List ℕ) → eqs l (fit (length l) []) ≡ all (λ x. eqb x 0) l
zeros [] = refl
zeros (x ∷ l) = ap (λ (b : Bool). eqb x 0 && b) (zeros l)

pub plain_tail : (l : List ℕ) (k n : ℕ) → length l ≡ n → 2 * k ≤ n → eqs l (fit n (flatten (pairs_of k l))) ≡ all (λ x. eqb x 0) (drop (2 * k) l)
plain_tail l zero n e h = rw (← e) (zeros l)
plain_tail [] (suc k) n e h = absurd (omega arith)
plain_tail (x ∷ []) (suc k) n e h = absurd (omega arith)
plain_tail (x ∷ y ∷ l) (suc k) zero e h = absurd (omega arith)
plain_tail (x ∷ y ∷ l) (suc k) (suc zero) e h = absurd (omega arith)
plain_tail (x ∷ y ∷ l) (suc k) (suc (suc n)) e h =
    let d : 2 * suc k ≡ suc (suc (2 * k)) = omega arith in
    rw (holds (eqb x x) (eqb_refl x), holds (eqb y y) (eqb_refl y), d) (plain_tail l k n (omega arith) (omega arith))

-- the whole test of an array: more than sixteen, or else its parts
pub over : (s : List ℕ) (n : ℕ) → 16 < n → pairs_in (pairs_of n s) && pairs_plain n s ≡ false
over s n h = rw (length_pairs n s, lt-leb n 16 h)

pub inside : (s : List ℕ) (n : ℕ) → n ≤ 16 → length s ≡ 32
    → pairs_in (pairs_of n s) && pairs_plain n s ≡ (all (passes Limits) (pairs_of n s) && ascend (pairs_of n s)) && all (λ x. eqb x 0) (drop (2 * n) s)
inside s n h e = rw (length_pairs n s, le-leb n 16 h, plain_tail s n 32 e (omega arith))

pub whole : (s : List ℕ) (n : ℕ) → length s ≡ 32
    → pairs_in (pairs_of n s) && pairs_plain n s ≡ leb n 16 && (all (passes Limits) (pairs_of n s) && (ascend (pairs_of n s) && all (λ x. eqb x 0) (drop (2 * n) s)))
whole s n e = go (leb n 16) refl
  where
    go : (b : Bool) → leb n 16 ≡ b → pairs_in (pairs_of n s) && pairs_plain n s ≡ b && (all (passes Limits) (pairs_of n s) && (ascend (pairs_of n s) && all (λ x. eqb x 0) (drop (2 * n) s)))
    go true d = inside s n (leb-true n 16 d) e ∙ sym (and_assoc (all (passes Limits) (pairs_of n s)) (ascend (pairs_of n s)) (all (λ x. eqb x 0) (drop (2 * n) s)))
    go false d = over s n (leb-false n 16 d)

-- ---- a tube removed, and a pair put last

without_last : (v : ℕ) (l : List Pair) (p : Pair) → without v (l ++ (p ∷ [])) ≡ without v l ++ pick (eqb p.0 v) [] (p ∷ [])
without_last v [] p = go (eqb p.0 v)
  where
    go : (b : Bool) → pick b [] (p ∷ []) ≡ pick b [] (p ∷ [])
    go b = refl
without_last v (q ∷ l) p = go (eqb q.0 v) (without_last v l p)
  where
    go : (b : Bool) → without v (l ++ (p ∷ [])) ≡ without v l ++ pick (eqb p.0 v) [] (p ∷ [])
        → pick b (without v (l ++ (p ∷ []))) (q ∷ without v (l ++ (p ∷ []))) ≡ pick b (without v l) (q ∷ without v l) ++ pick (eqb p.0 v) [] (p ∷ [])
    go true e = e
    go false e = ap (λ (t : List Pair). q ∷ t) e

without-next : (v : ℕ) (s : List ℕ) (i : ℕ) → without v (pairs_of (i + 1) s) ≡ without v (pairs_of i s) ++ pick (eqb (get_or s (2 * i) 0) v) [] (pair_at s i ∷ [])
without-next v s i = ap (λ (n : ℕ). without v (pairs_of n s)) (add-one i) ∙ ap (without v) (pairs_last s i) ∙ without_last v (pairs_of i s) (pair_at s i)

pub without_same : (v : ℕ) (s : List ℕ) (i : ℕ) → get_or s (2 * i) 0 ≡ v → without v (pairs_of (i + 1) s) ≡ without v (pairs_of i s)
without_same v s i e = without-next v s i ∙ rw (eq-eqb (get_or s (2 * i) 0) v e, append-nil)

pub without_more : (v : ℕ) (s : List ℕ) (i : ℕ) → (get_or s (2 * i) 0 ≡ v → ⊥) → without v (pairs_of (i + 1) s) ≡ without v (pairs_of i s) ++ (pair_at s i ∷ [])
without_more v s i e = without-next v s i ∙ rw (ne_eqb (get_or s (2 * i) 0) v e)

-- two stores after the pairs of l, where zeros stand
pub two-more : (l : List Pair) (m a b : ℕ) → 2 * length l + 2 ≤ m
    → set (set (fit m (flatten l)) (2 * length l) a) (2 * length l + 1) b ≡ fit m (flatten (l ++ ((a, b) ∷ [])))
two-more [] zero a b h = absurd (omega arith)
two-more [] (suc zero) a b h = absurd (omega arith)
two-more [] (suc (suc m)) a b h = refl
two-more (p ∷ l) zero a b h = absurd (omega arith)
two-more (p ∷ l) (suc zero) a b h = absurd (omega arith)
two-more (p ∷ l) (suc (suc m)) a b h =
    let d : 2 * suc (length l) ≡ suc (suc (2 * length l)) = omega arith in
    let e : 2 * suc (length l) + 1 ≡ suc (suc (2 * length l + 1)) = omega arith in
    (λ i. set (set (fit (suc (suc m)) (flatten (p ∷ l))) (d i) a) (e i) b) ∙ ap (λ (t : List ℕ). p.0 ∷ p.1 ∷ t) (two-more l m a b (omega arith))

pub packed : (l : List Pair) (n : ℕ) (out : List ℕ) → length l ≤ 16 → n ≡ length l → out ≡ pair_bytes l → Packed l n out
packed l n out h e d = record {
  count = e;
  bytes = d;
  back = rw (e, d) (pairs_back l 32 (omega arith));
}

-- a pair put after what is packed
pub put_last : (l : List Pair) (n : ℕ) (out : List ℕ) (v b : ℕ) → length l < 16 → n ≡ length l → out ≡ pair_bytes l
    → Packed (l ++ ((v, b) ∷ [])) (n + 1) (set (set out (2 * n) v) (2 * n + 1) b)
put_last l n out v b h e d =
    packed (l ++ ((v, b) ∷ [])) (n + 1) (set (set out (2 * n) v) (2 * n + 1) b)
    (rw length-append (omega arith)) (rw (length-append, e)) (rw (e, d) (two-more l 32 v b (omega arith)))

-- a turn of the removal: the pair numbered i stays, or goes
module _ (v : ℕ) (s : List ℕ) (i n : ℕ) (out : List ℕ) where
  pub grow : (get_or s (2 * i) 0 ≡ v → ⊥) → n < 16 → n ≡ length (without v (pairs_of i s)) → out ≡ pair_bytes (without v (pairs_of i s))
      → (n + 1 ≡ length (without v (pairs_of (i + 1) s)))
      × (set (set out (2 * n) (get_or s (2 * i) 0)) (2 * n + 1) (get_or s (2 * i + 1) 0) ≡ pair_bytes (without v (pairs_of (i + 1) s)))
  grow h k e d =
      let w = put_last (without v (pairs_of i s)) n out (get_or s (2 * i) 0) (get_or s (2 * i + 1) 0) (omega arith) e d in
      rw (without_more v s i h) (w.count, w.bytes)

  pub stay : get_or s (2 * i) 0 ≡ v → n ≡ length (without v (pairs_of i s)) → out ≡ pair_bytes (without v (pairs_of i s))
      → (n ≡ length (without v (pairs_of (i + 1) s))) × (out ≡ pair_bytes (without v (pairs_of (i + 1) s)))
  stay h e d = rw (without_same v s i h) (e, d)
