-- The cells of a part of the cells area, as its chunks of thirty-six bytes.
use mathlib.Core.Path.{◌≡◌, refl, ap, sym, subst, ◌∙◌}
use mathlib.Core.Bool.{Bool, true, false, ◌&&◌, and-false}
use mathlib.Core.List.{List, [], ◌∷◌}
use Prim.Native.Nat.{ℕ, zero, suc, ◌+◌, ◌-◌, ◌*◌, ◌/◌, ◌≤◌, ◌<◌}
use native.Mathlib.Omega.{arith}
use lib.ListN.{length, take, drop, length-append}
use lib.Seq.{drop-drop, take-take, take_at, drop_at, length-take-le}
use Rattle.std.specs.Iterator.{AlwaysYields}
use Rattle.std.specs.Slice.Iter.{chunks_exact_steps, chunks_exact_rest, chunks_exact_size}
use Rattle.std.proofs.lemmas.List.{drop-take}
use Rattle.std.proofs.lemmas.Iterator.{YieldsList}
use Rattle.rules.specs.Tests.{all, all_below}
use Rattle.rules.specs.Lent.{window, plain_cell, cell_form}
use Rattle.rules.proofs.Each.{each_same}

-- the first n chunks
abbrev pub parts : ℕ → List ℕ → List (List ℕ)
parts zero s = []
parts (suc n) s = take 36 s ∷ parts n (drop 36 s)

-- what `chunks_exact` yields
gives : (n : ℕ) (s : _) → chunks_exact_size s ≡ 36 → 36 * n ≤ length (chunks_exact_rest s) → length (chunks_exact_rest s) < 36 * n + 36
    → AlwaysYields (chunks_exact_steps {A = ℕ}) (λ x. x.now) s (parts n (chunks_exact_rest s))
gives zero s e h l = λ x j p.
    let k = ap length p.1.0 ∙ length-append x.now (chunks_exact_rest j) in
    let w = p.1.1 in
    omega (arith, k, w, e, l)
gives (suc n) s e h l = (
  (λ j p. let w = p.1.0 in omega (arith, w, e, h)),
  λ x j p.
      let c : length x.now ≡ 36 = p.1.1 ∙ e in
      let t : take 36 (chunks_exact_rest s) ≡ x.now = ap (take 36) p.1.0 ∙ take_at x.now (chunks_exact_rest j) 36 c in
      let d : drop 36 (chunks_exact_rest s) ≡ chunks_exact_rest j = ap (drop 36) p.1.0 ∙ drop_at x.now (chunks_exact_rest j) 36 c in
      let k = ap length p.1.0 ∙ length-append x.now (chunks_exact_rest j) in
      (sym t, rw d (gives n j (p.0 ∙ e) (omega (arith, k, c, h)) (omega (arith, k, c, l)))),
)

pub cells_yield : (s : List ℕ) {i : _} → chunks_exact_size i ≡ 36 → chunks_exact_rest i ≡ s → YieldsList (chunks_exact_steps {A = ℕ}) (λ x. x.now) i (parts (length s / 36) s)
cells_yield s {i} e r = record { runs = subst (λ (l : List ℕ). AlwaysYields (chunks_exact_steps {A = ℕ}) (λ x. x.now) i (parts (length s / 36) l)) r (gives (length s / 36) i e (rw r (omega arith)) (rw r (omega arith))) }

-- a test of each chunk is one of each cell's window
first_and : (p : ℕ → Bool) (n : ℕ) → all_below p (suc n) ≡ p 0 && all_below (λ i. p (suc i)) n
first_and p zero = refl
first_and p (suc n) = rw (first_and p n) (swap (p (suc n)) (p 0) (all_below (λ i. p (suc i)) n))
  where
    swap : (a b c : Bool) → a && (b && c) ≡ b && (a && c)
    swap true b c = refl
    swap false b c = sym (and-false b)

pub all_parts : (p : List ℕ → Bool) (n : ℕ) (s : List ℕ) → all p (parts n s) ≡ all_below (λ k. p (window 36 k s)) n
all_parts p zero s = refl
all_parts p (suc n) s =
    ap (λ (b : Bool). p (take 36 s) && b)
    (all_parts p n (drop 36 s) ∙ each_same (λ k. p (window 36 k (drop 36 s))) (λ k. p (window 36 (suc k) s)) n (λ k l. ap (λ (t : List ℕ). p (take 36 t)) (next k)))
    ∙ sym (first_and (λ k. p (window 36 k s)) n)
  where
    next : (k : ℕ) → drop (36 * k) (drop 36 s) ≡ drop (36 * suc k) s
    next k = let e : 36 + 36 * k ≡ 36 * suc k = omega arith in drop-drop (36 * k) 36 s ∙ ap (λ (i : ℕ). drop i s) e

-- the cells of the part of the first n are the first n cells
window_front : (k n : ℕ) (s : List ℕ) → k < n → window 36 k (take (36 * n) s) ≡ window 36 k s
window_front k n s h =
    let e : 36 * n ≡ 36 * k + (36 + 36 * (n - suc k)) = omega arith in
    rw (e, drop-take (36 * k) (36 + 36 * (n - suc k)) s) (take-take 36 (36 + 36 * (n - suc k)) (drop (36 * k) s) (omega arith))

pub cells_front : (t n : ℕ) (s : List ℕ) → 36 * n ≤ length s → all_below (cell_form t (take (36 * n) s)) (length (take (36 * n) s) / 36) ≡ all_below (cell_form t s) n
unfolding plain_cell
cells_front t n s h =
    let e : length (take (36 * n) s) / 36 ≡ n = rw (length-take-le (36 * n) s h) (omega arith) in
    rw e (each_same (cell_form t (take (36 * n) s)) (cell_form t s) n (λ k l. rw (window_front k n s l)))
