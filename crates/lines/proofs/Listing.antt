-- How pairs are read and kept, one after another.
use mathlib.Core.Path.{◌≡◌, refl, sym, ◌∙◌, ap}
use mathlib.Core.Bool.{Bool, true, false}
use mathlib.Core.List.{List, [], ◌∷◌, ◌++◌, append_assoc}
use Prim.Native.Nat.{ℕ, zero, suc, ◌+◌, ◌*◌, ◌≤◌, ◌<◌}
use native.Mathlib.Numerals.{add-one}
use native.Mathlib.Omega.{arith}
use lib.Dec.{eqb, ltb}
use lib.ListN.{length, get_or, drop, set, length-append, drop_of_length-le}
use lib.Seq.{drop-cons}
use borrow.Author.Tests.{ltb-true, ltb-false}
use Rattle.std.specs.Prelude.{Option, Some, None}
use Rattle.std.specs.List.{slice_split, onto_first}
use Rattle.rules.specs.Tests.{pick, fit}
use Rattle.rules.specs.Words.{Pair}
use Rattle.rules.specs.Lent.{flatten, pair_bytes}
use Rattle.lines.specs.Splits.{onto, parts}
use Rattle.lines.specs.Grammar.{pair_in, pairs_in, pairs_of}
use Rattle.lines.specs.Held.{held_pairs, kept}

-- the parts are those of the library's `split`
onto_same : (b : ℕ) (l : List (List ℕ)) → onto_first b l ≡ onto b l
onto_same b [] = refl
onto_same b (p ∷ ps) = refl

parts_same : (x : ℕ) (s : List ℕ) → slice_split (λ b. eqb b x) s ≡ parts x s
parts_same x [] = refl
parts_same x (b ∷ s) = rw (parts_same x s, onto_same b (parts x s))

-- ---- the first k numbers, one by one

pub fit-more : (k : ℕ) (ns : List ℕ) (n : ℕ) → length ns < k → fit k (ns ++ (n ∷ [])) ≡ set (fit k ns) (length ns) n
fit-more zero ns n h = absurd (omega arith)
fit-more (suc k) [] n h = refl
fit-more (suc k) (a ∷ ns) n h = ap (λ (t : List ℕ). a ∷ t) (fit-more k ns n (omega arith))

fit-full : (k : ℕ) (ns ms : List ℕ) → k ≤ length ns → fit k (ns ++ ms) ≡ fit k ns
fit-full zero ns ms h = refl
fit-full (suc k) [] ms h = absurd (omega arith)
fit-full (suc k) (a ∷ ns) ms h = ap (λ (t : List ℕ). a ∷ t) (fit-full k ns ms (omega arith))

-- ---- the pairs kept: two numbers a pair, the first sixteen pairs

flat-more : (ps : List Pair) (v b : ℕ) → flatten (ps ++ ((v, b) ∷ [])) ≡ flatten ps ++ (v ∷ b ∷ [])
flat-more [] v b = refl
flat-more (p ∷ ps) v b = rw (flat-more ps v b)

length-flat : (ps : List Pair) → length (flatten ps) ≡ 2 * length ps
length-flat [] = refl
length-flat (p ∷ ps) = omega (arith, length-flat ps)

kept_by : (v b : ℕ) (ps : List Pair) (q : Bool) → ltb (length ps) 16 ≡ q
    → pair_bytes (ps ++ ((v, b) ∷ [])) ≡ pick q (set (set (pair_bytes ps) (2 * length ps) v) (2 * length ps + 1) b) (pair_bytes ps)
kept_by v b ps true e =
    let l = length-flat ps in
    let h = ltb-true (length ps) 16 e in
    let more = length-append (flatten ps) (v ∷ []) in
    rw (flat-more ps v b, ← append_assoc (flatten ps) (v ∷ []) (b ∷ []), fit-more 32 (flatten ps ++ (v ∷ [])) b (omega arith), fit-more 32 (flatten ps) v (omega arith), more, l)
kept_by v b ps false e = let l = length-flat ps in let h = ltb-false (length ps) 16 e in rw (flat-more ps v b) (fit-full 32 (flatten ps) (v ∷ b ∷ []) (omega arith))

-- ---- the pairs of a text, with what was read of them so far and the parts that are left

pub record Reading (all : Option (List Pair)) (left : List (List ℕ)) (count : ℕ) (pairs : List ℕ) : Type 0 where
  pub sofar : List Pair
  pub same : all ≡ pairs_in left sofar
  pub counted : length sofar ≡ count
  pub held : pair_bytes sofar ≡ pairs

pub begun : (s : List ℕ) → 0 < length s → Reading (pairs_of s) (parts 44 s) 0 (pair_bytes [])
begun [] h = absurd (omega arith)
begun (b ∷ s) h = record { sofar = []; same = refl; counted = refl; held = refl }

-- the loop over the parts of s has taken as many of them as it has counted pairs
module _ (s : List ℕ) {all : Option (List Pair)} {count : ℕ} {pairs : List ℕ} where
  pub whole : Reading all (drop count (parts 44 s)) count pairs → length (slice_split (λ b. eqb b 44) s) ≤ count → held_pairs all ≡ Some (count, pairs)
  whole r h =
      let e = rw (drop_of_length-le (parts 44 s) (rw (parts_same 44 s) at h)) at r.same in
      ap held_pairs e ∙ rw (r.held, r.counted)

  -- and p is the next
  module _ {p : List ℕ} (r : Reading all (drop count (parts 44 s)) count pairs) (n : ℕ) (same : count ≡ n)
      (turn : (n < length (slice_split (λ b. eqb b 44) s)) × (p ≡ get_or (slice_split (λ b. eqb b 44) s) n p)) where
    next_part : all ≡ pairs_in (p ∷ drop (count + 1) (parts 44 s)) r.sofar
    next_part =
        let t : (count < length (parts 44 s)) × (p ≡ get_or (parts 44 s) count p) = rw (same, ← parts_same 44 s) turn in
        let d : drop count (parts 44 s) ≡ p ∷ drop (count + 1) (parts 44 s) = rw (drop-cons (parts 44 s) count p t.0, add-one, ← t.1) in
        rw d at r.same

    pub bad_part : pair_in p ≡ None → all ≡ None
    bad_part e = next_part ∙ rw e

    pub good_part : (v b : ℕ) → pair_in p ≡ Some (v, b) → (new : List ℕ) → new ≡ kept pairs count v b → Reading all (drop (count + 1) (parts 44 s)) (count + 1) new
    good_part v b e new k = record {
      sofar = r.sofar ++ ((v, b) ∷ []);
      same = next_part ∙ rw e;
      counted = length-append r.sofar ((v, b) ∷ []) ∙ ap (λ (n : ℕ). n + 1) r.counted;
      held = kept_by v b r.sofar (ltb (length r.sofar) 16) refl ∙ rw (r.held, r.counted) (sym k);
    }
