-- How a line is read by a form, one byte of the form at a time.
use mathlib.Core.Path.{◌≡◌, refl, sym, ◌∙◌, ap}
use mathlib.Core.List.{List, [], ◌∷◌, ◌++◌}
use Prim.Native.Nat.{ℕ, ◌+◌, ◌-◌, ◌≤◌, ◌<◌}
use native.Mathlib.Numerals.{add-one}
use native.Mathlib.Omega.{arith}
use lib.Dec.{eqb}
use lib.ListN.{length, get_or, take, drop, set, length-drop, drop_of_length-le}
use lib.Seq.{drop-cons, take-suc-set, length-take-le, take_all}
use borrow.Author.Tests.{ne_eqb, lt-leb}
use Rattle.std.specs.Prelude.{Option, Some, None, option_map}
use Rattle.rules.specs.Tests.{pick, one, fit}
use Rattle.rules.specs.Words.{Pair}
use Rattle.rules.proofs.Codec.{length-fit}
use Rattle.lines.specs.Decimal.{number_at}
use Rattle.lines.specs.Grammar.{stands, ends, given, pairs_of, by_form, held as fields, fields_of, parsed}
use Rattle.lines.specs.Held.{held_pairs, marks}
use Rattle.lines.proofs.Listing.{fit-more}

-- a form with pairs has those that were read
paired : (ns : List ℕ) (o : Option (List Pair)) → option_map (fields ns) o ≡ option_map (λ (c, ps). record { numbers = fit 5 ns; count = c; pairs = ps }) (held_pairs o)
paired ns None = refl
paired ns (Some ps) = refl

-- at the byte numbered i of a form
module _ (f : List ℕ) (i : ℕ) (h : i < length f) where
  -- at a place of a text, with the numbers in hand
  module _ (s : List ℕ) (at : ℕ) (ns : List ℕ) where
    pub form_number : get_or f i 0 ≡ 35 → by_form (drop i f) s at ns ≡ given (number_at s at) (λ (n, e). by_form (drop (i + 1) f) s e (ns ++ (n ∷ [])))
    unfolding by_form
    form_number x = rw (drop-cons f i 0 h, x, add-one i)

    pub form_pairs : get_or f i 0 ≡ 42 → (o : Option (ℕ × List ℕ)) → o ≡ held_pairs (pairs_of (take (length s - at) (drop at s)))
        → by_form (drop i f) s at ns ≡ option_map (λ (c, ps). record { numbers = fit 5 ns; count = c; pairs = ps }) o
    unfolding by_form
    form_pairs x o e =
        let all = take_all (length s - at) (drop at s) (simp length-drop (omega arith)) in
        rw (drop-cons f i 0 h, x) (paired ns (pairs_of (drop at s)) ∙ rw (e, all))

    pub form_same : (get_or f i 0 ≡ 35 → ⊥) → (get_or f i 0 ≡ 42 → ⊥) → by_form (drop i f) s at ns ≡ pick (stands (get_or f i 0) s at) (by_form (drop (i + 1) f) s (at + 1) ns) None
    unfolding by_form
    form_same n m = rw (drop-cons f i 0 h, ne_eqb (get_or f i 0) 35 n, ne_eqb (get_or f i 0) 42 m, add-one i)

  -- the numbers that a form still has
  pub marks_here : marks (drop i f) ≡ one (eqb (get_or f i 0) 35) + marks (drop (i + 1) f)
  marks_here = rw (drop-cons f i 0 h, add-one i)

pub form_end : (f s : List ℕ) (i at : ℕ) (ns : List ℕ) → length f ≤ i → by_form (drop i f) s at ns ≡ ends s at (fields ns [])
unfolding by_form
form_end f s i at ns h = rw (drop_of_length-le f h)

-- ---- the numbers in hand: the first `got` of the five

module _ (numbers : List ℕ) (got n : ℕ) (h : got < 5) (e : fit 5 (take got numbers) ≡ numbers) where
  long : length numbers ≡ 5
  long = sym (ap length e) ∙ length-fit 5 (take got numbers)

  pub taken : take (got + 1) (set numbers got n) ≡ take got numbers ++ (n ∷ [])
  taken = let l : length numbers ≡ 5 = long in rw add-one (take-suc-set numbers got n (omega arith))

  pub held : fit 5 (take (got + 1) (set numbers got n)) ≡ set numbers got n
  held =
      let l : length numbers ≡ 5 = long in
      let t : length (take got numbers) ≡ got = length-take-le got numbers (omega arith) in
      ap (fit 5) taken ∙ fit-more 5 (take got numbers) n (omega arith) ∙ rw (e, t)

pub ruleset form_steps = (form_number, form_same, form_end, marks_here, taken, held)

-- ---- all lines of more than 200 bytes say the same

too_long : (s : List ℕ) → 200 < length s → fields_of s ≡ None
unfolding fields_of
too_long s h = rw (lt-leb (length s) 200 h)

pub long_alike : (s t : List ℕ) → 200 < length s → 200 < length t → parsed s ≡ parsed t
unfolding parsed
long_alike s t h k = rw (too_long s h, too_long t k)
