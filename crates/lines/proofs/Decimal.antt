-- How a decimal is read, byte by byte; and what was written is read back.
use mathlib.Core.Path.{◌≡◌, refl, ap, ◌∙◌}
use mathlib.Core.Bool.{Bool, true, false}
use mathlib.Core.List.{List, [], ◌∷◌, ◌++◌, append_assoc}
use Prim.Native.Nat.{ℕ, zero, suc, ◌+◌, ◌*◌, ◌/◌, ◌%◌, ◌^◌, ◌≤◌, ◌<◌}
use native.Mathlib.Nat.{pow-suc, add_assoc}
use native.Mathlib.Numerals.{add-one}
use native.Mathlib.Omega.{arith}
use lib.Dec.{ltb}
use lib.ListN.{length, get_or, take, drop, set, length-append}
use lib.Seq.{drop-cons, drop-drop, set_at, length-take-le, drop-append_seam}
use borrow.Author.Tests.{lt-ltb, le-ltb, ltb-true, ltb-false}
use Rattle.std.proofs.lemmas.Grind.{common_steps}
use Rattle.rules.specs.Tests.{pick}
use Rattle.rules.specs.Lent.{patch}
use Rattle.rules.proofs.Area.{set-patch}
use Rattle.std.specs.Prelude.{Some}
use Rattle.lines.specs.Decimal.{most, is_digit, onward, decimal_in, number_at, spelt, decimal}

-- ---- what is written

tenth : (k n : ℕ) → n < 10 ^ suc k → n / 10 < 10 ^ k
tenth k n h = let e : n < 10 ^ k * 10 = rw pow-suc at h in omega arith

-- one more place is never needed
enough : (k n : ℕ) → n < 10 ^ suc k → spelt (suc k) n ≡ spelt k n
enough zero n h = rw (lt-ltb n 10 h)
enough (suc k) n h = rw (enough k (n / 10) (tenth (suc k) n h))

module _ (n : ℕ) where
  pub decimal-few : n < 10 → decimal n ≡ (48 + n) ∷ []
  unfolding decimal
  decimal-few h = rw (lt-ltb n 10 h)

  pub decimal-more : 10 ≤ n → n ≤ most → decimal n ≡ decimal (n / 10) ++ ((48 + n % 10) ∷ [])
  unfolding decimal
  decimal-more h m = rw (le-ltb n 10 h, enough 8 (n / 10) (omega arith))

  pub length_more : 10 ≤ n → n ≤ most → length (decimal n) ≡ length (decimal (n / 10)) + 1
  length_more h m = ap length (decimal-more h m) ∙ length-append (decimal (n / 10)) ((48 + n % 10) ∷ [])

spelt-long : (k n : ℕ) → length (spelt k n) ≤ suc k
spelt-long zero n = omega arith
spelt-long (suc k) n = more (spelt k (n / 10)) (spelt-long k (n / 10)) (ltb n 10)
  where
    more : (front : List ℕ) → length front ≤ suc k → (q : Bool) → length (pick q ((48 + n) ∷ []) (front ++ ((48 + n % 10) ∷ []))) ≤ suc (suc k)
    more front h true = omega arith
    more front h false = simp length-append (omega arith)

-- a decimal has at most ten digits
pub decimal-long : (n : ℕ) → length (decimal n) ≤ 10
unfolding decimal
decimal-long n = spelt-long 9 n

-- a byte stored after a patch
module _ (s : List ℕ) (at b : ℕ) where
  pub patch-more : (xs : List ℕ) → at + length xs < length s → set (patch s at xs) (at + length xs) b ≡ patch s at (xs ++ (b ∷ []))
  patch-more xs h =
      let next : at + (length xs + 1) ≡ suc (at + length xs) = omega arith in
      let l : length (take at s ++ xs) ≡ at + length xs = simp (length-append, length-take-le at s (omega arith)) in
      rw (← append_assoc (take at s) xs, drop-drop (length xs) at s, drop-cons s (at + length xs) 0 h, set_at (take at s ++ xs) (get_or s (at + length xs) 0) (drop (suc (at + length xs)) s) b (at + length xs) l, append_assoc (take at s) xs, length-append xs (b ∷ []), drop-drop (length xs + 1) at s, next, append_assoc xs (b ∷ []))

pub ruleset written = (decimal-few, decimal-more, length_more, patch-more, set-patch)

-- ---- what was written is read back

spelt-few : (n : ℕ) (rest : List ℕ) (at : ℕ) → n < 10 → decimal_in ((48 + n) ∷ rest) at ≡ onward rest n (at + 1)
spelt-few n rest at h = grind (arith, common_steps, add-one)

one_more : (n : ℕ) (rest : List ℕ) (at : ℕ) → 10 ≤ n → n ≤ most → onward ((48 + n % 10) ∷ rest) (n / 10) at ≡ onward rest n (at + 1)
one_more n rest at h m = grind (arith, common_steps, add-one)

spelt_back : (k n : ℕ) (rest : List ℕ) (at : ℕ) → n < 10 ^ suc k → n ≤ most
    → decimal_in (spelt k n ++ rest) at ≡ onward rest n (at + length (spelt k n))
spelt_back zero n rest at h m = spelt-few n rest at h
spelt_back (suc k) n rest at h m = by (ltb n 10) refl (spelt_back k (n / 10) ((48 + n % 10) ∷ rest) at (tenth (suc k) n h) (omega arith))
  where
    by : (q : Bool) → ltb n 10 ≡ q → decimal_in (spelt k (n / 10) ++ ((48 + n % 10) ∷ rest)) at ≡ onward ((48 + n % 10) ∷ rest) (n / 10) (at + length (spelt k (n / 10)))
        → decimal_in (spelt (suc k) n ++ rest) at ≡ onward rest n (at + length (spelt (suc k) n))
    by true e ih = rw e (spelt-few n rest at (ltb-true n 10 e))
    by false e ih = let last = (48 + n % 10) ∷ [] in rw (e, append_assoc (spelt k (n / 10)) last, ih, length-append (spelt k (n / 10)) last, one_more n rest (at + length (spelt k (n / 10))) (ltb-false n 10 e) m, add_assoc)

-- no digit stands at the front
abbrev pub Stops : List ℕ → Type 0
Stops [] = Unit
Stops (b ∷ s) = is_digit b ≡ false

stopped : (rest : List ℕ) (v at : ℕ) → Stops rest → onward rest v at ≡ Some (v, at)
stopped [] v at h = refl
stopped (b ∷ s) v at h = rw h

-- the decimal of n, wherever it stands and whatever follows that is no digit, is read as n
pub read_back : (n : ℕ) (front rest : List ℕ) → n ≤ most → Stops rest
    → number_at (front ++ (decimal n ++ rest)) (length front) ≡ Some (n, length front + length (decimal n))
unfolding decimal
read_back n front rest m h =
    rw (drop-append_seam front) (spelt_back 9 n rest (length front) (omega arith) m) ∙ stopped rest n (length front + length (spelt 9 n)) h
