-- Pair arrays of numbers of any size: one that passes test 6 holds bytes only.
use mathlib.Core.Path.{◌≡◌, refl, ap}
use mathlib.Core.Bool.{Bool, true, false, ◌&&◌}
use mathlib.Core.List.{List, [], ◌∷◌}
use Prim.Native.Nat.{ℕ, zero, suc, ◌*◌, ◌≤◌, ◌<◌}
use native.Mathlib.Omega.{arith}
use lib.Dec.{T, eqb, leb, leb→le, le→leb, eqb→eq}
use lib.ListN.{length, get_or, drop}
use Rattle.rules.specs.Tests.{all, fit}
use Rattle.rules.specs.Words.{tube_in, bal_in}
use Rattle.rules.specs.Lent.{pairs_of, ascend, pairs_in}
use Rattle.rules.specs.Replies.{pairs_plain}
use Rattle.rules.proofs.Sound.{and_l, and_r, and_two}
use Rattle.rules.proofs.Lists.{failed}
use Rattle.rules.proofs.Scan.{holds}
use Rattle.rules.proofs.Forms.{length_pairs}
use Rattle.kept.proofs.Lists.{all_more}
use Rattle.pairs.specs.Pairs.{passes}
use Rattle.pairs.specs.declared.Ask.TheVariants.{Limits}
use Rattle.pairs.proofs.Arrays.{inside}
use Rattle.foreign.specs.Bytes.{byte}

pub each_byte : (s : List ℕ) → T (all byte s) → (i : ℕ) → get_or s i 0 < 256
each_byte [] t i = omega arith
each_byte (x ∷ s) t zero = omega (arith, leb→le x 255 (and_l (byte x) (all byte s) t))
each_byte (x ∷ s) t (suc i) = each_byte s (and_r (byte x) (all byte s) t) i

-- a list that fills its array
pub fit_whole : (n : ℕ) (l : List ℕ) → length l ≡ n → fit n l ≡ l
fit_whole zero [] e = refl
fit_whole zero (x ∷ l) e = absurd (omega arith)
fit_whole (suc n) [] e = absurd (omega arith)
fit_whole (suc n) (x ∷ l) e = ap (λ (t : List ℕ). x ∷ t) (fit_whole n l (omega arith))

abbrev zeros : List ℕ → Bool
zeros s = all (λ x. eqb x 0) s

zero_bytes : (s : List ℕ) → T (zeros s) → T (all byte s)
zero_bytes s t = all_more (λ x. eqb x 0) byte s (λ x u. let e = eqb→eq x 0 u in le→leb x 255 (omega arith)) t

-- used pairs within their limits, unused ones 0
pairs_bytes : (s : List ℕ) (k : ℕ) → 2 * k ≤ length s → T (all (passes Limits) (pairs_of k s)) → T (zeros (drop (2 * k) s)) → T (all byte s)
pairs_bytes s zero h t u = zero_bytes s u
pairs_bytes [] (suc k) h t u = absurd (omega arith)
pairs_bytes (x ∷ []) (suc k) h t u = absurd (omega arith)
pairs_bytes (x ∷ y ∷ s) (suc k) h t u =
    let d : 2 * suc k ≡ suc (suc (2 * k)) = omega arith in
    let p : T (tube_in x && bal_in y) = and_l (tube_in x && bal_in y) (all (passes Limits) (pairs_of k s)) t in
    let a : x ≤ 64 = leb→le x 64 (and_r (leb 1 x) (leb x 64) (and_l (tube_in x) (bal_in y) p)) in
    let b : y ≤ 15 = leb→le y 15 (and_r (tube_in x) (bal_in y) p) in
    let r = pairs_bytes s k (omega arith) (and_r (tube_in x && bal_in y) (all (passes Limits) (pairs_of k s)) t) (rw d at u) in
    and_two (byte x) (byte y && all byte s) (le→leb x 255 (omega arith)) (and_two (byte y) (all byte s) (le→leb y 255 (omega arith)) r)

pub count_in : (s : List ℕ) (n : ℕ) → pairs_in (pairs_of n s) && pairs_plain n s ≡ true → n ≤ 16
count_in s n e =
    let t : T (pairs_in (pairs_of n s) && pairs_plain n s) = rw e tt in
    let l : length (pairs_of n s) ≤ 16 = search (leb→le, and_l, and_r) depth 9 in omega (arith, length_pairs n s)

in_bytes : (s : List ℕ) (n : ℕ) → length s ≡ 32 → T (pairs_in (pairs_of n s) && pairs_plain n s) → T (all byte s)
in_bytes s n e t =
    let h = count_in s n (holds (pairs_in (pairs_of n s) && pairs_plain n s) t) in
    let L = all (passes Limits) (pairs_of n s) in
    let A = ascend (pairs_of n s) in
    let Z = zeros (drop (2 * n) s) in
    let u : T ((L && A) && Z) = rw (inside s n h e) at t in
    pairs_bytes s n (omega arith) (and_l L A (and_l (L && A) Z u)) (and_r (L && A) Z u)

pub not_bytes : (s : List ℕ) (n : ℕ) → length s ≡ 32 → all byte s ≡ false → pairs_in (pairs_of n s) && pairs_plain n s ≡ false
not_bytes s n e f = failed (pairs_in (pairs_of n s) && pairs_plain n s) (λ t. rw f at (in_bytes s n e t))
