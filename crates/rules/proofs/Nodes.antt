-- The node sets as bytes: what `&`, `|` and `count_ones` do to their members.
use mathlib.Core.Path.{◌≡◌, refl, sym, ap, ◌∙◌}
use mathlib.Core.Bool.{Bool, false, ◌&&◌, ◌||◌}
use mathlib.Core.Logic.{◌⊎◌, inl, inr}
use Prim.Native.Nat.{ℕ, zero, suc, ◌+◌, ◌/◌, ◌%◌, ◌^◌, min, max, ◌<◌}
use native.Mathlib.Nat.{div-one}
use native.Mathlib.Numerals.{one-add}
use native.Mathlib.Omega.{arith}
use lib.Dec.{eqb, eqb-suc-zero, eqb-zero-suc, eqb-suc-suc}
use lib.Bits.{bit_and, bit_or, and_step, or_step, and_shr, or_shr}
use lib.Count.{ones, ones_in, ones_step}
use lib.Pow.{shr-shr, shr_lt}
use Rattle.rules.specs.Tests.{bit, one, count}

two : (x : ℕ) → x < 2 → (x ≡ 0) ⊎ (x ≡ 1)
two zero h = inl refl
two (suc zero) h = inr refl
two (suc (suc x)) h = absurd (omega arith)

min_bit : (x y : ℕ) → (x ≡ 0) ⊎ (x ≡ 1) → (y ≡ 0) ⊎ (y ≡ 1) → eqb (min x y) 1 ≡ eqb x 1 && eqb y 1
min_bit x y (inl e) (inl d) = rw (e, d)
min_bit x y (inl e) (inr d) = rw (e, d)
min_bit x y (inr e) (inl d) = rw (e, d)
min_bit x y (inr e) (inr d) = rw (e, d)

max_bit : (x y : ℕ) → (x ≡ 0) ⊎ (x ≡ 1) → (y ≡ 0) ⊎ (y ≡ 1) → eqb (max x y) 1 ≡ eqb x 1 || eqb y 1
max_bit x y (inl e) (inl d) = rw (e, d)
max_bit x y (inl e) (inr d) = rw (e, d)
max_bit x y (inr e) (inl d) = rw (e, d)
max_bit x y (inr e) (inr d) = rw (e, d)

pub digit : (x : ℕ) → (x % 2 ≡ 0) ⊎ (x % 2 ≡ 1)
digit x = two (x % 2) (omega arith)

pub bit-bit_and : (p q n : ℕ) → bit (bit_and p q) n ≡ bit p n && bit q n
bit-bit_and p q n =
    let a = p / 2 ^ n in
    let b = q / 2 ^ n in
    let e : bit_and a b % 2 ≡ min (a % 2) (b % 2) = omega (arith, and_step a b) in
    rw (and_shr, e) (min_bit (a % 2) (b % 2) (digit a) (digit b))

pub bit-bit_or : (p q n : ℕ) → bit (bit_or p q) n ≡ bit p n || bit q n
bit-bit_or p q n =
    let a = p / 2 ^ n in
    let b = q / 2 ^ n in
    let e : bit_or a b % 2 ≡ max (a % 2) (b % 2) = omega (arith, or_step a b) in
    rw (or_shr, e) (max_bit (a % 2) (b % 2) (digit a) (digit b))

pub bit_suc : (x n : ℕ) → bit x (suc n) ≡ bit (x / 2) n
bit_suc x n = ap (λ (z : ℕ). eqb (z % 2) 1) (sym (shr-shr x 1 n ∙ ap (λ (z : ℕ). x / 2 ^ z) (one-add n)))

pub one_digit : (x : ℕ) → (x ≡ 0) ⊎ (x ≡ 1) → one (eqb x 1) ≡ x
one_digit x (inl e) = rw e
one_digit x (inr e) = rw e

count_low : (x k : ℕ) → count (bit x) (suc k) ≡ one (bit x 0) + count (bit (x / 2)) k
unfolding count
count_low x zero = refl
count_low x (suc k) = omega (arith, count_low x k, ap one (bit_suc x k))

pub ones_count : (k x : ℕ) → x < 2 ^ k → ones x ≡ count (bit x) k
unfolding ones ones_in count
ones_count zero x h = let e : x ≡ 0 = omega arith in rw e
ones_count (suc k) x h =
    let l : x / 2 < 2 ^ k = shr_lt k 1 (rw native.Mathlib.Numerals.add-one h) in
    let b : one (bit x 0) ≡ x % 2 = rw div-one (one_digit (x % 2) (digit x)) in
    omega (arith, ones_step x, ones_count k (x / 2) l, count_low x k)

-- a node's own bit
pub zero_bit : (a : ℕ) → bit 0 a ≡ false
zero_bit zero = refl
zero_bit (suc a) = bit_suc 0 a ∙ zero_bit a

pub bit-one : (n a : ℕ) → bit (2 ^ n) a ≡ eqb a n
bit-one zero zero = refl
bit-one zero (suc a) = bit_suc 1 a ∙ zero_bit a ∙ sym (eqb-suc-zero a)
bit-one (suc n) zero =
    let e : 2 ^ suc n % 2 ≡ 0 = omega arith in
    rw (div-one, e) (sym (eqb-zero-suc n))
bit-one (suc n) (suc a) =
    let e : 2 ^ suc n / 2 ≡ 2 ^ n = omega arith in
    bit_suc (2 ^ suc n) a ∙ ap (λ (z : ℕ). bit z a) e ∙ bit-one n a ∙ sym (eqb-suc-suc a n)

-- what `m | 1 << n` marks
pub mark_bit : (m n a : ℕ) → bit (bit_or m (2 ^ n)) a ≡ bit m a || eqb a n
mark_bit m n a = bit-bit_or m (2 ^ n) a ∙ ap (λ (z : Bool). bit m a || z) (bit-one n a)
