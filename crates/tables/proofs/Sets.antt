-- Node sets as bytes: how many of the first k nodes a byte names.
use mathlib.Core.Path.{◌≡◌, refl, ap, ◌∙◌, fun_ext}
use mathlib.Core.Bool.{Bool, ◌&&◌}
use Prim.Native.Nat.{ℕ, zero, suc, ◌+◌, ◌-◌, ◌*◌, ◌/◌, ◌%◌, ◌^◌, ◌<◌}
use native.Mathlib.Nat.{mod-lt, one-mul}
use native.Mathlib.Omega.{arith}
use lib.Bits.{bit_and}
use lib.Count.{ones}
use lib.Dec.{eqb}
use lib.Pow.{pow_pos, shl_exact, field, mod-mod-pow}
use Rattle.rules.specs.Tests.{bit, count}
use Rattle.rules.proofs.Nodes.{ones_count, bit-bit_and}

-- what `1 << k` is in w bits
pub power_fits : (k w : ℕ) → k < w → 1 * 2 ^ k % 2 ^ w ≡ 2 ^ k
power_fits k w h = shl_exact {a = 1} 1 k w (omega arith) (omega arith) ∙ one-mul (2 ^ k)

-- the low k bits are those of the remainder
low-bit-at : (x j i : ℕ) → bit (x % 2 ^ (j + 1 + i)) i ≡ bit x i
low-bit-at x j i =
    ap (λ (z : ℕ). eqb (z % 2) 1) (field x (j + 1) i)
    ∙ ap (λ (z : ℕ). eqb z 1) (mod-mod-pow (x / 2 ^ i) j 1)

low_bit : (x k i : ℕ) → i < k → bit (x % 2 ^ k) i ≡ bit x i
low_bit x k i h =
    let e : k ≡ k - suc i + 1 + i = omega arith in
    rw e (low-bit-at x (k - suc i) i)

count_same : (p q : ℕ → Bool) (k : ℕ) → ((i : ℕ) → i < k → p i ≡ q i) → count p k ≡ count q k
unfolding count
count_same p q zero f = refl
count_same p q (suc k) f = rw (f k (omega arith), count_same p q k (λ i l. f i (omega arith)))

-- what `count_ones` of the low k bits is
pub members_count : (k x : ℕ) → ones (x % 2 ^ k) ≡ count (bit x) k
members_count k x =
    ones_count k (x % 2 ^ k) (mod-lt x (pow_pos k))
    ∙ count_same (bit (x % 2 ^ k)) (bit x) k (λ i h. low_bit x k i h)

-- the members of `p & q`
pub common_count : (k p q : ℕ) → count (bit (bit_and p q)) k ≡ count (λ n. bit p n && bit q n) k
common_count k p q = ap (λ (f : ℕ → Bool). count f k) (fun_ext (bit-bit_and p q))
