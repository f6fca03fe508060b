-- A byte with one bit: what `1 << n` is.
use mathlib.Core.Path.{◌≡◌}
use Prim.Native.Nat.{ℕ, ◌*◌, ◌%◌, ◌^◌, ◌<◌}
use native.Mathlib.Nat.{one-mul, mod-eq_of_lt}
use lib.Pow.{pow-lt}

pub own-bit : (n : ℕ) → n < 8 → 1 * 2 ^ n % 256 ≡ 2 ^ n
own-bit n h = let l : 2 ^ n < 256 = pow-lt {j = 8} h in rw (one-mul, mod-eq_of_lt l)
