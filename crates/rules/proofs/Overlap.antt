-- Set overlap, once over N: more common nodes than marked ones gives a common node that is not marked.
use mathlib.Core.Path.{◌≡◌, refl}
use mathlib.Core.Bool.{Bool, true, false}
use Prim.Native.Nat.{ℕ, zero, suc, ◌+◌, ◌<◌}
use native.Mathlib.Nat.{not-suc-le-zero}
use native.Mathlib.Omega.{arith}
use Rattle.rules.specs.Tests.{one, count}

abbrev pub Apart : (ℕ → Bool) → (ℕ → Bool) → ℕ → Type 0
Apart p q n = (k : ℕ) × (k < n) × (p k ≡ true) × (q k ≡ false)

more : (p q : ℕ → Bool) (n : ℕ) → (count q n < count p n → Apart p q n) → (x y : Bool) → p n ≡ x → q n ≡ y
    → one y + count q n < one x + count p n → Apart p q (suc n)
more p q n r true false e d h = (n, omega arith, e, d)
more p q n r true true e d h = let t = r (omega arith) in (t.0, omega (arith, t.1), t.2, t.3)
more p q n r false true e d h = let t = r (omega arith) in (t.0, omega (arith, t.1), t.2, t.3)
more p q n r false false e d h = let t = r (omega arith) in (t.0, omega (arith, t.1), t.2, t.3)

-- a set with more members below n than another has one that the other lacks
pub pigeon : (p q : ℕ → Bool) (n : ℕ) → count q n < count p n → Apart p q n
unfolding count
pigeon p q zero h = absurd (not-suc-le-zero h)
pigeon p q (suc n) h = more p q n (pigeon p q n) (p n) (q n) refl refl h
