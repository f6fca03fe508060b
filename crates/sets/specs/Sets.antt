-- A node set with one node more, and a set that stands for a test of nodes.
use Rattle.std.specs.Prelude.{◌≡◌, Bool, ℕ, ◌^◌, ◌<◌, ltb}
use Rattle.std.specs.Int.Bits.{bit_or}
use Rattle.rules.specs.Tests.{pick, bit}

-- a number that is no node's adds none
unfoldable pub joined : ℕ → ℕ → ℕ
joined set n = pick (ltb n 8) (bit_or set (2 ^ n)) set

-- the set has just the nodes that pass
abbrev pub Gathered : ℕ → (ℕ → Bool) → Type 0
Gathered set p = (a : ℕ) → a < 8 → bit set a ≡ p a
