-- Reading the pairs: each turn copies one byte more.
use mathlib.Core.Path.{◌≡◌}
use lib.ListN.{length, take, drop}
use Rattle.frame.proofs.reading.pairs.Given as goal

abbrev pub invariant-loop-i : goal.invariant-loop-i
invariant-loop-i l = (length l.out ≡ 32) × (take l.i l.out ≡ take l.i (drop 33 l.s))
