-- Reading the arguments: each turn takes four bytes more.
use mathlib.Core.Path.{◌≡◌}
use lib.ListN.{length, take, drop}
use Rattle.frame.specs.Frame.{numbers_at}
use Rattle.frame.proofs.reading.arguments.Given as goal

abbrev pub invariant-loop-i : goal.invariant-loop-i
invariant-loop-i l = (length l.out ≡ 8) × (take l.i l.out ≡ numbers_at (drop 1 l.s) l.i)
