-- Set by set: so far the array is the sets passed with zeros after them.
use mathlib.Core.Path.{◌≡◌}
use lib.ListN.{take}
use Rattle.rules.specs.Tests.{fit}
use Rattle.tables.proofs.narrowed.Given as goal

abbrev pub invariant-loop-i : goal.invariant-loop-i
invariant-loop-i g l = l.out ≡ fit g.row.N (take l.i l.sets)
