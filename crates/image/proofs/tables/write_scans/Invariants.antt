-- Writing the scans: each turn writes one behind the others.
use mathlib.Core.Path.{◌≡◌}
use Rattle.rules.specs.Lent.{patch}
use Rattle.image.specs.Image.{scans}
use Rattle.image.proofs.tables.write_scans.Given as goal

abbrev pub invariant-loop-i : goal.invariant-loop-i
invariant-loop-i l = l.out ≡ patch l.initial.out 136 (scans l.stations l.serials l.i)
