-- The lines: those of the rows passed are written.
use mathlib.Core.Path.{◌≡◌}
use Rattle.rules.specs.Lent.{patch}
use Rattle.tell.specs.Lines.{lines}
use Rattle.tell.proofs.booking.write_lines.Given as goal

abbrev pub invariant-loop-i : goal.invariant-loop-i
invariant-loop-i l = l.out ≡ patch l.initial.out 0 (lines l.rows l.i)
