-- The waiting tubes: those of the tubes passed are written and counted.
use lib.ListN.{length}
use Rattle.tell.specs.Lines.{Left}
use Rattle.tell.proofs.booking.write_waiting.Given as goal

abbrev pub invariant-loop-k : goal.invariant-loop-k
invariant-loop-k l = Left l.rows (length l.rows) l.k l.initial.out l.out l.w
