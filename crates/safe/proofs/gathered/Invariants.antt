-- One pass: what is gathered of the messages passed.
use Rattle.rules.specs.Lent.{board_of, heard_at}
use Rattle.rules.specs.Steps.{heard_from}
use Rattle.safe.specs.Safe.{Tells}
use Rattle.safe.proofs.gathered.Given as goal

abbrev pub invariant-loop-i : goal.invariant-loop-i
invariant-loop-i l = Tells l.t l.bid.row.0 l.bid.ballot.0 l.bid.tube.0 (heard_from (heard_at l.heard l.node.0) 0 (board_of l.board l.i))
