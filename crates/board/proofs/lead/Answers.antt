-- A 1a is its meaning's own.
use Rattle.rules.specs.Words.{m1a}
use Rattle.rules.specs.Lent.{stored}
use Rattle.board.proofs.Bytes.{own-stored}
use Rattle.board.proofs.lead.Goals as goal

pub returns-clause-own : goal.returns-clause-own
unfolding stored
returns-clause-own c = own-stored (m1a c.args.row.0 c.args.ballot.0) _ tt c.bare.ensures.value
