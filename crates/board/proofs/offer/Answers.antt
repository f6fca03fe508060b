-- A 1c is its meaning's own.
use Rattle.rules.specs.Words.{m1c}
use Rattle.rules.specs.Lent.{stored}
use Rattle.board.proofs.Bytes.{own-stored}
use Rattle.board.proofs.offer.Goals as goal

pub returns-clause-own : goal.returns-clause-own
unfolding stored
returns-clause-own c = let b = c.args.bid in own-stored (m1c b.row.0 b.ballot.0 b.tube.0) _ tt c.bare.ensures.value
