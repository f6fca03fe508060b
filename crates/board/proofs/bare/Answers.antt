-- A vote is its meaning's own.
use Rattle.board.proofs.Bytes.{own_vote}
use Rattle.board.proofs.bare.Goals as goal

pub returns-clause-own : goal.returns-clause-own
returns-clause-own c h = let a = c.args in own_vote a.kind a.bid.row.0 a.bid.ballot.0 a.node.0 a.bid.tube.0 _ h (rw c.into.ensures)
