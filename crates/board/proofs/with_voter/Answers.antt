-- The set with the voter: a vote of node a is a vote of its own node, and that is a.
use Rattle.std.proofs.Common.{arith}
use Rattle.std.proofs.lemmas.Grind.{common_steps}
use Rattle.rules.proofs.Codec.{or_no}
use Rattle.sets.proofs.Full.{joined-bit}
use Rattle.board.proofs.Means.{vote_node}
use Rattle.board.proofs.with_voter.Goals as goal

pub returns-then-is_vote : goal.returns-then-is_vote
returns-then-is_vote c n h =
    let a = c.args in
    let v = vote_node a.m a.kind a.bid.row.0 a.bid.ballot.0 a.bid.tube.0 n c.requires in
    let j = joined-bit a.set a.m.node n h in
    grind (arith, common_steps)

pub returns-else-is_vote : goal.returns-else-is_vote
returns-else-is_vote c n h =
    let a = c.args in
    let v = vote_node a.m a.kind a.bid.row.0 a.bid.ballot.0 a.bid.tube.0 n c.requires in
    grind (arith, common_steps, or_no)
