-- The voters of the messages passed are gathered.
use Rattle.rules.specs.Tests.{any}
use Rattle.rules.specs.Lent.{board_of}
use Rattle.sets.specs.Sets.{Gathered}
use Rattle.board.specs.Asked.{is_vote}
use Rattle.board.proofs.votes.Given as goal

abbrev pub invariant-loop-i : goal.invariant-loop-i
invariant-loop-i l = Gathered l.set (λ a. any (is_vote l.kind l.bid.row.0 l.bid.ballot.0 l.bid.tube.0 a) (board_of l.board l.i))
