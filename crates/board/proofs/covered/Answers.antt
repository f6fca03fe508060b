-- A quorum of voters: the gathered set stands for the votes.
use Rattle.std.proofs.Common.{◌∙◌}
use Rattle.rules.specs.Tests.{any}
use Rattle.rules.specs.Lent.{board_of, room_of, kind_byte}
use Rattle.sets.proofs.Full.{full_gathered}
use Rattle.board.specs.Asked.{is_vote}
use Rattle.board.proofs.covered.Goals as goal

pub returns : goal.returns
returns c =
    let v = c.votes-set in
    let x = c.args in
    (rw c.from-2.ensures at c.some_full.ensures)
    ∙ full_gathered (room_of x.h.now) (room_of x.h.now).quorums v.result
    (λ a. any (is_vote (kind_byte x.kind) x.bid.row.0 x.bid.ballot.0 x.bid.tube.0 a) (board_of x.board.now x.h.now.count))
    c.requires.nodes_bound.0 (rw (c.from.ensures, c.into.ensures) at v.ensures)
