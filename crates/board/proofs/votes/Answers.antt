-- The voters of the messages passed are gathered.
use Rattle.std.proofs.Common.{◌||◌, sym, ◌∙◌}
use Rattle.rules.specs.Lent.{meaning}
use Rattle.board.specs.Asked.{is_vote}
use Rattle.board.proofs.Means.{board_more}
use Rattle.board.proofs.votes.Goals as goal

pub loop-i-preserved : goal.loop-i-preserved
loop-i-preserved c a h =
    let x = c.args in
    let p = is_vote x.kind x.bid.row.0 x.bid.ballot.0 x.bid.tube.0 a in
    c.with_voter-set.ensures a h
    ∙ (λ j. c.loop-i.invariant a h j || p (meaning (c.msg_at.ensures j)))
    ∙ sym (board_more p x.board.now c.loop-i.i)
