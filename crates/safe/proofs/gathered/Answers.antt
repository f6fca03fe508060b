-- One pass: what is gathered of the messages passed.
use Rattle.std.proofs.Common.{List, sym, subst}
use Rattle.rules.specs.Words.{Msg}
use Rattle.rules.specs.Lent.{board_of, heard_at}
use Rattle.rules.specs.Steps.{heard_from}
use Rattle.safe.specs.Safe.{Tells}
use Rattle.safe.proofs.Tellers.{heard_more}
use Rattle.safe.proofs.gathered.Goals as goal

pub loop-i-preserved : goal.loop-i-preserved
loop-i-preserved c =
    let a = c.args in
    subst (λ (z : List Msg). Tells c.heard_more-t.result a.bid.row.0 a.bid.ballot.0 a.bid.tube.0 z)
    (sym (heard_more (heard_at a.heard.now a.node.0) a.board.now c.loop-i.i))
    (c.heard_more-t.ensures (heard_from (heard_at a.heard.now a.node.0) 0 (board_of a.board.now c.loop-i.i)) c.loop-i.invariant)
