-- The votes of a row: those of the messages passed are counted.
use mathlib.Core.Path.{refl, ap, ◌∙◌}
use native.Mathlib.Omega.{arith}
use lib.ListN.{length}
use Rattle.rules.specs.Lent.{msg_at}
use Rattle.tell.proofs.Votes.{none_counted, length-voted, counted_next}
use Rattle.tell.proofs.tally.row_votes.Goals as goal

pub loop-k-init : goal.loop-k-init
loop-k-init c = record { size = refl; votes = none_counted c.args.row }

pub loop-k-preserved : goal.loop-k-preserved
loop-k-preserved c =
    let s = c.args.board.now in
    let l = c.loop-k in
    let e = c.add_vote.ensures in
    record { size = ap length e ∙ length-voted l.votes c.args.row (msg_at s l.k) ∙ l.invariant.size; votes = rw e (counted_next c.args.h.now s l.votes c.args.row l.k c.requires (omega arith) l.invariant.size l.invariant.votes) }
