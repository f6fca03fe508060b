-- One message more: its first two bytes decide whether it is a 2b of the row.
use mathlib.Core.Path.{sym, ◌∙◌}
use native.Mathlib.Omega.{arith}
use Rattle.rules.specs.Lent.{msg_at}
use Rattle.tell.proofs.Votes.{bytes, other_kind, other_row, this_row}
use Rattle.tell.proofs.tally.add_vote.Goals as goal

pub returns-then-board-at-ne5 : goal.returns-then-board-at-ne5
returns-then-board-at-ne5 c =
    let a = c.args in
    sym (other_kind a.votes.now a.row (msg_at a.board.now a.k) (λ e. c.if-board-at-ne5.true (sym (bytes a.board.now a.k).kind ∙ e)))

pub returns-then-board-at : goal.returns-then-board-at
returns-then-board-at c =
    let a = c.args in
    sym (other_row a.votes.now a.row (msg_at a.board.now a.k) (λ e. c.if-board-at.true (sym (bytes a.board.now a.k).row ∙ e)))

pub put_vote-requires : goal.put_vote-requires
put_vote-requires c =
    let b = bytes c.args.board.now c.args.k in
    let w = c.requires.slot (b.kind ∙ c.if-board-at-ne5.false) in
    (omega arith, (omega arith, omega arith))

pub returns : goal.returns
returns c =
    let a = c.args in
    let b = bytes a.board.now a.k in
    c.put_vote.ensures
    ∙ sym (this_row a.votes.now a.row (msg_at a.board.now a.k) (b.kind ∙ c.if-board-at-ne5.false) (b.row ∙ c.if-board-at.false) ∙ rw (b.ballot, b.tube, b.node))
