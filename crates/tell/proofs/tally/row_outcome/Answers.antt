-- What a row came to: the first chosen tube, and the next one after it, tell none, one or two.
use Rattle.std.proofs.Common.{sym}
use Rattle.tell.proofs.Chosen.{is_unchosen, is_agreed_row, is_split_row}
use Rattle.tell.proofs.tally.row_outcome.Goals as goal

pub returns-in_default : goal.returns-in_default
returns-in_default c cells heard =
    sym (is_unchosen c.args.h.now c.args.board.now cells heard c.row_votes-votes.result c.args.row c.requires c.row_votes-votes.ensures (rw c.from.ensures at c.in_default.ensures))

pub returns-in-None : goal.returns-in-None
returns-in-None c cells heard =
    sym (is_agreed_row c.args.h.now c.args.board.now cells heard c.row_votes-votes.result c.args.row c.requires c.row_votes-votes.ensures c.in-Some.v (rw c.from.ensures at c.in-Some.ensures) (rw c.from.ensures at c.in-None.ensures))

pub returns-in-Some-next_chosen : goal.returns-in-Some-next_chosen
returns-in-Some-next_chosen c cells heard =
    sym (is_split_row c.args.h.now c.args.board.now cells heard c.row_votes-votes.result c.args.row c.requires c.row_votes-votes.ensures c.in-Some.v (rw c.from.ensures at c.in-Some.ensures) _ (rw c.from.ensures at c.in-Some-next_chosen.ensures))
