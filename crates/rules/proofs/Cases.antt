-- The table of cases is right: one claim that the checker computes.
use mathlib.Core.Path.{◌≡◌, refl}
use mathlib.Core.Bool.{true}
use Rattle.rules.specs.Tests.{all, count}
use Rattle.rules.specs.Lent.{msg_at, meaning, stored, heard_at, counts, long, limits, scanned, plain_msg, good_msg, plain_cell, good_cell, house_form, board_form, cells_form, heard_form, in_form}
use Rattle.rules.specs.Steps.{post, write}
use Rattle.rules.specs.Book.{chosen_in, outcome, reach, row_tube, void, entry, book_of, stands, waiting_of, stopped}
use Rattle.rules.specs.Replies.{fields, tubes, reply, change, after, tell, answer, runs, open_reply, opened, opening}
use Rattle.rules.specs.Cases.{lent, start, replies_of, right, cases}

pub all_right : all right cases ≡ true
unfolding count msg_at meaning stored heard_at counts long limits scanned plain_msg good_msg plain_cell good_cell house_form board_form cells_form heard_form in_form post write chosen_in outcome reach row_tube void entry book_of stands waiting_of stopped fields tubes reply change after tell answer runs open_reply opened opening lent start replies_of right
all_right = refl
