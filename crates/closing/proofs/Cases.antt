-- The table of printed runs is right: one claim that the checker computes.
use mathlib.Core.Path.{◌≡◌, refl}
use mathlib.Core.List.{map}
use Rattle.rules.specs.Tests.{count}
use Rattle.rules.specs.Lent.{msg_at, meaning, stored, heard_at, counts, long, limits, scanned, plain_msg, good_msg, plain_cell, good_cell, house_form, board_form, cells_form, heard_form, in_form}
use Rattle.rules.specs.Steps.{post, write}
use Rattle.rules.specs.Book.{chosen_in, outcome, reach, row_tube, void, entry, book_of, stands, waiting_of, stopped}
use Rattle.rules.specs.Replies.{fields, tubes, reply, change, after, tell, answer, runs, open_reply, opened, opening}
use Rattle.rules.specs.Cases.{lent, start}
use Rattle.lines.specs.Decimal.{decimal}
use Rattle.closing.specs.Printed.{answer_line, line_text, scan_of, row_line, waiting_line, split_line, totals_line, lines_of, closing_of}
use Rattle.closing.specs.Cases.{answers_of, printed, told, cases}

pub all-printed : map printed cases ≡ map told cases
unfolding count msg_at meaning stored heard_at counts long limits scanned plain_msg good_msg plain_cell good_cell house_form board_form cells_form heard_form in_form post write chosen_in outcome reach row_tube void entry book_of stands waiting_of stopped fields tubes reply change after tell answer runs open_reply opened opening lent start decimal answer_line line_text scan_of row_line waiting_line split_line totals_line lines_of closing_of answers_of printed
all-printed = refl
