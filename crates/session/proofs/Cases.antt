-- The table of sheets is right: one claim that the checker computes.
use mathlib.Core.Path.{◌≡◌, refl}
use mathlib.Core.List.{map}
use Rattle.rules.specs.Tests.{count}
use Rattle.rules.specs.Lent.{msg_at, meaning, stored, heard_at, counts, long, limits, scanned, plain_msg, good_msg, plain_cell, good_cell, house_form, board_form, cells_form, heard_form, in_form}
use Rattle.rules.specs.Steps.{post, write}
use Rattle.rules.specs.Book.{chosen_in, outcome, reach, row_tube, void, entry, book_of, stands, waiting_of, stopped}
use Rattle.rules.specs.Replies.{fields, tubes, reply, change, after, tell, answer, open_reply, opened, opening}
use Rattle.rules.specs.Cases.{lent}
use Rattle.lines.specs.Decimal.{decimal}
use Rattle.lines.specs.Grammar.{by_form, line_as, fields_of, line_of, parsed}
use Rattle.closing.specs.Printed.{line_text, scan_of, row_line, waiting_line, split_line, totals_line, lines_of, closing_of}
use Rattle.page.specs.Sheet.{next, added, kept, headed, room_for, opens, begins, heading, takes, closes, ends}
use Rattle.session.specs.Feed.{longer, feeds, last_line, printed_of}
use Rattle.session.specs.Cases.{shown, told, cases}

pub all_shown : map shown cases ≡ map told cases
unfolding count msg_at meaning stored heard_at counts long limits scanned plain_msg good_msg plain_cell good_cell house_form board_form cells_form heard_form in_form post write chosen_in outcome reach row_tube void entry book_of stands waiting_of stopped fields tubes reply change after tell answer open_reply opened opening lent decimal by_form line_as fields_of line_of parsed line_text scan_of row_line waiting_line split_line totals_line lines_of closing_of next added kept headed room_for opens begins heading takes closes ends longer feeds last_line printed_of shown
all_shown = refl
