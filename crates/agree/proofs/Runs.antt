-- The two runs end as they should: one claim that the checker computes.
use mathlib.Core.Path.{refl}
use Rattle.rules.specs.Tests.{count}
use Rattle.rules.specs.Lent.{msg_at, meaning, stored, heard_at, counts, long, limits, scanned, plain_msg, good_msg, plain_cell, good_cell, house_form, board_form, cells_form, heard_form, in_form}
use Rattle.rules.specs.Steps.{post, write}
use Rattle.rules.specs.Book.{chosen_in, outcome}
use Rattle.rules.specs.Replies.{fields, tubes, reply, change, after, runs, open_reply, opened, opening}
use Rattle.rules.specs.Cases.{lent, start}
use Rattle.agree.specs.Runs.{ending, RunsEnd}

pub runs_end : RunsEnd
unfolding count msg_at meaning stored heard_at counts long limits scanned plain_msg good_msg plain_cell good_cell house_form board_form cells_form heard_form in_form post write chosen_in outcome fields tubes reply change after runs open_reply opened opening lent start ending
runs_end = refl
