-- `sheets` promises what proofs/Stream and proofs/Calls show.
use Rattle.session.proofs.Stream.{read_as_lines}
use Rattle.session.proofs.Calls.{steps_are_calls, closes_in_form}
use Rattle.session.proofs.sheets.Goals as goal

pub returns : goal.returns
returns c = record { read_as_lines = read_as_lines; steps_are_calls = steps_are_calls; closes_in_form = closes_in_form }
