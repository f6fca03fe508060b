-- A line is a step, a heading or nothing more, as is due.
use mathlib.Core.Path.{ap}
use Rattle.page.specs.declared.Due.TheVariants.{Step, Nothing}
use Rattle.page.specs.Held.{due_of, heads_of}
use Rattle.page.proofs.Dues.{apart}
use Rattle.session.proofs.Turns.{as_turn, in_silence, takes_none, takes-heading, takes_step, as_read}
use Rattle.session.proofs.take_line.Goals as goal

pub returns-in-Nothing-clause-took : goal.returns-in-Nothing-clause-took
returns-in-Nothing-clause-took c = as_turn (takes_none _ _ _ (ap due_of c.in-Nothing.is)) (in_silence _ _ c.args.out.now)

pub returns-in-Step-clause-took : goal.returns-in-Step-clause-took
returns-in-Step-clause-took c =
    as_turn (as_read _ _ c.read_line-read.ensures (takes_step _ _ _ (ap due_of c.in-Step.is))) (c.take_step.ensures.took (heads_of c.args.heads.now))

pub returns-in_default-clause-took : goal.returns-in_default-clause-took
returns-in_default-clause-took c =
    as_turn (as_read _ _ c.read_line.ensures (takes-heading _ _ _ (apart _ Nothing c.in_default.not-Nothing) (apart _ Step c.in_default.not-Step))) c.take_heading.ensures.took
