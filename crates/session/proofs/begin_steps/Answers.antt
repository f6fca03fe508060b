-- The opening is done and answered, and the step after it if the room opened.
use mathlib.Core.Path.{ap}
use Rattle.page.specs.declared.Due.TheVariants.{Step}
use Rattle.page.specs.Held.{due_of, heads_of}
use Rattle.page.proofs.Dues.{apart}
use Rattle.session.proofs.Turns.{took_refused, took_opened}
use Rattle.session.proofs.begin_steps.Goals as goal

pub returns-in_default-clause-took : goal.returns-in_default-clause-took
returns-in_default-clause-took c =
    took_refused _ _ _ _ _ c.open_room-number.ensures c.args.read (apart _ Step c.in_default.not-Step) c.answer_line-at.ensures.wrote

pub returns-in-Step-clause-took : goal.returns-in-Step-clause-took
returns-in-Step-clause-took c =
    took_opened _ _ _ _ _ c.open_room-number.ensures c.args.read (ap due_of c.in-Step.is) c.answer_line-at.ensures.wrote (c.take_step.ensures.took (heads_of c.open_room-number.new.heads))
