-- The headings are read on; a line that ends them is bad, or begins the steps.
use mathlib.Core.Path.{refl, ap}
use Rattle.page.specs.declared.Due.TheVariants.{Step, Nothing}
use Rattle.page.specs.Held.{due_of}
use Rattle.page.proofs.Dues.{apart}
use Rattle.session.proofs.Turns.{as_turn, in_silence, heading-begins, heading_bad, heading_on}
use Rattle.session.proofs.take_heading.Goals as goal

pub returns-in-Step-clause-took : goal.returns-in-Step-clause-took
returns-in-Step-clause-took c = as_turn (heading-begins _ _ c.args.read _ c.headed.ensures (ap due_of c.in-Step.is)) c.begin_steps.ensures.took

pub returns-in-Nothing-clause-took : goal.returns-in-Nothing-clause-took
returns-in-Nothing-clause-took c =
    as_turn (heading_bad _ _ c.args.read _ c.headed.ensures (ap due_of c.in-Nothing.is)) (record { keeps = refl; prints = c.answer_line.ensures.wrote })

pub returns-in_default-clause-took : goal.returns-in_default-clause-took
returns-in_default-clause-took c =
    as_turn (heading_on _ _ c.args.read _ c.headed.ensures (apart _ Step c.in_default.not-Step) (apart _ Nothing c.in_default.not-Nothing)) (in_silence _ _ c.args.out.now)
