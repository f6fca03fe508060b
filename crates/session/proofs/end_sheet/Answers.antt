-- The end is what is due: the closing lines, an opening before them, a missing heading, or nothing more.
use mathlib.Core.Path.{ap}
use Rattle.closing.proofs.Writing.{wrote_none}
use Rattle.page.specs.declared.Due.TheVariants.{Weaks, Step, Nothing}
use Rattle.page.specs.Held.{due_of}
use Rattle.page.proofs.Dues.{apart}
use Rattle.session.proofs.Turns.{wrote_as, wrote_front, ends_none, ends_steps, ends_weak, ends_early}
use Rattle.session.proofs.end_sheet.Goals as goal

pub returns-in-Nothing-clause-wrote : goal.returns-in-Nothing-clause-wrote
returns-in-Nothing-clause-wrote c = wrote_as (ends_none _ _ (ap due_of c.in-Nothing.is)) (wrote_none c.args.out.now 0)

pub returns-in-Step-clause-wrote : goal.returns-in-Step-clause-wrote
returns-in-Step-clause-wrote c =
    let w = c.write_ending.ensures in
    wrote_as (ends_steps _ _ (ap due_of c.in-Step.is)) (wrote_front _ w.value w.out_after)

pub returns-in-Weaks-clause-wrote : goal.returns-in-Weaks-clause-wrote
returns-in-Weaks-clause-wrote c = wrote_as (ends_weak _ _ (ap due_of c.in-Weaks.is)) c.open_and_end.ensures.wrote

pub returns-in_default-clause-wrote : goal.returns-in_default-clause-wrote
returns-in_default-clause-wrote c =
    let n = c.in_default in
    wrote_as (ends_early _ _ (apart _ Nothing n.not-Nothing) (apart _ Step n.not-Step) (apart _ Weaks n.not-Weaks)) c.answer_line.ensures.wrote
