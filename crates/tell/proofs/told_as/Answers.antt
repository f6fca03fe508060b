-- What an asked row is told as, case by case.
use mathlib.Core.Path.{ap, sym}
use Rattle.tell.specs.declared.RowTube.{RowTube}
use Rattle.tell.specs.Chosen.{outcome_of}
use Rattle.tell.specs.Past.{told}
use Rattle.tell.proofs.told_as.Goals as goal

pub returns-in-Unchosen : goal.returns-in-Unchosen
returns-in-Unchosen c = ap (λ (o : RowTube). told (outcome_of o)) (sym c.in-Unchosen.is)

pub returns-in-Agreed : goal.returns-in-Agreed
returns-in-Agreed c = ap (λ (o : RowTube). told (outcome_of o)) (sym c.in-Agreed.is)

pub returns-in-Split : goal.returns-in-Split
returns-in-Split c = ap (λ (o : RowTube). told (outcome_of o)) (sym c.in-Split.is)
