-- `agreement` promises what proofs/OneTube and proofs/Grow show.
use Rattle.agree.proofs.Grow.{chosen_stays, marks_grow}
use Rattle.agree.proofs.OneTube.{one_tube}
use Rattle.agree.proofs.agreement.Goals as goal

pub returns : goal.returns
returns c = (one_tube, chosen_stays, marks_grow)
