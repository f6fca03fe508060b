-- `calls` promises what proofs/Ready, proofs/Stay and proofs/Alike show of one call.
use Rattle.kept.proofs.Ready.{allowed}
use Rattle.kept.proofs.Stay.{refused, obeyed}
use Rattle.kept.proofs.Alike.{step_or_not, one-step}
use Rattle.kept.proofs.calls.Goals as goal

pub returns : goal.returns
returns c = (obeyed, refused, allowed, step_or_not, one-step)
