-- `limit` promises what proofs/Runs computes.
use Rattle.agree.proofs.Runs.{runs_end}
use Rattle.agree.proofs.limit.Goals as goal

pub returns : goal.returns
returns c = runs_end
