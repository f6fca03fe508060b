-- `opening` promises what proofs/Open shows.
use Rattle.kept.proofs.Open.{begun}
use Rattle.kept.proofs.opening.Goals as goal

pub returns : goal.returns
returns c = begun
