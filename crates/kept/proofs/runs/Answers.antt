-- `runs` promises what proofs/Alike shows of the calls after an opening.
use Rattle.kept.proofs.Alike.{opened_whole, opened-room, opened_17, opened_5, opened-run}
use Rattle.kept.proofs.runs.Goals as goal

pub returns : goal.returns
returns c = (opened_whole, opened-room, opened_17, opened_5, opened-run)
