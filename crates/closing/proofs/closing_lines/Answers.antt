-- `closing_lines` promises what proofs/Lines shows.
use Rattle.closing.proofs.Lines.{one-own, totals_tell}
use Rattle.closing.proofs.closing_lines.Goals as goal

pub returns : goal.returns
returns c = record { one_own = one-own; totals_tell = totals_tell }
