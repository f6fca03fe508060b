-- `ending_lines` promises what proofs/Laws shows.
use Rattle.ending.proofs.Laws.{closed, own_line, adds_up}
use Rattle.ending.proofs.ending_lines.Goals as goal

pub returns : goal.returns
returns c = record { closed = closed; own_line = own_line; adds_up = adds_up }
