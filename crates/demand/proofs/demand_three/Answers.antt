-- `demand_three` promises what proofs/Runs, proofs/Lines and the crates below show.
use Rattle.rules.specs.Lent.{room_of, read}
use Rattle.rules.proofs.Book.{one-clerk}
use Rattle.agree.proofs.Runs.{runs_end}
use Rattle.kept.proofs.Alike.{opened_17}
use Rattle.demand.proofs.Runs.{one, stays, book_grows}
use Rattle.demand.proofs.Lines.{line}
use Rattle.demand.proofs.demand_three.Goals as goal

pub returns : goal.returns
returns c = record {
  one_tube = one;
  chosen_stays = stays;
  book_grows = book_grows;
  one_clerk = λ m. one-clerk (room_of m.house) (read m);
  one_line = line;
  form_kept = opened_17;
  not_empty = runs_end;
}
