-- The votes of a row: those of the messages passed are counted.
use mathlib.Core.Path.{◌≡◌}
use lib.ListN.{length}
use Rattle.rules.specs.Lent.{board_of}
use Rattle.tell.specs.Votes.{Counted}
use Rattle.tell.proofs.tally.row_votes.Given as goal

abbrev pub invariant-loop-k : goal.invariant-loop-k
invariant-loop-k l = record { size : length l.votes ≡ 1024; votes : Counted (board_of l.board l.k) l.row l.votes }
