-- The book's rows: all rows passed are agreed, and their tubes stand in order.
use mathlib.Core.Path.{◌≡◌}
use lib.ListN.{length}
use Rattle.tell.specs.Chosen.{Seen}
use Rattle.tell.proofs.Lines.{So}
use Rattle.tell.proofs.booking.book_rows.Given as goal

abbrev pub invariant-loop-k : goal.invariant-loop-k
invariant-loop-k l = record { size : length l.tubes ≡ 64; so : Seen l.h l.board (λ ρ s. So ρ s l.tubes l.k) }
