-- Each turn fills one cell more.
use mathlib.Core.Path.{◌≡◌}
use Rattle.rules.specs.Tests.{many}
use Rattle.rules.specs.Words.{fresh}
use Rattle.rules.specs.Lent.{patch, encode, stored_cell}
use Rattle.open.proofs.clear.fresh_cells.Given as goal

abbrev pub invariant-loop-k : goal.invariant-loop-k
invariant-loop-k l = l.cells ≡ patch l.initial.cells 0 (many l.k (encode (stored_cell fresh)))
