-- What is left when a line's turn was taken: the sheet, and its print in a lent buffer.
use Rattle.std.specs.Prelude.{◌≡◌, List, ℕ}
use Rattle.closing.specs.Given.{Wrote}
use Rattle.page.specs.Sheet.{Sheet, Turn}

-- the sheet afterwards is the turn's, and its print stands in the buffer from a place on
pub record Took (t : Turn) (sheet : Sheet) (s : List ℕ) (at end : ℕ) (s' : List ℕ) : Type 0 where
  pub keeps : sheet ≡ t.sheet
  pub prints : Wrote s at t.prints end s'
