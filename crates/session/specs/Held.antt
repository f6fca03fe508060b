-- How the code holds a sheet between two bytes, and what it leaves.
use Rattle.std.specs.Prelude.{◌≡◌, List, [], ◌++◌, ℕ, eqb, take}
use Rattle.rules.specs.Tests.{pick}
use Rattle.rules.specs.Lent.{Memory, memory}
use Rattle.closing.specs.Given.{Wrote}
use Rattle.page.specs.Sheet.{Heads, sheet_of, opens, closes}
use Rattle.page.specs.Held.{heads_of}
use Rattle.session.specs.Feed.{Feed, Fed, feed_of}
use Rattle.session.specs.declared.Session.{Session}

-- the sheet, and of the line's bytes those that are held
abbrev pub feed_for : Session → (line board cells heard : List ℕ) → Feed
feed_for s l b c h = feed_of (sheet_of (heads_of s.heads) (memory s.house b c h)) (take s.held l)

-- what was fed is kept, and its print stands at the front of the buffer
pub record Ate (t : Fed) (feed : Feed) (s : List ℕ) (end : ℕ) (s' : List ℕ) : Type 0 where
  pub keeps : feed ≡ t.feed
  pub prints : Wrote s 0 t.prints end s'

-- what is printed at the end of an input without steps
abbrev pub opens_and_ends : Heads → Memory → List ℕ
opens_and_ends h m = let o = opens h m in o.prints ++ pick (eqb o.sheet.heads.due 7) (closes o.sheet.memory) []
