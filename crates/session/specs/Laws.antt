-- What a sheet promises: its bytes are read as its lines, its steps are calls after one opening, and its closing lines are those of its memory.
use Rattle.std.specs.Prelude.{◌≡◌, List, [], ◌∷◌, ℕ}
use Rattle.rules.specs.Words.{Room}
use Rattle.rules.specs.Lent.{Memory, room_of, read}
use Rattle.rules.specs.Steps.{Call}
use Rattle.rules.specs.Replies.{runs, open_reply, opening}
use Rattle.lines.specs.Grammar.{parsed}
use Rattle.closing.specs.Printed.{closing_of}
use Rattle.page.specs.Sheet.{Sheet, sheet_of, unread, takes, closes, lines_in, printed}
use Rattle.session.specs.Feed.{feed_of, printed_of}

-- nothing is dropped: what the bytes print is what the lines print, however long the input and its lines are
abbrev pub ReadAsLines : Type 0
ReadAsLines = (s : Sheet) (input : List ℕ) → printed_of (feed_of s []) input ≡ printed s (lines_in input)

-- the sheet after lines
unfoldable pub sheet_after : Sheet → List (List ℕ) → Sheet
sheet_after s [] = s
sheet_after s (l ∷ ls) = sheet_after (takes s (parsed l)).sheet ls

-- a memory that an opening on the memory m and calls after it left
pub record Since (m m' : Memory) : Type 0 where
  pub room : Room
  pub calls : List Call
  pub opened : open_reply room m ≡ 0
  pub memory : m' ≡ runs (opening room m) calls

-- demand 3 is about a sheet's memory: while steps are due, an opening and calls left it
abbrev pub StepsAreCalls : Type 0
StepsAreCalls = (m : Memory) (ls : List (List ℕ)) → let s = sheet_after (sheet_of unread m) ls in s.heads.due ≡ 7 → Since m s.memory

-- and its end prints the closing lines, not a refusal
abbrev pub ClosesInForm : Type 0
ClosesInForm = (m m' : Memory) → Since m m' → closes m' ≡ closing_of (room_of m'.house) (read m')
