-- What the sheet prints of whole runs of calls, as one table: the paper's session, a void row, a split.
use Rattle.std.specs.Prelude.{Bool, true, false, List, [], ◌∷◌, ◌++◌, ℕ}
use Rattle.rules.specs.Words.{Room}
use Rattle.rules.specs.Lent.{Memory, room_of, read}
use Rattle.rules.specs.Steps.{Call, scan, c1a, c1b, c1c, c2av, c2b, hear, foreign, ask, book, p2b}
use Rattle.rules.specs.Replies.{answer, after, runs, open_reply, bare}
use Rattle.rules.specs.Cases.{lent, start, single, booked}
use Rattle.lines.specs.Grammar.{text}
use Rattle.closing.specs.Printed.{answer_line, closing_of}

abbrev pub is_scan : Call → Bool
is_scan (scan a b) = true
is_scan (c1a r b) = false
is_scan (c1b r n b) = false
is_scan (c1c r b v) = false
is_scan (c2av r n b v) = false
is_scan (c2b r n b v) = false
is_scan (hear n k) = false
is_scan (foreign p) = false
is_scan (ask r) = false
is_scan (book p q) = false

-- one line a step
unfoldable pub answers_of : Memory → List Call → List ℕ
answers_of m [] = []
answers_of m (c ∷ cs) = answer_line (answer m c) (is_scan c) ++ answers_of (after m c) cs

-- a room, calls after its opening, and what is printed
pub record Case : Type 0 where
  pub room : Room
  pub calls : List Call
  pub prints : List ℕ

abbrev pub case : Room → List Call → List ℕ → Case
case ρ cs s = record { room = ρ; calls = cs; prints = s }

abbrev pub told : Case → List ℕ
told c = c.prints

-- the opening, one line a step, and the closing lines
unfoldable pub printed : Case → List ℕ
printed c = let m = runs (start c.room) c.calls in
    answer_line (bare (open_reply c.room (lent c.room))) false ++ (answers_of (start c.room) c.calls ++ closing_of (room_of m.house) (read m))

abbrev pub cases : List Case
cases =
    -- the session of document 01, in full
    case (single 0 1 16) (scan 3 70 ∷ scan 4 70 ∷ booked 1 0 2)
    (text "answer=0\nanswer=0 tube=1\nanswer=0 tube=2\nanswer=0\nanswer=0\nanswer=0\nanswer=0\nanswer=0\nanswer=0\nrow=1 tube=2 station=4 serial=70\nwaiting=1 station=3 serial=70\nscanned=2 entered=1 void=0 waiting=1\n")
    -- a void row names the tube it repeats, and enters none; a known scan tells its old tube; a refused step tells no more
    ∷ case (single 0 3 16) (scan 200 4294967295 ∷ scan 0 0 ∷ scan 200 4294967295 ∷ scan 256 0 ∷ scan 7 1234567890 ∷ foreign (p2b 1 0 0 3) ∷ foreign (p2b 2 0 0 3) ∷ [])
    (text "answer=0\nanswer=0 tube=1\nanswer=0 tube=2\nanswer=0 tube=1\nanswer=6\nanswer=0 tube=3\nanswer=0\nanswer=0\nrow=1 tube=3 station=7 serial=1234567890\nrow=2 void=3\nwaiting=1 station=200 serial=4294967295\nwaiting=2 station=0 serial=0\nscanned=3 entered=1 void=1 waiting=2\n")
    -- a split row ends the book, and its tubes wait
    ∷ case (single 0 3 16) (scan 3 70 ∷ scan 4 70 ∷ foreign (p2b 1 0 0 1) ∷ foreign (p2b 2 0 0 1) ∷ foreign (p2b 2 1 0 2) ∷ [])
    (text "answer=0\nanswer=0 tube=1\nanswer=0 tube=2\nanswer=0\nanswer=0\nanswer=0\nrow=1 tube=1 station=3 serial=70\nwaiting=2 station=4 serial=70\nsplit=2\nscanned=2 entered=1 void=0 waiting=1\n")
    ∷ []
