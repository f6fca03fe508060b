-- Whole sheets and all that they print, as one table: the session of document 01, and where its headings end.
use Rattle.std.specs.Prelude.{List, [], ◌∷◌, ◌++◌, ℕ}
use Rattle.rules.specs.Cases.{lent, single}
use Rattle.lines.specs.Grammar.{text}
use Rattle.page.specs.Sheet.{sheet_of, unread}
use Rattle.session.specs.Feed.{feed_of, printed_of}

-- an input, and what is printed
pub record Case : Type 0 where
  pub input : List ℕ
  pub prints : List ℕ

abbrev pub case : List ℕ → List ℕ → Case
case s t = record { input = s; prints = t }

abbrev pub told : Case → List ℕ
told c = c.prints

-- on lent memory for a room of one node and one row
unfoldable pub shown : Case → List ℕ
shown c = printed_of (feed_of (sheet_of unread (lent (single 0 1 16))) []) c.input

abbrev pub headings : List ℕ
headings = text "nodes=1\nfaulty=0\nrows=1\ncapacity=16\nquorum=1\nweak=1\n"

abbrev pub nothing : List ℕ
nothing = text "scanned=0 entered=0 void=0 waiting=0\n"

abbrev pub cases : List Case
cases =
    -- the session of document 01, in full; its last line may lack the newline
    case (headings ++ text "do=scan station=3 serial=70\ndo=scan station=4 serial=70\ndo=1a row=1 ballot=0\ndo=1b row=1 ballot=0 node=0\ndo=hear node=0 message=1\ndo=1c row=1 ballot=0 tube=2\ndo=2av row=1 ballot=0 node=0 tube=2\ndo=2b row=1 ballot=0 node=0 tube=2")
    (text "answer=0\nanswer=0 tube=1\nanswer=0 tube=2\nanswer=0\nanswer=0\nanswer=0\nanswer=0\nanswer=0\nanswer=0\nrow=1 tube=2 station=4 serial=70\nwaiting=1 station=3 serial=70\nscanned=2 entered=1 void=0 waiting=1\n")
    -- no steps
    ∷ case headings (text "answer=0\n" ++ nothing)
    -- a bad line after a weak one begins the steps, as does any other heading; a weak line after it is a bad step
    ∷ case (headings ++ text "weak=01\n") (text "answer=0\nanswer=19\n" ++ nothing)
    ∷ case (headings ++ text "quorum=1\nweak=1\n\n") (text "answer=0\nanswer=19\nanswer=19\nanswer=19\n" ++ nothing)
    -- a bad or missing heading line ends the sheet, whatever follows
    ∷ case [] (text "answer=19\n")
    ∷ case (text "faulty=0\nnodes=1\n") (text "answer=19\n")
    ∷ case (text "nodes=1\nfaulty=0\nrows=1\ncapacity=16\nquorum=1\n") (text "answer=19\n")
    ∷ case (text "nodes=1\nfaulty=0\nrows=1\ncapacity=16\nweak=1\n") (text "answer=19\n")
    ∷ case (text "nodes=1\nfaulty=0\nrows=1\ncapacity=16\nquorum=1\ndo=1a row=1 ballot=0\n") (text "answer=19\n")
    -- a refused opening ends it too: a count outside the table, an absent node, a quorum without nodes
    ∷ case (text "nodes=9\nfaulty=0\nrows=1\ncapacity=16\nquorum=1\nweak=1\ndo=1a row=1 ballot=0\n") (text "answer=1\n")
    ∷ case (text "nodes=1\nfaulty=0\nrows=1\ncapacity=16\nquorum=1\nweak=256\nx\n") (text "answer=2\n")
    ∷ case (text "nodes=1\nfaulty=0\nrows=1\ncapacity=16\nquorum=1\nquorum=0\nweak=1\nweak=1") (text "answer=3\n")
    -- numbers go to the call, which judges them
    ∷ case (headings ++ text "do=1a row=257 ballot=0\ndo=1a row=1 ballot=4294967296\n") (text "answer=0\nanswer=6\nanswer=19\n" ++ nothing)
    ∷ []
