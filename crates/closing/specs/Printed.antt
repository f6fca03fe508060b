-- "Chosen, book and sheet": what the sheet prints, line by line and to the byte.
use Rattle.std.specs.Prelude.{Bool, List, [], ◌∷◌, ◌++◌, map, ℕ, suc, ◌-◌, eqb, length, get_or}
use Prim.Native.String.{String}
use Rattle.rules.specs.Tests.{pick, up_to}
use Rattle.rules.specs.Words.{Room, State}
use Rattle.rules.specs.Book.{reach, row_tube, void, book_of, waiting_of, stopped}
use Rattle.rules.specs.Laws.{entered, voids}
use Rattle.rules.specs.Replies.{Answer}
use Rattle.lines.specs.Decimal.{decimal}
use Rattle.lines.specs.Grammar.{text}

-- ---- fields

-- a word and a number; every word but a line's first begins with the space that parts fields
abbrev pub Field : Type 0
Field = String × ℕ

-- fields and a newline
abbrev pub in_fields : List Field → List ℕ
in_fields [] = 10 ∷ []
in_fields (f ∷ l) = (text f.0 ++ decimal f.1) ++ in_fields l

-- ---- answers

-- a number, and a tube unless it is none
abbrev pub answer_text : ℕ → ℕ → List ℕ
answer_text number tube = in_fields (("answer=", number) ∷ pick (eqb tube 0) [] ((" tube=", tube) ∷ []))

-- "one line a step, a refused one just `answer=` and its number, an accepted scan with its tube": a refused scan's value is 0
unfoldable pub answer_line : Answer → (scan : Bool) → List ℕ
answer_line a scan = answer_text a.number (pick scan a.value 0)

-- ---- the closing lines

pub data Line : Type 0 where
  enters : (row tube station serial : ℕ) → Line
  repeats : (row tube : ℕ) → Line
  waits : (tube station serial : ℕ) → Line
  splits : (row : ℕ) → Line
  totals : (scanned entered void waiting : ℕ) → Line

-- the station and the serial of a scan
abbrev pub owner : ℕ → ℕ → List Field
owner station serial = (" station=", station) ∷ (" serial=", serial) ∷ []

abbrev pub fields_of : Line → List Field
fields_of (enters r t a b) = ("row=", r) ∷ (" tube=", t) ∷ owner a b
fields_of (repeats r t) = ("row=", r) ∷ (" void=", t) ∷ []
fields_of (waits t a b) = ("waiting=", t) ∷ owner a b
fields_of (splits r) = ("split=", r) ∷ []
fields_of (totals n e v w) = ("scanned=", n) ∷ (" entered=", e) ∷ (" void=", v) ∷ (" waiting=", w) ∷ []

unfoldable pub line_text : Line → List ℕ
line_text l = in_fields (fields_of l)

abbrev pub lines_text : List Line → List ℕ
lines_text [] = []
lines_text (l ∷ ls) = line_text l ++ lines_text ls

-- the scan of a tube: its place on intake, from 1
unfoldable pub scan_of : State → ℕ → ℕ × ℕ
scan_of s t = get_or s.intake (t - 1) (0, 0)

abbrev pub enter_line : State → ℕ → ℕ → Line
enter_line s r t = enters r t (scan_of s t).0 (scan_of s t).1

-- "book rows (a void one is `row=2 void=1`, naming the tube it repeats)"
unfoldable pub row_line : Room → State → ℕ → Line
row_line ρ s r = pick (void ρ s r) (repeats r (row_tube ρ s r)) (enter_line s r (row_tube ρ s r))

unfoldable pub waiting_line : State → ℕ → Line
waiting_line s t = waits t (scan_of s t).0 (scan_of s t).1

-- "`split=` and the row if stopped by one"
unfoldable pub split_line : Room → State → List Line
split_line ρ s = pick (eqb (stopped ρ s) 2) (splits (suc (reach ρ s)) ∷ []) []

-- counted from intake and book
unfoldable pub totals_line : Room → State → Line
totals_line ρ s = totals (length s.intake) (entered (book_of ρ s)) (voids (book_of ρ s)) (length (waiting_of ρ s))

-- the book's rows, the waiting tubes by number, a split, the totals
unfoldable pub lines_of : Room → State → List Line
lines_of ρ s = map (row_line ρ s) (up_to (reach ρ s)) ++ (map (waiting_line s) (waiting_of ρ s) ++ (split_line ρ s ++ (totals_line ρ s ∷ [])))

unfoldable pub closing_of : Room → State → List ℕ
closing_of ρ s = lines_text (lines_of ρ s)
