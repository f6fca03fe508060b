-- A sheet read byte by byte: what is kept between two bytes, what each byte and the end of the input print.
use Rattle.std.specs.Prelude.{List, [], ◌∷◌, ◌++◌, ℕ, eqb, ltb, length}
use Rattle.rules.specs.Tests.{pick}
use Rattle.lines.specs.Grammar.{parsed}
use Rattle.page.specs.Sheet.{Sheet, takes, ends}

-- the sheet, and the bytes of the line that is being read; a line has at most 200, so of a longer one 201 are kept
pub record Feed : Type 0 where
  pub sheet : Sheet
  pub line : List ℕ

pub record Fed : Type 0 where
  pub feed : Feed
  pub prints : List ℕ

abbrev pub feed_of : Sheet → List ℕ → Feed
feed_of s l = record { sheet = s; line = l }

unfoldable pub longer : List ℕ → ℕ → List ℕ
longer l b = pick (ltb (length l) 201) (l ++ (b ∷ [])) l

-- a newline ends the line, which is taken
unfoldable pub feeds : Feed → ℕ → Fed
feeds f b = let t = takes f.sheet (parsed f.line) in
    pick (eqb b 10) (record { feed = feed_of t.sheet []; prints = t.prints }) (record { feed = feed_of f.sheet (longer f.line b); prints = [] })

-- the last line may lack its newline
unfoldable pub last_line : Feed → List ℕ
last_line f = let t = takes f.sheet (parsed f.line) in pick (eqb (length f.line) 0) (ends f.sheet) (t.prints ++ ends t.sheet)

-- all that the bytes of an input and its end print
unfoldable pub printed_of : Feed → List ℕ → List ℕ
printed_of f [] = last_line f
printed_of f (b ∷ s) = let t = feeds f b in t.prints ++ printed_of t.feed s
