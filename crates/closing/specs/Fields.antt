-- A line's fields as the code has them: each a word, as bytes, and a number.
use Rattle.std.specs.Prelude.{List, [], ◌∷◌, ◌++◌, map, ℕ, ◌+◌, length}
use Rattle.std.specs.Borrow.{Bor}
use Rattle.lines.specs.Decimal.{decimal}

abbrev pub words_of : List (Bor (List ℕ) × ℕ) → List (List ℕ × ℕ)
words_of l = map (λ f. (f.0.now, f.1)) l

-- the bytes of a line
abbrev pub in_words : List (List ℕ × ℕ) → List ℕ
in_words [] = 10 ∷ []
in_words (f ∷ l) = (f.0 ++ decimal f.1) ++ in_words l

-- how many bytes it has at most: a number has ten digits at most
abbrev pub line_most : List (List ℕ × ℕ) → ℕ
line_most [] = 1
line_most (f ∷ l) = length f.0 + 10 + line_most l
