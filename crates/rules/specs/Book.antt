-- "Chosen, book and sheet": a row's outcome, the book, the waiting tubes, why the book stopped, and one clerk's book.
use Rattle.std.specs.Prelude.{Bool, true, false, not, ◌&&◌, List, [], ◌∷◌, map, ℕ, zero, suc, ◌-◌, eqb, length}
use Rattle.rules.specs.Tests.{pick, any, any_below, keep, up_to}
use Rattle.rules.specs.Words.{Room, State}
use Rattle.rules.specs.Steps.{chosen}

-- the tube v is chosen in the row r, in some ballot from 0 to 15
unfoldable pub chosen_in : Room → State → ℕ → ℕ → Bool
chosen_in ρ s r v = any_below (λ b. chosen ρ s r b v) 16

-- a row's outcome: no tube chosen, one, or two or more
pub data Outcome : Type 0 where
  unchosen : Outcome
  agreed : (tube : ℕ) → Outcome
  split : Outcome

abbrev pub among : List ℕ → Outcome
among [] = unchosen
among (v ∷ []) = agreed v
among (v ∷ w ∷ l) = split

unfoldable pub outcome : Room → State → ℕ → Outcome
outcome ρ s r = among (keep (chosen_in ρ s r) (up_to 64))

-- the one chosen tube, 0 for none
abbrev pub tube_of : Outcome → ℕ
tube_of unchosen = 0
tube_of (agreed v) = v
tube_of split = 0

abbrev pub is_agreed : Outcome → Bool
is_agreed unchosen = false
is_agreed (agreed v) = true
is_agreed split = false

abbrev pub is_split : Outcome → Bool
is_split unchosen = false
is_split (agreed v) = false
is_split split = true

-- ---- the book

-- how many rows from row 1 on pass, up to just before the first that does not, of n rows
abbrev pub leading : (ℕ → Bool) → ℕ → ℕ
leading p zero = 0
leading p (suc n) = pick (eqb (leading p n) n && p (suc n)) (suc n) (leading p n)

-- "The book runs from row 1 to just before the first row that has no chosen tube or more than one."
unfoldable pub reach : Room → State → ℕ
reach ρ s = leading (λ r. is_agreed (outcome ρ s r)) ρ.rows

-- the tube of a row of the book
unfoldable pub row_tube : Room → State → ℕ → ℕ
row_tube ρ s r = tube_of (outcome ρ s r)

-- "A row whose tube stands in an earlier row is void."
unfoldable pub void : Room → State → ℕ → Bool
void ρ s r = any (λ q. eqb (row_tube ρ s q) (row_tube ρ s r)) (up_to (r - 1))

-- one byte a row: tube, or 0 for void
unfoldable pub entry : Room → State → ℕ → ℕ
entry ρ s r = pick (void ρ s r) 0 (row_tube ρ s r)

unfoldable pub book_of : Room → State → List ℕ
book_of ρ s = map (entry ρ s) (up_to (reach ρ s))

-- the tube stands in a row of the book
unfoldable pub stands : Room → State → ℕ → Bool
stands ρ s t = any (λ r. eqb (row_tube ρ s r) t) (up_to (reach ρ s))

-- "A tube on intake that stands in no row of the book is waiting", in ascending order
unfoldable pub waiting_of : Room → State → List ℕ
waiting_of ρ s = keep (λ t. not (stands ρ s t)) (up_to (length s.intake))

-- why the book stopped: 0 rows ended, 1 unchosen, 2 split
unfoldable pub stopped : Room → State → ℕ
stopped ρ s = pick (eqb (reach ρ s) ρ.rows) 0 (pick (is_split (outcome ρ s (suc (reach ρ s)))) 2 1)

-- ---- one clerk

-- One clerk takes the rows one after another, with the tubes already written in hand: from row r on, n rows at most.
-- At a row with no tube or two the clerk stops; a tube already written is a void line.
unfoldable pub clerk : Room → State → List ℕ → ℕ → ℕ → List ℕ
clerk ρ s written r zero = []
clerk ρ s written r (suc n) = let v = row_tube ρ s r in
    pick (is_agreed (outcome ρ s r))
    (pick (any (eqb v) written) (0 ∷ clerk ρ s written (suc r) n) (v ∷ clerk ρ s (v ∷ written) (suc r) n))
    []
