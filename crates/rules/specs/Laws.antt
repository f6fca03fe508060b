-- What the book promises: a row's outcome, one clerk, one line for each scanned tube, and a book that only grows.
use Rattle.std.specs.Prelude.{◌≡◌, ◌↔◌, ◌⊎◌, Bool, true, not, ◌&&◌, ℕ, suc, ◌+◌, ◌-◌, ◌≤◌, ◌<◌, T, eqb, ltb, length}
use mathlib.Core.List.{List, [], ◌∷◌, ◌++◌, Memᴰ}
use Rattle.rules.specs.Tests.{all, one, first}
use Rattle.rules.specs.Words.{tube_in, Room, State}
use Rattle.rules.specs.Lent.{tables, scanned}
use Rattle.rules.specs.Steps.{chosen}
use Rattle.rules.specs.Book.{chosen_in, unchosen, agreed, split, outcome, reach, entry, book_of, waiting_of, stopped, clerk}

-- ---- a row's outcome

abbrev pub InSomeBallot : Type 0
InSomeBallot = (ρ : Room) (s : State) (r v : ℕ) → T (chosen_in ρ s r v) ↔ ((b : ℕ) × (b ≤ 15) × T (chosen ρ s r b v))

-- v is a tube, 1 to 64, and chosen in the row
abbrev pub Chosen : Room → State → ℕ → ℕ → Type 0
Chosen ρ s r v = T (tube_in v) × T (chosen_in ρ s r v)

abbrev pub NoneChosen : Type 0
NoneChosen = (ρ : Room) (s : State) (r : ℕ) → (outcome ρ s r ≡ unchosen) ↔ ((v : ℕ) → ¬ (Chosen ρ s r v))

abbrev pub OneChosen : Type 0
OneChosen = (ρ : Room) (s : State) (r v : ℕ) → (outcome ρ s r ≡ agreed v) ↔ (Chosen ρ s r v × ((w : ℕ) → Chosen ρ s r w → w ≡ v))

abbrev pub TwoChosen : Type 0
TwoChosen = (ρ : Room) (s : State) (r : ℕ) → (outcome ρ s r ≡ split) ↔ ((v : ℕ) × (w : ℕ) × Chosen ρ s r v × Chosen ρ s r w × (¬ (v ≡ w)))

-- ---- one clerk

-- the book is what one clerk writes who takes the rows one after another
abbrev pub OneClerk : Type 0
OneClerk = (ρ : Room) (s : State) → book_of ρ s ≡ clerk ρ s [] 1 ρ.rows

-- ---- one line for each scanned tube

-- how often t stands in a list
abbrev pub occurs : ℕ → List ℕ → ℕ
occurs t [] = 0
occurs t (x ∷ l) = one (eqb x t) + occurs t l

-- how many rows of a book enter a tube, and how many are void
abbrev pub entered : List ℕ → ℕ
entered [] = 0
entered (x ∷ l) = one (not (eqb x 0)) + entered l

abbrev pub voids : List ℕ → ℕ
voids l = length l - entered l

-- the void rows are those that hold 0
abbrev pub Voids : Type 0
Voids = (l : List ℕ) → voids l ≡ occurs 0 l

-- every scanned tube has one line: in the book or among the waiting, and never two
abbrev pub OneLine : Type 0
OneLine = (ρ : Room) (s : State) (t : ℕ) → 1 ≤ t → t ≤ length s.intake → occurs t (book_of ρ s) + occurs t (waiting_of ρ s) ≡ 1

-- no tube has two rows of the book
abbrev pub OneRow : Type 0
OneRow = (ρ : Room) (s : State) (t q r : ℕ) → 1 ≤ t → 1 ≤ q → 1 ≤ r → entry ρ s q ≡ t → entry ρ s r ≡ t → q ≡ r

-- the tube t has one row of the book, and does not wait
pub record InBook (ρ : Room) (s : State) (t : ℕ) : Type 0 where
  pub row : ℕ
  pub low : 1 ≤ row
  pub high : row ≤ reach ρ s
  pub enters : entry ρ s row ≡ t
  pub only : (q : ℕ) → 1 ≤ q → q ≤ reach ρ s → entry ρ s q ≡ t → q ≡ row
  pub done : ¬ (Memᴰ t (waiting_of ρ s))

-- the tube t waits once, and has no row of the book
pub record Waits (ρ : Room) (s : State) (t : ℕ) : Type 0 where
  pub once : occurs t (waiting_of ρ s) ≡ 1
  pub nowhere : (q : ℕ) → 1 ≤ q → q ≤ reach ρ s → ¬ (entry ρ s q ≡ t)

abbrev pub BookOrWaiting : Type 0
BookOrWaiting = (ρ : Room) (s : State) (t : ℕ) → 1 ≤ t → t ≤ length s.intake → InBook ρ s t ⊎ Waits ρ s t

-- where a room's tables pass opening and the board's tubes are on intake, the chosen tubes are
abbrev pub ChosenScanned : Type 0
ChosenScanned = (ρ : Room) (s : State) → first (tables ρ) ≡ 0 → T (all (scanned (length s.intake)) s.board)
    → (r v : ℕ) → T (chosen_in ρ s r v) → v ≤ length s.intake

-- every agreed tube is on intake
abbrev pub OnIntake : Room → State → Type 0
OnIntake ρ s = (r v : ℕ) → outcome ρ s r ≡ agreed v → v ≤ length s.intake

abbrev pub FromForm : Type 0
FromForm = (ρ : Room) (s : State) → first (tables ρ) ≡ 0 → T (all (scanned (length s.intake)) s.board) → OnIntake ρ s

-- the tubes entered and the tubes waiting are the tubes scanned
abbrev pub Totals : Type 0
Totals = (ρ : Room) (s : State) → OnIntake ρ s → entered (book_of ρ s) + length (waiting_of ρ s) ≡ length s.intake

-- ---- the book grows

-- where no agreed row changes, the book only gets more rows
abbrev pub Grows : Type 0
Grows = (ρ : Room) (s s' : State) → ((r v : ℕ) → outcome ρ s r ≡ agreed v → outcome ρ s' r ≡ agreed v)
    → (rest : List ℕ) × (book_of ρ s' ≡ book_of ρ s ++ rest)

-- ---- sizes, order and stop

abbrev pub Reaches : Type 0
Reaches = (ρ : Room) (s : State) → reach ρ s ≤ ρ.rows

abbrev pub BookLength : Type 0
BookLength = (ρ : Room) (s : State) → length (book_of ρ s) ≡ reach ρ s

abbrev pub EntrySmall : Type 0
EntrySmall = (ρ : Room) (s : State) (r : ℕ) → entry ρ s r ≤ 64

abbrev pub BookSmall : Type 0
BookSmall = (ρ : Room) (s : State) (x : ℕ) → Memᴰ x (book_of ρ s) → x ≤ 64

-- the numbers ascend strictly, from above k on
abbrev pub climbs : ℕ → List ℕ → Bool
climbs k [] = true
climbs k (x ∷ l) = ltb k x && climbs x l

abbrev pub WaitingClimbs : Type 0
WaitingClimbs = (ρ : Room) (s : State) → T (climbs 0 (waiting_of ρ s))

abbrev pub WaitingScanned : Type 0
WaitingScanned = (ρ : Room) (s : State) (t : ℕ) → Memᴰ t (waiting_of ρ s) → (1 ≤ t) × (t ≤ length s.intake)

abbrev pub WaitingLength : Type 0
WaitingLength = (ρ : Room) (s : State) → length (waiting_of ρ s) ≤ length s.intake

abbrev pub StopsEnded : Type 0
StopsEnded = (ρ : Room) (s : State) → (stopped ρ s ≡ 0) ↔ (reach ρ s ≡ ρ.rows)

abbrev pub StopsUnchosen : Type 0
StopsUnchosen = (ρ : Room) (s : State) → (stopped ρ s ≡ 1) ↔ ((reach ρ s < ρ.rows) × (outcome ρ s (suc (reach ρ s)) ≡ unchosen))

abbrev pub StopsSplit : Type 0
StopsSplit = (ρ : Room) (s : State) → (stopped ρ s ≡ 2) ↔ ((reach ρ s < ρ.rows) × (outcome ρ s (suc (reach ρ s)) ≡ split))
