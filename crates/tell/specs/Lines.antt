-- The book as the code keeps it: the tubes of its rows, the lines that they make, and the tubes that they leave waiting.
use Rattle.std.specs.Prelude.{◌≡◌, Bool, not, List, [], ◌∷◌, ◌++◌, ℕ, zero, suc, ◌<◌, eqb, length, get_or}
use Rattle.rules.specs.Tests.{pick, any_below, keep, up_to}
use Rattle.rules.specs.Words.{Room, State}
use Rattle.rules.specs.Lent.{patch}
use Rattle.rules.specs.Book.{reach, row_tube, book_of, waiting_of, stopped}
use Rattle.rules.specs.Replies.{stop_of}
use Rattle.tell.specs.declared.Rows.{Rows}
use Rattle.tell.specs.declared.Figures.{Figures}

-- what is found of the book's rows
pub record Reached (ρ : Room) (s : State) (r : Rows) : Type 0 where
  pub reach : r.reach ≡ reach ρ s
  pub tubes : (i : ℕ) → i < r.reach → get_or r.tubes i 0 ≡ row_tube ρ s (suc i)
  pub stop : stop_of r.stop ≡ stopped ρ s

-- a tube stands in one of the first n rows
abbrev pub standing : List ℕ → ℕ → ℕ → Bool
standing tubes n t = any_below (λ i. eqb (get_or tubes i 0) t) n

-- the line of a row, numbered from 0: its tube, or 0 for void
abbrev pub line_of : List ℕ → ℕ → ℕ
line_of tubes i = pick (standing tubes i (get_or tubes i 0)) 0 (get_or tubes i 0)

-- the lines of the first n rows
unfoldable pub lines : List ℕ → ℕ → List ℕ
lines tubes zero = []
lines tubes (suc n) = lines tubes n ++ (line_of tubes n ∷ [])

-- the tubes from 1 to k that stand in none of the first n rows
unfoldable pub left : List ℕ → ℕ → ℕ → List ℕ
left tubes n k = keep (λ t. not (standing tubes n t)) (up_to k)

-- the waiting tubes are put into an area, and counted
pub record Left (tubes : List ℕ) (n k : ℕ) (s s' : List ℕ) (w : ℕ) : Type 0 where
  pub area : s' ≡ patch s 0 (left tubes n k)
  pub number : w ≡ length (left tubes n k)

-- the book is written: its rows into p, the waiting tubes into q, and the figures
pub record Written (ρ : Room) (s : State) (p q p' q' : List ℕ) (f : Figures) : Type 0 where
  pub rows : p' ≡ patch p 0 (book_of ρ s)
  pub waiting : q' ≡ patch q 0 (waiting_of ρ s)
  pub entered : f.rows ≡ length (book_of ρ s)
  pub left : f.waiting ≡ length (waiting_of ρ s)
  pub stop : stop_of f.stop ≡ stopped ρ s
