-- What the writers are given and what they leave: the book and the intake as arrays, and bytes written at a place.
use Rattle.std.specs.Prelude.{◌≡◌, Bool, List, map, ℕ, ◌+◌, ◌-◌, ◌≤◌, eqb, length, get_or}
use Rattle.rules.specs.Tests.{any, up_to}
use Rattle.rules.specs.Words.{Room, State}
use Rattle.rules.specs.Lent.{patch}
use Rattle.rules.specs.Book.{reach, row_tube, stopped}
use Rattle.rules.specs.Laws.{OnIntake}
use Rattle.closing.specs.Printed.{lines_text, scan_of, row_line, waiting_line}

-- the bytes ys were written at a place: where they end, and the area afterwards
pub record Wrote (s : List ℕ) (at : ℕ) (ys : List ℕ) (end : ℕ) (s' : List ℕ) : Type 0 where
  pub ends : end ≡ at + length ys
  pub area : s' ≡ patch s at ys

-- the tube t stands in one of the first k rows
unfoldable pub held_in : List ℕ → ℕ → ℕ → Bool
held_in tubes k t = any (λ r. eqb (get_or tubes (r - 1) 0) t) (up_to k)

-- each of the first n rows, 64 at most, has a tube from 1 to 64
pub record Rows (tubes : List ℕ) (n : ℕ) : Type 0 where
  pub few : n ≤ 64
  pub low : (r : ℕ) → 1 ≤ r → r ≤ n → 1 ≤ get_or tubes (r - 1) 0
  pub high : (r : ℕ) → 1 ≤ r → r ≤ n → get_or tubes (r - 1) 0 ≤ 64

-- the array holds the tube of each row of the book, and all of them are on intake
pub record Book (ρ : Room) (s : State) (tubes : List ℕ) (n : ℕ) : Type 0 where
  pub reached : n ≡ reach ρ s
  pub holds : (r : ℕ) → 1 ≤ r → r ≤ n → get_or tubes (r - 1) 0 ≡ row_tube ρ s r
  pub scanned : OnIntake ρ s

-- the arrays hold the scan of each tube on intake
abbrev pub Scans : State → List ℕ → List ℕ → Type 0
Scans s stations serials = (t : ℕ) → 1 ≤ t → t ≤ length s.intake → scan_of s t ≡ (get_or stations (t - 1) 0, get_or serials (t - 1) 0)

-- the lines of the first k rows, and of waiting tubes
abbrev pub rows_text : Room → State → ℕ → List ℕ
rows_text ρ s k = lines_text (map (row_line ρ s) (up_to k))

abbrev pub waiting_text : State → List ℕ → List ℕ
waiting_text s l = lines_text (map (waiting_line s) l)

-- all that the closing lines are made of is that of the room ρ and what stands in it, s
pub record Given (ρ : Room) (s : State) (tubes : List ℕ) (n : ℕ) (split : Bool) (stations serials : List ℕ) (scanned : ℕ) : Type 0 where
  pub few : n ≤ 64
  pub most : scanned ≤ 64
  pub rows : Book ρ s tubes n
  pub stop : split ≡ eqb (stopped ρ s) 2
  pub count : scanned ≡ length s.intake
  pub scans : Scans s stations serials

-- there is such a room
abbrev pub Known : List ℕ → ℕ → Bool → List ℕ → List ℕ → ℕ → Type 0
Known tubes n split stations serials scanned = (ρ : Room) × (s : State) × Given ρ s tubes n split stations serials scanned
