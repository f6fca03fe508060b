-- What the closing lines promise: each scanned tube has one line of its own, and the totals tell the lines above them.
use Rattle.std.specs.Prelude.{◌≡◌, Bool, true, false, ℕ, ◌+◌, ◌≤◌, eqb, length}
use mathlib.Core.List.{List, [], ◌∷◌, Memᴰ}
use Rattle.rules.specs.Tests.{one}
use Rattle.rules.specs.Words.{Room, State}
use Rattle.rules.specs.Laws.{OnIntake}
use Rattle.closing.specs.Printed.{Line, enters, repeats, waits, splits, totals, lines_of}

-- how many lines pass
abbrev pub how_many : (Line → Bool) → List Line → ℕ
how_many p [] = 0
how_many p (l ∷ ls) = one (p l) + how_many p ls

-- the tube's own line: the row that enters it, or that it waits
abbrev pub own : ℕ → Line → Bool
own t (enters r v a b) = eqb v t
own t (repeats r v) = false
own t (waits v a b) = eqb v t
own t (splits r) = false
own t (totals n e v w) = false

-- each scanned tube has exactly one line of its own
abbrev pub OneOwn : Type 0
OneOwn = (ρ : Room) (s : State) (t : ℕ) → 1 ≤ t → t ≤ length s.intake → how_many (own t) (lines_of ρ s) ≡ 1

-- lines of a kind
abbrev pub is_enters : Line → Bool
is_enters (enters r v a b) = true
is_enters (repeats r v) = false
is_enters (waits v a b) = false
is_enters (splits r) = false
is_enters (totals n e v w) = false

abbrev pub is_repeats : Line → Bool
is_repeats (enters r v a b) = false
is_repeats (repeats r v) = true
is_repeats (waits v a b) = false
is_repeats (splits r) = false
is_repeats (totals n e v w) = false

abbrev pub is_waits : Line → Bool
is_waits (enters r v a b) = false
is_waits (repeats r v) = false
is_waits (waits v a b) = true
is_waits (splits r) = false
is_waits (totals n e v w) = false

-- what totals tell: how many tubes were scanned, how many lines of each kind there are, and that scanned is entered and waiting
pub record Tells (ρ : Room) (s : State) (n e v w : ℕ) : Type 0 where
  pub scanned : n ≡ length s.intake
  pub entered : e ≡ how_many is_enters (lines_of ρ s)
  pub voids : v ≡ how_many is_repeats (lines_of ρ s)
  pub waiting : w ≡ how_many is_waits (lines_of ρ s)
  pub whole : OnIntake ρ s → n ≡ e + w

abbrev pub TotalsTell : Type 0
TotalsTell = (ρ : Room) (s : State) (n e v w : ℕ) → Memᴰ (totals n e v w) (lines_of ρ s) → Tells ρ s n e v w
