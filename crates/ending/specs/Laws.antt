-- What the end of a sheet promises of memory that the gate lets through.
use Rattle.std.specs.Prelude.{◌≡◌, ℕ, ◌+◌, ◌≤◌}
use mathlib.Core.List.{Memᴰ}
use Rattle.rules.specs.Lent.{Memory, room_of, read}
use Rattle.kept.specs.Kept.{Whole}
use Rattle.closing.specs.Printed.{totals, lines_of, closing_of}
use Rattle.closing.specs.Laws.{how_many, own}
use Rattle.page.specs.Sheet.{closes}

-- the sheet ends with the closing lines
abbrev pub Closed : Type 0
Closed = (m : Memory) → Whole m → closes m ≡ closing_of (room_of m.house) (read m)

-- each tube on intake has exactly one of them
abbrev pub OwnLine : Type 0
OwnLine = (m : Memory) (t : ℕ) → 1 ≤ t → t ≤ m.house.tubes → how_many (own t) (lines_of (room_of m.house) (read m)) ≡ 1

-- the totals tell the tubes scanned, and that each was entered or waits
abbrev pub AddsUp : Type 0
AddsUp = (m : Memory) (n e v w : ℕ) → Whole m → Memᴰ (totals n e v w) (lines_of (room_of m.house) (read m))
    → (n ≡ m.house.tubes) × (n ≡ e + w)
