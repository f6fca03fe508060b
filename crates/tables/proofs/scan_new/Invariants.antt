-- No earlier scan is the same, one by one.
use mathlib.Core.Path.{◌≡◌}
use mathlib.Core.Bool.{Bool, true, not}
use mathlib.Core.List.{List}
use Prim.Native.Nat.{ℕ}
use Rattle.rules.specs.Tests.{all_below}
use Rattle.rules.specs.Lent.{same_scan}
use Rattle.tables.specs.Tables.{scan_at}
use Rattle.tables.proofs.scan_new.Given as goal

abbrev pub other : List ℕ → List ℕ → ℕ → ℕ → Bool
other a b k j = not (same_scan (scan_at a b j) (scan_at a b k))

abbrev pub invariant-loop-j : goal.invariant-loop-j
invariant-loop-j l = all_below (other l.stations l.serials l.k) l.j ≡ true
