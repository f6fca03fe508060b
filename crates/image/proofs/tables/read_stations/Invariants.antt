-- Reading the stations: each turn takes one more, every fifth byte.
use mathlib.Core.Path.{◌≡◌}
use lib.ListN.{length, take, drop}
use Rattle.image.specs.Image.{stations_at}
use Rattle.image.proofs.tables.read_stations.Given as goal

abbrev pub invariant-loop-i : goal.invariant-loop-i
invariant-loop-i l = (length l.out ≡ 64) × (take l.i l.out ≡ stations_at (drop 136 l.s) l.i)
