-- Reading the serials: each turn takes one more, four bytes of every five.
use mathlib.Core.Path.{◌≡◌}
use lib.ListN.{length, take, drop}
use Rattle.image.specs.Image.{serials_at}
use Rattle.image.proofs.tables.read_serials.Given as goal

abbrev pub invariant-loop-i : goal.invariant-loop-i
invariant-loop-i l = (length l.out ≡ 64) × (take l.i l.out ≡ serials_at (drop 136 l.s) l.i)
