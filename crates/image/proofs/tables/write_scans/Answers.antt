-- Writing the scans: each turn writes one behind the others.
use mathlib.Core.List.{◌∷◌}
use Prim.Native.Nat.{◌*◌, ◌+◌}
use mathlib.Core.Path.{◌≡◌, ◌∙◌}
use native.Mathlib.Numerals.{add-one}
use native.Mathlib.Omega.{arith}
use lib.ListN.{get_or}
use Rattle.image.specs.Image.{four, scans}
use Rattle.image.proofs.Writing.{none_yet, then, length-scans}
use Rattle.image.proofs.tables.write_scans.Goals as goal

pub loop-i-init : goal.loop-i-init
loop-i-init c = none_yet c.args.out.now 136

pub loop-i-preserved : goal.loop-i-preserved
loop-i-preserved c =
    let l = c.loop-i in
    let a = c.args in
    let n = length-scans a.stations a.serials l.i in
    let i = l.i in
    then a.out.now (scans a.stations a.serials i) (get_or a.stations i 0 ∷ four (get_or a.serials i 0)) 136 (136 + 5 * i) l.invariant c.write_scan.ensures (omega arith) (omega arith) ∙ rw (add-one i)

pub returns : goal.returns
returns c =
    let l = c.loop-i in
    let e : l.i ≡ 64 = omega arith in
    rw e at l.invariant
