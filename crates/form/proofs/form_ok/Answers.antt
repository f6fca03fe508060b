-- The cells' part stands in the cells area.
use mathlib.Core.Path.{sym}
use Prim.Native.Nat.{◌*◌, ◌≤◌}
use native.Mathlib.Omega.{arith}
use lib.ListN.{length}
use lib.Seq.{length-take-le}
use Rattle.form.proofs.Says.{long_are}
use Rattle.form.proofs.form_ok.Goals as goal

pub slice_bounds-cells_ok-end : goal.slice_bounds-cells_ok-end
slice_bounds-cells_ok-end c =
    let m = c.args.m in
    let n = 36 * (m.house.now.nodes * m.house.now.rows) in
    let h : n ≤ length m.cells.now = grind (arith, long_are) in
    sym (length-take-le n m.cells.now h)
