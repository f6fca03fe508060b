-- A node's cell is one of the room's.
use Rattle.std.proofs.Common.{arith}
use Rattle.rules.specs.Lent.{lent}
use Rattle.judge.proofs.Past.{whole_sized, bounds}
use Rattle.judge.proofs.Cells.{at_seat, place-below, cell-long}
use Rattle.judge.proofs.node.own_cell.Goals as goal

pub cell_at-requires : goal.cell_at-requires
cell_at-requires c =
    let m = lent c.args.m in
    let w = c.requires in
    let p = at_seat m.house c.args.row.0 c.args.node.0 w.seat in
    record {
      k_bound = omega (arith, place-below m c.args.row.0 c.args.node.0 p (bounds m w.whole), c.place.ensures);
      k_in_bounds = omega (arith, cell-long m c.args.row.0 c.args.node.0 p (whole_sized m w.whole), c.place.ensures);
    }
