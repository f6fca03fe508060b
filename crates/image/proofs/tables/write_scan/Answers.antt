-- Writing a scan: the serial behind the station.
use mathlib.Core.List.{[], ◌∷◌}
use Prim.Native.Nat.{◌+◌}
use native.Mathlib.Omega.{arith}
use Rattle.image.specs.Image.{four}
use Rattle.image.proofs.Writing.{then}
use Rattle.image.proofs.tables.write_scan.Goals as goal

pub returns : goal.returns
returns c =
    let a = c.args in
    then a.out.now (a.station ∷ []) (four a.serial) a.at (a.at + 1) c.write_u8.ensures c.write_u32.ensures (omega arith) (omega arith)
