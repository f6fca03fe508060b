-- The scans on intake differ, and the marks are below the first number that names a node too many.
use native.Mathlib.Omega.{arith}
use Rattle.rules.proofs.Each.{intake_front}
use Rattle.tables.proofs.Counted.{counted, house_are}
use Rattle.tables.proofs.Sets.{power_fits}
use Rattle.tables.proofs.house_ok.Goals as goal

pub returns-then-scans_differ : goal.returns-then-scans_differ
returns-then-scans_differ c =
    let h = c.args.h.now in
    let k = counted h c.requires in
    let e = intake_front h.stations h.serials h.tubes (omega arith) in
    rw (power_fits h.nodes 16 (omega arith)) (grind (arith, house_are, e))
