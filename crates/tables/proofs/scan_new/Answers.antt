-- No earlier scan is the same, one by one.
use mathlib.Core.Path.{◌≡◌, ap, sym}
use mathlib.Core.Bool.{not}
use native.Mathlib.Omega.{arith}
use Rattle.rules.proofs.Each.{each_more, each_stop}
use Rattle.tables.proofs.scan_new.Invariants.{other}
use Rattle.tables.proofs.scan_new.Goals as goal

pub returns-then-stations-j : goal.returns-then-stations-j
returns-then-stations-j c =
    let a = c.args in
    sym (each_stop (other a.stations.now a.serials.now a.k) c.loop-j.j a.k (omega arith) (ap not c.if-stations-j.true))

pub loop-j-preserved : goal.loop-j-preserved
loop-j-preserved c =
    let a = c.args in
    each_more (other a.stations.now a.serials.now a.k) c.loop-j.j c.loop-j.invariant (ap not c.if-stations-j.false)

pub returns : goal.returns
returns c =
    let a = c.args in
    let e : c.loop-j.j ≡ a.k = omega arith in
    sym (rw e at c.loop-j.invariant)
