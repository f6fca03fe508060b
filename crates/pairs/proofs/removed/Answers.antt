-- A tube removed: the pairs that stay are those passed over without it, packed from the front.
use Rattle.std.proofs.Common.{rules, ◌≡◌, arith}
use Rattle.rules.specs.Lent.{pairs_of}
use Rattle.rules.specs.Steps.{without}
use Rattle.pairs.proofs.Arrays.{grow, stay, packed}
use Rattle.pairs.proofs.removed.Goals as goal
use Rattle.pairs.proofs.removed.Goals.{then-t-tube, else-t-tube}

pub loop-i-preserved : goal.loop-i-preserved
loop-i-preserved c =
    let l = c.loop-i in
    let a = c.args in
    elim c.if-t-tube.branch [
      | then-t-tube w ↦
          let g = grow a.tube.0 a.pairs l.i l.n l.out w.if-t-tube.true (omega arith) l.invariant.count l.invariant.bytes in
          let j : w.from-j.result ≡ l.n = search rules in
          rw (w.out-is, w.n-is, j) record { few = omega arith; count = g.0; bytes = g.1 }
      | else-t-tube w ↦
          let g = stay a.tube.0 a.pairs l.i l.n l.out w.if-t-tube.false l.invariant.count l.invariant.bytes in
          rw (w.out-is, w.n-is) record { few = omega arith; count = g.0; bytes = g.1 }
    ]

pub returns : goal.returns
returns c =
    let l = c.loop-i in
    let a = c.args in
    let e : l.i ≡ a.count = omega arith in
    rw (← e) (packed (without a.tube.0 (pairs_of l.i a.pairs)) l.n l.out (omega arith) l.invariant.count l.invariant.bytes)
