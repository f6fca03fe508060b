-- Reading the pairs: each turn copies one byte more.
use mathlib.Core.Path.{◌≡◌, sym, ◌∙◌}
use native.Mathlib.Omega.{arith}
use lib.ListN.{length-set}
use lib.Seq.{take_all}
use Rattle.rules.proofs.Area.{copy_more}
use Rattle.frame.proofs.reading.pairs.Goals as goal

pub loop-i-preserved : goal.loop-i-preserved
loop-i-preserved c =
    let l = c.loop-i in
    let a = c.args in
    (simp length-set l.invariant.0, rw c.from.ensures (copy_more l.out a.s.now 33 l.i (omega arith) (omega arith) l.invariant.1))

pub returns : goal.returns
returns c =
    let l = c.loop-i in
    let e : l.i ≡ 32 = omega arith in
    sym (take_all 32 l.out (omega arith)) ∙ rw e at l.invariant.1
