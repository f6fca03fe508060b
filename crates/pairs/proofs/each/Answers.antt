-- Each pair passes: none of those passed over fails.
use Rattle.std.proofs.Common.{◌≡◌, not, ap, sym, ◌∙◌, arith}
use Rattle.rules.proofs.Scan.{pair_at, below_more, below_here}
use Rattle.pairs.specs.Pairs.{passes}
use Rattle.pairs.proofs.Arrays.{each_below}
use Rattle.pairs.proofs.each.Goals as goal

pub returns-then-not-pass : goal.returns-then-not-pass
returns-then-not-pass c =
    let a = c.args in
    let e = ap not (sym c.pass.ensures) ∙ (ap not c.if-not-pass.true) in
    sym (each_below (passes a.ask) a.pairs a.count ∙ ap not (below_here (λ k. not (passes a.ask (pair_at a.pairs k))) c.loop-i.i a.count (omega arith) e))

pub loop-i-preserved : goal.loop-i-preserved
loop-i-preserved c =
    let a = c.args in
    below_more (λ k. not (passes a.ask (pair_at a.pairs k))) c.loop-i.i c.loop-i.invariant (ap not (sym c.pass.ensures) ∙ (ap not c.if-not-pass.false))

pub returns : goal.returns
returns c =
    let a = c.args in
    let e : c.loop-i.i ≡ a.count = omega arith in
    sym (each_below (passes a.ask) a.pairs a.count ∙ ap not (rw e at c.loop-i.invariant))
