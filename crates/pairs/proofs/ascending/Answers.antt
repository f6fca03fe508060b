-- Ascending: the pairs passed over do.
use Rattle.std.proofs.Common.{sym, ◌∙◌, add-one, arith}
use Rattle.pairs.proofs.Arrays.{ascend_more, ascend_stop, ascend_few}
use Rattle.pairs.proofs.ascending.Goals as goal

pub returns-then-not-comes_before : goal.returns-then-not-comes_before
returns-then-not-comes_before c =
    let a = c.args in
    let f = sym c.comes_before.ensures ∙ c.if-not-comes_before.true in
    sym (ascend_stop a.pairs a.count c.loop-i.i (omega arith) (omega arith) f)

pub loop-i-preserved : goal.loop-i-preserved
loop-i-preserved c =
    let e = c.loop-i.invariant in
    let f = sym c.comes_before.ensures ∙ c.if-not-comes_before.false in
    rw (add-one, ascend_more c.args.pairs c.loop-i.i (omega arith), e) f

pub returns : goal.returns
returns c = sym (ascend_few c.args.pairs c.args.count c.loop-i.i (omega arith) (λ h. omega arith) c.loop-i.invariant)
