-- A form with pairs says what was read of them; the other goals are the lemmas' that `read_form` names.
use Rattle.std.proofs.Common.{take, rules}
use Rattle.lines.proofs.Forms.{form_pairs}
use Rattle.lines.proofs.trying.read_form.Goals as goal

pub returns-in_err-count : goal.returns-in_err-count
returns-in_err-count c =
    let a = c.args in
    let l = c.loop-x in
    let e = form_pairs a.form.now l.x-index c.loop-x-test.true a.s.now l.at (take l.got l.numbers) c.if-x-eq42.true _ c.read_pairs.ensures in
    rw (l.invariant.same, e, c.in_err-count.was) (search rules)

pub returns-then-x-eq42 : goal.returns-then-x-eq42
returns-then-x-eq42 c =
    let a = c.args in
    let l = c.loop-x in
    let e = form_pairs a.form.now l.x-index c.loop-x-test.true a.s.now l.at (take l.got l.numbers) c.if-x-eq42.true _ c.read_pairs.ensures in
    rw (l.invariant.same, e, c.in_ok-count.was, l.invariant.held)
