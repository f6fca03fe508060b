-- One heard message more: a 1b of this row and ballot adds its node where it passes, any other changes nothing.
use Rattle.std.proofs.Common.{sym, ◌∙◌}
use Rattle.safe.proofs.Tellers.{told_same, told_new}
use Rattle.safe.proofs.told_more.Goals as goal

pub returns-then-not-is_promise : goal.returns-then-not-is_promise
returns-then-not-is_promise c l g =
    let a = c.args in
    told_same a.t a.m a.bid.row.0 a.bid.ballot.0 a.bid.tube.0 l g (sym c.is_promise.ensures ∙ c.if-not-is_promise.true)

pub returns : goal.returns
returns c l g =
    let a = c.args in
    told_new a.t a.m a.bid.row.0 a.bid.ballot.0 a.bid.tube.0 l g _ (sym c.is_promise.ensures ∙ c.if-not-is_promise.false)
    c.with_teller.ensures c.grown.ensures c.grown-2.ensures
