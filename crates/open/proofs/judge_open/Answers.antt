-- The tests in their order: 1, 5, and what the lists say.
use Rattle.std.proofs.Common.{true, false, refl, sym, ◌∙◌}
use Rattle.rules.specs.Lent.{memory}
use Rattle.rules.specs.Replies.{number_in}
use Rattle.open.specs.Room.{planned}
use Rattle.open.proofs.Judged.{judged}
use Rattle.open.proofs.judge_open.Goals as goal

pub returns-then-not-counts_in : goal.returns-then-not-counts_in
returns-then-not-counts_in c h =
    let a = c.args in
    judged (planned a.plan) (memory h a.board.now a.cells.now a.heard.now) false _ _ (sym c.counts_in.ensures ∙ c.if-not-counts_in.true) refl refl

pub returns-then-not-lengths_ok : goal.returns-then-not-lengths_ok
returns-then-not-lengths_ok c h =
    let a = c.args in
    judged (planned a.plan) (memory h a.board.now a.cells.now a.heard.now) true false _ (sym c.counts_in.ensures ∙ c.if-not-counts_in.false) (sym c.lengths_ok.ensures ∙ c.if-not-lengths_ok.true) refl

pub returns : goal.returns
returns c h =
    let a = c.args in
    judged (planned a.plan) (memory h a.board.now a.cells.now a.heard.now) true true (number_in c.test_lists.result) (sym c.counts_in.ensures ∙ c.if-not-counts_in.false)
    (sym c.lengths_ok.ensures ∙ c.if-not-lengths_ok.false) (sym c.test_lists.ensures)
