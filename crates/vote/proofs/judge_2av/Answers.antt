-- A 2av: the first three tests, its 1c, every pair below the ballot, a tube known safe, a place for the pair and room for the message.
use Rattle.std.proofs.Common.{true, false, refl, ap, sym, ◌∙◌, ℕ, ltb}
use borrow.Author.Tests.{lt-ltb, le-ltb}
use Rattle.rules.specs.Lent.{lent}
use Rattle.judge.proofs.Past.{plain}
use Rattle.judge.proofs.Cells.{seated}
use Rattle.vote.proofs.Exits.{exit_2av, seat, askable, own_few, tests_2av}
use Rattle.vote.proofs.judge_2av.Goals as goal

pub returns-in_err-n-clause-number : goal.returns-in_err-n-clause-number
returns-in_err-n-clause-number c = exit_2av (lent c.args.m) _ _ _ _ _ _ c.in_err-n.ensures.number c.from_residual.ensures

pub has_1c-requires : goal.has_1c-requires
has_1c-requires c = plain (lent c.args.m) c.requires

pub returns-then-not-has_1c-clause-number : goal.returns-then-not-has_1c-clause-number
returns-then-not-has_1c-clause-number c = tests_2av (lent c.args.m) c.requires c.in_ok-n.ensures.number c.in_ok-n.ensures.narrow refl refl false _ _ _ _ (sym c.has_1c.ensures ∙ c.if-not-has_1c.true) refl refl refl refl

pub own_cell-c-requires-clause-seat : goal.own_cell-c-requires-clause-seat
own_cell-c-requires-clause-seat c = seated (lent c.args.m).house _ _ (seat (lent c.args.m) c.requires c.in_ok-n.ensures.number c.in_ok-n.ensures.narrow)

pub all_below-requires : goal.all_below-requires
all_below-requires c = own_few (lent c.args.m) c.requires c.in_ok-n.ensures.number c.in_ok-n.ensures.narrow c.own_cell-c.ensures

pub returns-then-not-all_below-clause-number : goal.returns-then-not-all_below-clause-number
returns-then-not-all_below-clause-number c =
    tests_2av (lent c.args.m) c.requires c.in_ok-n.ensures.number c.in_ok-n.ensures.narrow c.own_cell-c.ensures refl true false _ _ _ (sym c.has_1c.ensures ∙ c.if-not-has_1c.false) (sym c.all_below.ensures ∙ c.if-not-all_below.true) refl refl refl

pub known_safe-requires : goal.known_safe-requires
known_safe-requires c = askable (lent c.args.m) c.requires c.in_ok-n.ensures.number c.in_ok-n.ensures.narrow

pub returns-then-not-known_safe-clause-number : goal.returns-then-not-known_safe-clause-number
returns-then-not-known_safe-clause-number c =
    tests_2av (lent c.args.m) c.requires c.in_ok-n.ensures.number c.in_ok-n.ensures.narrow c.own_cell-c.ensures refl true true false _ _ (sym c.has_1c.ensures ∙ c.if-not-has_1c.false) (sym c.all_below.ensures ∙ c.if-not-all_below.false)
    (sym (c.known_safe.ensures c.args.m.cells.now) ∙ c.if-not-known_safe.true) refl refl

pub others-requires : goal.others-requires
others-requires c = own_few (lent c.args.m) c.requires c.in_ok-n.ensures.number c.in_ok-n.ensures.narrow c.own_cell-c.ensures

pub returns-then-others-ge-PAIRS-clause-number : goal.returns-then-others-ge-PAIRS-clause-number
returns-then-others-ge-PAIRS-clause-number c =
    tests_2av (lent c.args.m) c.requires c.in_ok-n.ensures.number c.in_ok-n.ensures.narrow c.own_cell-c.ensures refl true true true false _ (sym c.has_1c.ensures ∙ c.if-not-has_1c.false) (sym c.all_below.ensures ∙ c.if-not-all_below.false)
    (sym (c.known_safe.ensures c.args.m.cells.now) ∙ c.if-not-known_safe.false) (ap (λ (l : ℕ). ltb l 16) (sym c.others.ensures) ∙ le-ltb _ 16 c.if-others-ge-PAIRS.true) refl

pub fits-requires-clause-plain : goal.fits-requires-clause-plain
fits-requires-clause-plain c = plain (lent c.args.m) c.requires

pub returns-then-not-fits-clause-number : goal.returns-then-not-fits-clause-number
returns-then-not-fits-clause-number c =
    tests_2av (lent c.args.m) c.requires c.in_ok-n.ensures.number c.in_ok-n.ensures.narrow c.own_cell-c.ensures c.bare.ensures.value true true true true false (sym c.has_1c.ensures ∙ c.if-not-has_1c.false) (sym c.all_below.ensures ∙ c.if-not-all_below.false)
    (sym (c.known_safe.ensures c.args.m.cells.now) ∙ c.if-not-known_safe.false) (ap (λ (l : ℕ). ltb l 16) (sym c.others.ensures) ∙ lt-ltb _ 16 c.if-others-ge-PAIRS.false) (sym c.fits.ensures ∙ c.if-not-fits.true)

pub returns-clause-number : goal.returns-clause-number
returns-clause-number c =
    tests_2av (lent c.args.m) c.requires c.in_ok-n.ensures.number c.in_ok-n.ensures.narrow c.own_cell-c.ensures c.bare.ensures.value true true true true true (sym c.has_1c.ensures ∙ c.if-not-has_1c.false) (sym c.all_below.ensures ∙ c.if-not-all_below.false)
    (sym (c.known_safe.ensures c.args.m.cells.now) ∙ c.if-not-known_safe.false) (ap (λ (l : ℕ). ltb l 16) (sym c.others.ensures) ∙ lt-ltb _ 16 c.if-others-ge-PAIRS.false) (sym c.fits.ensures ∙ c.if-not-fits.false)
