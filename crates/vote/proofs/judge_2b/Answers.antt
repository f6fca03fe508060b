-- A 2b: the first three tests, a quorum that relayed the tube, and room for the message.
use Rattle.std.proofs.Common.{true, false, refl, sym, ◌∙◌, arith}
use Rattle.rules.specs.Lent.{lent}
use Rattle.judge.proofs.Past.{plain}
use Rattle.vote.proofs.Exits.{exit_2b, askable, tests_2b}
use Rattle.vote.proofs.judge_2b.Goals as goal

pub returns-in_err-n-clause-number : goal.returns-in_err-n-clause-number
returns-in_err-n-clause-number c = exit_2b (lent c.args.m) _ _ _ _ _ _ c.in_err-n.ensures.number c.from_residual.ensures

pub covered-requires : goal.covered-requires
covered-requires c =
    let a = askable (lent c.args.m) c.requires c.in_ok-n.ensures.number c.in_ok-n.ensures.narrow in
    record { nodes_bound = (a.nodes, a.listed); count_bound = a.count; count_in_bounds = a.board; le_kind = omega arith }

pub returns-then-not-covered-clause-number : goal.returns-then-not-covered-clause-number
returns-then-not-covered-clause-number c = tests_2b (lent c.args.m) c.requires c.in_ok-n.ensures.number c.in_ok-n.ensures.narrow refl false _ (sym c.covered.ensures ∙ c.if-not-covered.true) refl

pub fits-requires-clause-plain : goal.fits-requires-clause-plain
fits-requires-clause-plain c = plain (lent c.args.m) c.requires

pub returns-then-not-fits-clause-number : goal.returns-then-not-fits-clause-number
returns-then-not-fits-clause-number c =
    tests_2b (lent c.args.m) c.requires c.in_ok-n.ensures.number c.in_ok-n.ensures.narrow c.bare.ensures.value true false (sym c.covered.ensures ∙ c.if-not-covered.false) (sym c.fits.ensures ∙ c.if-not-fits.true)

pub returns-clause-number : goal.returns-clause-number
returns-clause-number c =
    tests_2b (lent c.args.m) c.requires c.in_ok-n.ensures.number c.in_ok-n.ensures.narrow c.bare.ensures.value true true (sym c.covered.ensures ∙ c.if-not-covered.false) (sym c.fits.ensures ∙ c.if-not-fits.false)
