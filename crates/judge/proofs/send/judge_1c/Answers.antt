-- A 1c: row, ballot and tube within limits, the tube on intake, and room for it.
use Rattle.std.proofs.Common.{true, false, refl, sym, ◌∙◌}
use Rattle.rules.specs.Lent.{lent}
use Rattle.judge.proofs.Past.{plain, offer_fits}
use Rattle.judge.proofs.Says.{says_1c}
use Rattle.judge.proofs.send.judge_1c.Goals as goal

pub returns-in_default-clause-number : goal.returns-in_default-clause-number
returns-in_default-clause-number c = says_1c (lent c.args.m) c.args.row c.args.ballot c.args.tube false _ _ c.in_default.ensures refl refl

pub returns-then-not-on_intake-clause-number : goal.returns-then-not-on_intake-clause-number
returns-then-not-on_intake-clause-number c =
    says_1c (lent c.args.m) c.args.row c.args.ballot c.args.tube true false _ c.in-Some.ensures.0 (sym c.on_intake.ensures ∙ c.if-not-on_intake.true) refl

pub fits-requires-clause-plain : goal.fits-requires-clause-plain
fits-requires-clause-plain c = plain (lent c.args.m) c.requires

pub returns-then-not-fits-clause-number : goal.returns-then-not-fits-clause-number
returns-then-not-fits-clause-number c =
    let m = lent c.args.m in
    let e = c.in-Some.ensures in
    says_1c m c.args.row c.args.ballot c.args.tube true true false e.0 (sym c.on_intake.ensures ∙ c.if-not-on_intake.false)
    (sym (offer_fits m _ _ _ _ e.1 c.offer.ensures.value c.fits.ensures) ∙ c.if-not-fits.true)

pub returns-clause-number : goal.returns-clause-number
returns-clause-number c =
    let m = lent c.args.m in
    let e = c.in-Some.ensures in
    says_1c m c.args.row c.args.ballot c.args.tube true true true e.0 (sym c.on_intake.ensures ∙ c.if-not-on_intake.false)
    (sym (offer_fits m _ _ _ _ e.1 c.offer.ensures.value c.fits.ensures) ∙ c.if-not-fits.false)
