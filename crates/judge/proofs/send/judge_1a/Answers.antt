-- A 1a: row and ballot within limits, and room for it.
use Rattle.std.proofs.Common.{true, false, refl, sym, ◌∙◌}
use Rattle.rules.specs.Lent.{lent}
use Rattle.judge.proofs.Past.{plain, lead_fits}
use Rattle.judge.proofs.Says.{says_1a}
use Rattle.judge.proofs.send.judge_1a.Goals as goal

pub returns-in_default-clause-number : goal.returns-in_default-clause-number
returns-in_default-clause-number c = says_1a (lent c.args.m) c.args.row c.args.ballot false _ c.in_default.ensures refl

pub fits-requires-clause-plain : goal.fits-requires-clause-plain
fits-requires-clause-plain c = plain (lent c.args.m) c.requires

pub returns-then-not-fits-clause-number : goal.returns-then-not-fits-clause-number
returns-then-not-fits-clause-number c =
    let m = lent c.args.m in
    let e = c.in-Some.ensures in
    says_1a m c.args.row c.args.ballot true false e.0 (sym (lead_fits m _ _ _ e.1 c.lead.ensures.value c.fits.ensures) ∙ c.if-not-fits.true)

pub returns-clause-number : goal.returns-clause-number
returns-clause-number c =
    let m = lent c.args.m in
    let e = c.in-Some.ensures in
    says_1a m c.args.row c.args.ballot true true e.0 (sym (lead_fits m _ _ _ e.1 c.lead.ensures.value c.fits.ensures) ∙ c.if-not-fits.false)
