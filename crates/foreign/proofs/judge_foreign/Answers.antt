-- A foreign post: its fields within limits, its tubes on intake, and room for it.
use Rattle.std.proofs.Common.{true, false, refl, sym, ◌∙◌}
use Rattle.rules.specs.Lent.{lent}
use Rattle.judge.proofs.Past.{plain, fits_means}
use Rattle.step.specs.Given.{post_of}
use Rattle.foreign.proofs.Posts.{says_foreign, small, own, few, tubes_means}
use Rattle.foreign.proofs.judge_foreign.Goals as goal

pub returns-in_default : goal.returns-in_default
returns-in_default c = says_foreign (lent c.args.m) (post_of c.args.post c.args.pairs) false _ _ c.in_default.ensures refl refl

pub tubes_scanned-requires-clause-own : goal.tubes_scanned-requires-clause-own
tubes_scanned-requires-clause-own c = own (lent c.args.m) (post_of c.args.post c.args.pairs) c.in-Some.ensures

pub tubes_scanned-requires-clause-count : goal.tubes_scanned-requires-clause-count
tubes_scanned-requires-clause-count c = few (lent c.args.m) (post_of c.args.post c.args.pairs) c.in-Some.ensures

pub returns-then-not-tubes_scanned : goal.returns-then-not-tubes_scanned
returns-then-not-tubes_scanned c =
    let m = lent c.args.m in
    let p = post_of c.args.post c.args.pairs in
    let e = c.in-Some.ensures in
    says_foreign m p true false _ e.0 (tubes_means m p e c.tubes_scanned.ensures ∙ c.if-not-tubes_scanned.true) refl

pub fits-requires-clause-plain : goal.fits-requires-clause-plain
fits-requires-clause-plain c = plain (lent c.args.m) c.requires

pub fits-requires-clause-own : goal.fits-requires-clause-own
fits-requires-clause-own c = own (lent c.args.m) (post_of c.args.post c.args.pairs) c.in-Some.ensures

pub returns-then-not-fits : goal.returns-then-not-fits
returns-then-not-fits c =
    let m = lent c.args.m in
    let p = post_of c.args.post c.args.pairs in
    let e = c.in-Some.ensures in
    says_foreign m p true true false e.0 (tubes_means m p e c.tubes_scanned.ensures ∙ c.if-not-tubes_scanned.false)
    (sym (fits_means m _ _ (small m p e) e.1 c.fits.ensures) ∙ c.if-not-fits.true)

pub returns : goal.returns
returns c =
    let m = lent c.args.m in
    let p = post_of c.args.post c.args.pairs in
    let e = c.in-Some.ensures in
    says_foreign m p true true true e.0 (tubes_means m p e c.tubes_scanned.ensures ∙ c.if-not-tubes_scanned.false)
    (sym (fits_means m _ _ (small m p e) e.1 c.fits.ensures) ∙ c.if-not-fits.false)
