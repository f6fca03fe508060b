-- A scan: a station's number, and a tube for it.
use Rattle.std.proofs.Common.{true, false, refl, ap, sym, ◌∙◌, ℕ}
use borrow.Author.Tests.{le-leb, lt-leb}
use lib.Dec.{leb}
use Rattle.rules.specs.Lent.{lent}
use Rattle.judge.proofs.Past.{bounds}
use Rattle.judge.proofs.Says.{says_scan}
use Rattle.judge.proofs.other.judge_scan.Goals as goal

pub returns-then-not-scan_in-clause-number : goal.returns-then-not-scan_in-clause-number
returns-then-not-scan_in-clause-number c =
    let m = lent c.args.m in
    says_scan m c.args.station c.args.serial false _ (bounds m c.requires).tubes (sym c.scan_in.ensures ∙ c.if-not-scan_in.true) refl

pub tube_of-t-requires : goal.tube_of-t-requires
tube_of-t-requires c = (bounds (lent c.args.m) c.requires).tubes

pub returns-then-t-clause-number : goal.returns-then-t-clause-number
returns-then-t-clause-number c =
    let m = lent c.args.m in
    says_scan m c.args.station c.args.serial true false (bounds m c.requires).tubes (sym c.scan_in.ensures ∙ c.if-not-scan_in.false)
    (ap (λ (t : ℕ). leb t 64) (sym c.tube_of-t.ensures) ∙ lt-leb _ 64 c.if-t.true)

pub returns-clause-number : goal.returns-clause-number
returns-clause-number c =
    let m = lent c.args.m in
    says_scan m c.args.station c.args.serial true true (bounds m c.requires).tubes (sym c.scan_in.ensures ∙ c.if-not-scan_in.false)
    (ap (λ (t : ℕ). leb t 64) (sym c.tube_of-t.ensures) ∙ le-leb _ 64 c.if-t.false)
