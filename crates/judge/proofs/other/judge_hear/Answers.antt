-- Hearing: an existing node, a number on the board, and a 1b there.
use Rattle.std.proofs.Common.{true, false, refl, sym, ap, ◌∙◌, arith}
use Rattle.rules.specs.Lent.{lent, read, is_1b_at}
use Rattle.judge.proofs.Past.{plain, hear_says}
use Rattle.judge.proofs.Says.{says_hear}
use Rattle.judge.proofs.other.judge_hear.Goals as goal

pub returns-in_default-clause-number : goal.returns-in_default-clause-number
returns-in_default-clause-number c = says_hear (lent c.args.m) c.args.node c.args.number false _ c.in_default.ensures refl

pub is_1b_at-requires : goal.is_1b_at-requires
is_1b_at-requires c =
    let s = c.in-Some.ensures in
    let p = plain (lent c.args.m) c.requires in
    record { n_bound = p.count; n_in_bounds = p.long; k_lt_n = omega (arith, s.1.1, (hear_says c.args.node c.args.number c.args.m.house.now.nodes c.args.m.house.now.count s.0).1) }

pub returns-then-not-is_1b_at-clause-number : goal.returns-then-not-is_1b_at-clause-number
returns-then-not-is_1b_at-clause-number c =
    let m = lent c.args.m in
    let s = c.in-Some.ensures in
    says_hear m c.args.node c.args.number true false s.0 (ap (is_1b_at (read m).board) (sym s.1.1) ∙ sym c.is_1b_at.ensures ∙ c.if-not-is_1b_at.true)

pub returns-clause-number : goal.returns-clause-number
returns-clause-number c =
    let m = lent c.args.m in
    let s = c.in-Some.ensures in
    says_hear m c.args.node c.args.number true true s.0 (ap (is_1b_at (read m).board) (sym s.1.1) ∙ sym c.is_1b_at.ensures ∙ c.if-not-is_1b_at.false)
