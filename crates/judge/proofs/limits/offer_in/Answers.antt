-- A 1c is within limits where its row, ballot and tube are.
use Rattle.std.proofs.Common.{rules}
use Rattle.rules.specs.Lent.{limits}
use Rattle.judge.proofs.limits.offer_in.Goals as goal

pub returns-then-not-has_row-ballot_in : goal.returns-then-not-has_row-ballot_in
unfolding limits
returns-then-not-has_row-ballot_in c = cc

pub returns : goal.returns
unfolding limits
returns c = (cc, search rules)
