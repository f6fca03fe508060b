-- A 1b may be asked where its row, ballot and node are within limits.
use Rattle.std.proofs.Common.{rules}
use Rattle.judge.proofs.limits.promise_in.Goals as goal

pub returns-then-not-has_row-ballot_in : goal.returns-then-not-has_row-ballot_in
returns-then-not-has_row-ballot_in c = cc

pub returns : goal.returns
returns c = (cc, search rules)
