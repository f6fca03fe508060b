-- A node and a message's number.
use Rattle.std.proofs.Common.{rules}
use Rattle.judge.proofs.limits.hear_in.Goals as goal

pub returns : goal.returns
returns c = (cc, search rules)
