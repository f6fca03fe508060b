-- Part (ii): no c passed over serves.
use Rattle.std.proofs.Common.{sym, ◌∙◌, arith}
use Rattle.rules.proofs.Scan.{below_here}
use Rattle.safe.specs.Safe.{safe_at}
use Rattle.safe.proofs.safe_below.Goals as goal

pub returns-then-safe_at : goal.returns-then-safe_at
returns-then-safe_at c =
    let a = c.args in
    sym (below_here (safe_at a.h.now a.t) c.loop-c.c a.ballot.0 (omega arith) (sym c.safe_at.ensures ∙ c.if-safe_at.true))
