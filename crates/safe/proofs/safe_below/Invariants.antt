-- Part (ii): no c passed over serves.
use Rattle.std.proofs.Common.{◌≡◌, false}
use Rattle.rules.specs.Tests.{any_below}
use Rattle.safe.specs.Safe.{safe_at}
use Rattle.safe.proofs.safe_below.Given as goal

abbrev pub invariant-loop-c : goal.invariant-loop-c
invariant-loop-c l = any_below (safe_at l.h l.t) l.c ≡ false
