-- Each pair passes: none of those passed over fails.
use Rattle.std.proofs.Common.{◌≡◌, false, not}
use Rattle.rules.specs.Tests.{any_below}
use Rattle.rules.proofs.Scan.{pair_at}
use Rattle.pairs.specs.Pairs.{passes}
use Rattle.pairs.proofs.each.Given as goal

abbrev pub invariant-loop-i : goal.invariant-loop-i
invariant-loop-i l = any_below (λ k. not (passes l.ask (pair_at l.pairs k))) l.i ≡ false
