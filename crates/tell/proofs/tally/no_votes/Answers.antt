-- Set by set: the sum so far is 0 exactly when none of those added has a node.
use Prim.Native.Nat.{ℕ, ◌+◌}
use mathlib.Core.Path.{ap}
use native.Mathlib.Omega.{arith}
use lib.ListN.{get_or}
use Rattle.tell.proofs.Unvoted.{none_more}
use Rattle.tell.proofs.tally.no_votes.Goals as goal

pub loop-b-preserved : goal.loop-b-preserved
loop-b-preserved c =
    let a = c.args in
    let l = c.loop-b in
    record { most = omega (arith, c.from-sum.ensures); none = none_more (λ i. get_or a.votes.now (a.at + i) 0) l.sum l.b _ l.invariant.none (ap (λ (x : ℕ). l.sum + x) c.from-sum.ensures) }
