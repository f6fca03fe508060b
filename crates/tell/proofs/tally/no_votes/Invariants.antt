-- Set by set: the sum so far is 0 exactly when none of those added has a node.
use mathlib.Core.Path.{◌≡◌}
use Prim.Native.Nat.{◌+◌, ◌*◌, ◌≤◌}
use lib.Dec.{eqb}
use lib.ListN.{get_or}
use Rattle.rules.specs.Tests.{all_below}
use Rattle.tell.proofs.tally.no_votes.Given as goal

abbrev pub invariant-loop-b : goal.invariant-loop-b
invariant-loop-b l = record { most : l.sum ≤ 255 * l.b; none : eqb l.sum 0 ≡ all_below (λ i. eqb (get_or l.votes (l.at + i) 0) 0) l.b }
