-- The next chosen tube: none of the tubes passed is chosen.
use mathlib.Core.Path.{◌≡◌}
use mathlib.Core.Bool.{false}
use Prim.Native.Nat.{ℕ, ◌≤◌, ◌<◌}
use Rattle.tell.specs.Chosen.{carried}
use Rattle.tell.proofs.tally.Quorums.next_chosen.Given as goal

abbrev pub invariant-loop-v : goal.invariant-loop-v
invariant-loop-v l = (w : ℕ) → l.start ≤ w → w < l.v → carried l.self.nodes l.self.list.now l.votes w ≡ false
