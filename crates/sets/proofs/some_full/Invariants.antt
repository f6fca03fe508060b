-- The search for a full set: no set passed is full, and of the set at hand no node passed is lacking.
use Rattle.std.proofs.Common.{◌≡◌, true, false, get_or}
use Rattle.rules.specs.Tests.{any_below, all_in, bit}
use Rattle.sets.proofs.some_full.Given as goal

abbrev pub invariant-loop-a : goal.invariant-loop-a
invariant-loop-a l = all_in l.a l.q (bit l.have) ≡ true

abbrev pub invariant-sets : goal.invariant-sets
invariant-sets l = any_below (λ i. all_in l.nodes (get_or l.list i 0) (bit l.have)) l.q-index ≡ false
