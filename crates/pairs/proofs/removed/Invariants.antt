-- A tube removed: the pairs that stay are those passed over without it, packed from the front.
use Rattle.std.proofs.Common.{◌≡◌, ◌≤◌, length}
use Rattle.rules.specs.Lent.{pairs_of, pair_bytes}
use Rattle.rules.specs.Steps.{without}
use Rattle.pairs.proofs.removed.Given as goal

abbrev pub invariant-loop-i : goal.invariant-loop-i
invariant-loop-i l = record {
  few : l.n ≤ l.i;
  count : l.n ≡ length (without l.tube.0 (pairs_of l.i l.pairs));
  bytes : l.out ≡ pair_bytes (without l.tube.0 (pairs_of l.i l.pairs));
}
