-- Ascending: the pairs passed over do.
use Rattle.std.proofs.Common.{◌≡◌, true}
use Rattle.rules.specs.Lent.{pairs_of, ascend}
use Rattle.pairs.proofs.ascending.Given as goal

abbrev pub invariant-loop-i : goal.invariant-loop-i
invariant-loop-i l = ascend (pairs_of l.i l.pairs) ≡ true
