-- The search for forty bytes: none of the messages passed has them.
use Rattle.std.proofs.Common.{◌≡◌, false}
use Rattle.board.specs.Asked.{standing}
use Rattle.board.proofs.stands.Given as goal

abbrev pub invariant-loop-i : goal.invariant-loop-i
invariant-loop-i l = standing l.board l.i l.b ≡ false
