-- Bit by bit: after k messages the bits are those of the 1b messages among them.
use Rattle.form.specs.Form.{Promises}
use Rattle.form.proofs.promises.Given as goal

abbrev pub invariant-loop-k : goal.invariant-loop-k
invariant-loop-k l = Promises l.board l.k l.out
