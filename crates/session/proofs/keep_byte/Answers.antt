-- A byte goes behind those held, while they are not 201.
use native.Mathlib.Omega.{arith}
use Rattle.session.proofs.Turns.{kept_none, kept_more}
use Rattle.session.proofs.keep_byte.Goals as goal

pub returns-then-held-ge-HELD : goal.returns-then-held-ge-HELD
returns-then-held-ge-HELD c = let a = c.args in kept_none a.line.now a.held a.b (omega arith) (omega arith)

pub returns : goal.returns
returns c = let a = c.args in rw c.from.ensures (kept_more a.line.now a.held a.b (omega arith) (omega arith))
