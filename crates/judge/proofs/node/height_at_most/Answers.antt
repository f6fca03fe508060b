-- None, stored as 255, has height 0; a ballot has the height after it.
use mathlib.Core.Path.{sym}
use native.Mathlib.Omega.{arith}
use borrow.Author.Tests.{eq-eqb, ne_eqb, le-leb}
use Rattle.judge.proofs.node.height_at_most.Goals as goal

pub returns-then-stored-eq-NONE : goal.returns-then-stored-eq-NONE
returns-then-stored-eq-NONE c = rw (eq-eqb c.args.stored 255 c.if-stored-eq-NONE.true) (sym (le-leb 0 c.args.most (omega arith)))

pub returns : goal.returns
returns c = rw (ne_eqb c.args.stored 255 c.if-stored-eq-NONE.false)
