-- The kind that a message means: its first byte from 1 to 4, and 5 for any other.
use Rattle.std.proofs.Common.{sym, ◌∙◌, arith}
use Rattle.board.proofs.Means.{kind_in, kind_out}
use Rattle.board.proofs.kind_of.Goals as goal

pub returns-in-1 : goal.returns-in-1
returns-in-1 c = sym (kind_in c.args.m (omega (arith, c.in-1.is)) (omega (arith, c.in-1.is)) ∙ c.in-1.is)

pub returns-in-2 : goal.returns-in-2
returns-in-2 c = sym (kind_in c.args.m (omega (arith, c.in-2.is)) (omega (arith, c.in-2.is)) ∙ c.in-2.is)

pub returns-in-3 : goal.returns-in-3
returns-in-3 c = sym (kind_in c.args.m (omega (arith, c.in-3.is)) (omega (arith, c.in-3.is)) ∙ c.in-3.is)

pub returns-in-4 : goal.returns-in-4
returns-in-4 c = sym (kind_in c.args.m (omega (arith, c.in-4.is)) (omega (arith, c.in-4.is)) ∙ c.in-4.is)

pub returns-in_default : goal.returns-in_default
returns-in_default c = sym (kind_out c.args.m (λ e. omega arith) (λ e. omega arith) (λ e. omega arith) (λ e. omega arith))
