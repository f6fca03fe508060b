-- The search for forty bytes: none of the messages passed has them.
use Rattle.std.proofs.Common.{sym, ◌∙◌, arith}
use Rattle.rules.specs.Tests.{eqs}
use Rattle.rules.specs.Lent.{window}
use Rattle.rules.proofs.Scan.{below_here}
use Rattle.board.specs.Asked.{standing}
use Rattle.board.proofs.stands.Goals as goal

pub returns-then-same_at : goal.returns-then-same_at
unfolding standing
returns-then-same_at c =
    let a = c.args in
    sym (below_here (λ k. eqs (window 40 k a.board.now) a.b.now) c.loop-i.i a.n (omega arith) (sym c.same_at.ensures ∙ c.if-same_at.true))
