-- The bytes do not stand among those before.
use mathlib.Core.Path.{ap, ◌∙◌}
use mathlib.Core.Bool.{not}
use Rattle.rules.specs.Tests.{eqs}
use Rattle.rules.specs.Lent.{window}
use Rattle.board.specs.Asked.{standing}
use Rattle.rules.proofs.Each.{each_not}
use Rattle.differ.proofs.message_new.Goals as goal

pub returns : goal.returns
unfolding standing
returns c =
    let a = c.args in
    ap not (rw c.bytes_at.ensures.bytes at c.stands.ensures) ∙ each_not (λ j. eqs (window 40 j a.board.now) (window 40 a.k a.board.now)) a.k
