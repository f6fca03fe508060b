-- One message of the board more: it counts if the node has heard it.
use Rattle.std.proofs.Common.{Bool, List, [], ◌∷◌, ◌++◌, ap, sym, subst, ◌∙◌}
use Rattle.rules.specs.Tests.{pick}
use Rattle.rules.specs.Words.{Msg}
use Rattle.rules.specs.Lent.{meaning, msg_at}
use Rattle.rules.specs.declared.Message.{Message}
use Rattle.safe.specs.Safe.{Tells}
use Rattle.safe.proofs.heard_more.Goals as goal

pub returns : goal.returns
returns c l g =
    let a = c.args in
    let e = sym c.heard_at.ensures ∙ c.if-not-heard_at.false in
    subst (λ (z : List Msg). Tells c.told_more.result a.bid.row.0 a.bid.ballot.0 a.bid.tube.0 z)
    (ap (λ (m : Message). l ++ (meaning m ∷ [])) c.msg_at.ensures ∙ sym (ap (λ (b : Bool). l ++ pick b (meaning (msg_at a.board.now a.k) ∷ []) []) e))
    (c.told_more.ensures l g)
