-- Whether a 1c is on the board: it is made and looked for.
use mathlib.Core.Path.{ap, ◌∙◌}
use Rattle.rules.specs.Words.{Msg, m1c}
use Rattle.rules.specs.Lent.{stored, board_of}
use Rattle.rules.specs.Steps.{has}
use Rattle.board.proofs.Bytes.{means_stored}
use Rattle.board.proofs.has_1c.Goals as goal

pub on_board-requires : goal.on_board-requires
unfolding stored
on_board-requires c =
    let a = c.args in
    record { plain = c.requires; own = c.offer.ensures.own }

pub returns : goal.returns
unfolding stored
returns c =
    let a = c.args in
    c.on_board.ensures ∙ ap (λ (x : Msg). has x (board_of a.board.now a.n)) (means_stored (m1c a.bid.row.0 a.bid.ballot.0 a.bid.tube.0) _ tt c.offer.ensures.value)
