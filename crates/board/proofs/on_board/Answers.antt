-- Whether a message is on the board: its forty bytes are written out and looked for.
use mathlib.Core.Path.{refl, ◌∙◌}
use mathlib.Core.List.{[]}
use Rattle.rules.specs.Tests.{fit}
use Rattle.board.proofs.Bytes.{asked}
use Rattle.board.proofs.on_board.Goals as goal

pub returns : goal.returns
returns c =
    let a = c.args in
    c.stands.ensures ∙ asked a.board.now (fit 40 []) _ a.n a.m c.requires.plain c.requires.own refl c.put_msg.ensures
