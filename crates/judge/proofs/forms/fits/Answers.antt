-- A message fits where it is found, or else by the count.
use mathlib.Core.Path.{sym, ◌∙◌}
use Rattle.judge.proofs.forms.fits.Goals as goal

pub returns-then-on_board : goal.returns-then-on_board
returns-then-on_board c = rw (sym c.on_board.ensures ∙ c.if-on_board.true)

pub returns : goal.returns
returns c = rw (sym c.on_board.ensures ∙ c.if-on_board.false)
