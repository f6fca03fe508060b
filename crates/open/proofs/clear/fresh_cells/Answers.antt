-- Each turn fills one cell more.
use mathlib.Core.Path.{refl, ap, ◌∙◌}
use Prim.Native.Nat.{◌*◌}
use Rattle.rules.specs.Words.{fresh}
use Rattle.rules.specs.Lent.{patch, encode, stored_cell}
use Rattle.rules.specs.declared.Cell.{Cell}
use Rattle.open.proofs.Filled.{filled_more}
use Rattle.open.proofs.clear.fresh_cells.Goals as goal

pub loop-k-preserved : goal.loop-k-preserved
loop-k-preserved c =
    let l = c.loop-k in
    c.set_cell.ensures ∙ ap (λ (x : Cell). patch l.cells (36 * l.k) (encode x)) c.fresh-c.ensures
    ∙ filled_more c.args.cells.now l.cells (encode (stored_cell fresh)) l.k 36 refl l.invariant
