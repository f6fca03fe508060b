-- `held` meets its contract: the library's search finds a tube that stands in one of the rows.
use mathlib.Core.Path.{◌∙◌}
use native.Mathlib.Omega.{arith}
use Rattle.closing.proofs.Rows.{held_found}
use Rattle.closing.proofs.part.Closing.held.Goals as goal

pub returns : goal.returns
returns c =
    let a = c.args in
    c.contains.ensures.value ∙ held_found a.self.now.tubes a.tube a.n (omega arith)
