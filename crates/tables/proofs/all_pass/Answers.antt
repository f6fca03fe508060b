-- Each set passes.
use borrow.Author.Rules.{rules}
use Rattle.std.proofs.lemmas.Iterator.{YieldsList-from_slice}
use Rattle.tables.specs.Tables.{passes}
use Rattle.tables.proofs.Chains.{all_says}
use Rattle.tables.proofs.all_pass.Goals as goal

pub returns : goal.returns
returns c =
    let a = c.args in
    all_says (passes a.nodes a.faulty a.asked) _ _ _ c.all.ensures.ran (YieldsList-from_slice a.sets.now cc) (λ x b q k. search rules)
