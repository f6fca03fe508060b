-- Each scan is none of those before it.
use mathlib.Core.Path.{sym, ◌∙◌}
use borrow.Author.Rules.{rules}
use lib.ListN.{length}
use Rattle.tables.specs.Tables.{new_scan}
use Rattle.tables.proofs.Chains.{below_says}
use Rattle.tables.proofs.Counted.{intake_differs}
use Rattle.tables.proofs.scans_differ.Goals as goal

pub returns : goal.returns
returns c =
    let a = c.args in
    let n = length a.stations.now in
    below_says (new_scan a.stations.now a.serials.now) n _ _ _ c.all.ensures.ran (cc) (λ x b q k. search rules)
    ∙ sym (intake_differs a.stations.now a.serials.now n)
