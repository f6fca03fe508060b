-- Each set shares enough with all of them.
use Prim.Native.Nat.{ℕ}
use borrow.Author.Rules.{rules}
use Rattle.std.proofs.lemmas.Iterator.{YieldsList-from_slice}
use Rattle.rules.specs.Tests.{all}
use Rattle.tables.specs.Tables.{share}
use Rattle.tables.proofs.Chains.{all_says}
use Rattle.tables.proofs.all_share.Goals as goal

pub returns : goal.returns
returns c =
    let a = c.args in
    let l = a.sets.now in
    all_says (λ (p : ℕ). all (share a.nodes a.faulty p) l) _ _ _ c.all.ensures.ran (YieldsList-from_slice l cc) (λ x b q k. search rules)
