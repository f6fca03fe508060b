-- Each set is below the first number that names a node too many.
use Prim.Native.Nat.{ℕ, ◌^◌}
use native.Mathlib.Omega.{arith}
use borrow.Author.Rules.{rules}
use borrow.Author.Tests.{tests}
use lib.Dec.{ltb}
use Rattle.std.proofs.lemmas.Iterator.{YieldsList-from_slice}
use Rattle.tables.proofs.Chains.{all_says}
use Rattle.tables.proofs.Sets.{power_fits}
use Rattle.tables.proofs.sets_present.Goals as goal

pub returns : goal.returns
returns c =
    let e = power_fits c.args.nodes 32 (omega arith) in
    all_says (λ (q : ℕ). ltb q (2 ^ c.args.nodes)) _ _ _ c.all.ensures.ran (YieldsList-from_slice c.args.sets.now cc) (λ x b q k. search (rules, tests, e))
