-- Each number is a byte.
use borrow.Author.Rules.{rules}
use borrow.Author.Tests.{tests}
use Rattle.std.proofs.lemmas.Iterator.{YieldsList-from_slice}
use Rattle.tables.proofs.Chains.{all_says}
use Rattle.foreign.specs.Bytes.{byte}
use Rattle.foreign.proofs.promise.all_bytes.Goals as goal

pub returns : goal.returns
returns c = all_says byte _ _ _ c.all.ensures.ran (YieldsList-from_slice c.args.pairs cc) (λ x b q k. search (rules, tests))
