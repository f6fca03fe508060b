-- The bytes are added up: the sum is 0 exactly when every byte is.
use Rattle.std.proofs.Common.{rules, ◌≡◌, sum, arith}
use Rattle.std.proofs.iter.runs.Made.{chains}
use Rattle.std.proofs.iter.runs.Sources.{sums}
use Rattle.std.proofs.lemmas.Grind.{common_steps}
use Rattle.pairs.proofs.no_pairs.Goals as goal

pub sum-requires-clause-fits : goal.sum-requires-clause-fits
sum-requires-clause-fits c = search (rules, sums)

pub returns : goal.returns
returns c =
    let e : c.sum.result ≡ sum c.args.pairs = search (rules, chains) in
    grind (arith, common_steps)
