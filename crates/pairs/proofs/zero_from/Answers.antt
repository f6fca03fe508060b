-- No pairs, all zeros; else zeros to the end.
use Rattle.std.proofs.Common.{rules, tests, ◌≡◌, ◌-◌, eqb, take, drop, length, arith}
use Rattle.std.specs.List.{list_all}
use Rattle.std.proofs.lemmas.Grind.{common_steps}
use Rattle.std.proofs.lemmas.Iterator.{YieldsList-from_slice}
use Rattle.std.proofs.lemmas.Iterator.Search.{all_from_yields_List}
use Rattle.pairs.proofs.zero_from.Goals as goal

pub returns : goal.returns
returns c =
    let part = take (32 - c.args.at) (drop c.args.at c.args.pairs) in
    let e : c.all.result ≡ list_all (λ x. eqb x 0) part =
    all_from_yields_List (λ x. eqb x 0) _ _ c.all.result c.all.ensures.ran (YieldsList-from_slice part c.iter.ensures.rest) (λ x b q k. search (rules, tests)) in
    let len : length c.args.pairs ≡ 32 = search rules in
    grind (arith, common_steps)
