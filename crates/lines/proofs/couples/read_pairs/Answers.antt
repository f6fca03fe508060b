-- `read_pairs` meets its contract: each turn reads one part of the text, and the pairs of the rest follow those in hand.
use Rattle.std.proofs.Common.{sym, ◌∙◌, eqb, arith, rules, tests}
use Rattle.std.proofs.lemmas.Grind.{common_steps}
use Rattle.std.proofs.lemmas.Iterator.Splits.{YieldsList-from_slice_split}
use Rattle.std.proofs.lemmas.Iterator.Consumers.{YieldsList-at, YieldsList-turn, YieldsList-end}
use Rattle.lines.proofs.Listing.{whole, bad_part, good_part}
use Rattle.lines.proofs.couples.read_pairs.Goals as goal

pub returns-in_err-tube : goal.returns-in_err-tube
returns-in_err-tube c =
    let e = c.split-part-items.ensures in
    let t = YieldsList-turn (YieldsList-at c.into_iter-part-iterator.ensures.into_iter_gives (YieldsList-from_slice_split _ (λ b. eqb b 44) c.args.s.now e.rest e.done e.closure (λ x r q k. search (rules, tests)))) c.loop-part.yielded _ c.loop-part.yielded_by _ _ c.in-Some.part c.in-Some.is c.next.ensures.steps in
    let b = bad_part c.args.s.now c.loop-part.invariant.0 _ c.loop-part.invariant.1 t (sym c.read_pair.ensures ∙ c.in_err-tube.was) in
    search rules

pub loop-part-preserved : goal.loop-part-preserved
loop-part-preserved c =
    let e = c.split-part-items.ensures in
    let t = YieldsList-turn (YieldsList-at c.into_iter-part-iterator.ensures.into_iter_gives (YieldsList-from_slice_split _ (λ b. eqb b 44) c.args.s.now e.rest e.done e.closure (λ x r q k. search (rules, tests)))) c.loop-part.yielded _ c.loop-part.yielded_by _ _ c.in-Some.part c.in-Some.is c.next.ensures.steps in (
      good_part c.args.s.now c.loop-part.invariant.0 _ c.loop-part.invariant.1 t c.in_ok-tube.tube c.in_ok-tube.ballot (sym c.read_pair.ensures ∙ c.in_ok-tube.was) _ c.keep_pair.ensures,
      grind (arith, common_steps),
    )

pub returns : goal.returns
returns c =
    let e = c.split-part-items.ensures in
    let t = YieldsList-end (YieldsList-at c.into_iter-part-iterator.ensures.into_iter_gives (YieldsList-from_slice_split _ (λ b. eqb b 44) c.args.s.now e.rest e.done e.closure (λ x r q k. search (rules, tests)))) c.loop-part.yielded _ c.loop-part.yielded_by _ _ c.in-None.is c.next.ensures.steps in
    sym (whole c.args.s.now c.loop-part.invariant.0 (omega (arith, t.1)))
