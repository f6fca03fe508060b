-- The search for a full set: no set passed is full, and of the set at hand no node passed is lacking.
use Rattle.std.proofs.Common.{◌≡◌, not, ◌&&◌, get_or, length, ap, sym, ◌∙◌, arith}
use Rattle.rules.specs.Tests.{all_in, bit}
use Rattle.rules.proofs.Scan.{below_more, below_here, in_none}
use Rattle.sets.proofs.Full.{any_items}
use Rattle.sets.proofs.some_full.Goals as goal

pub sets-preserved : goal.sets-preserved
sets-preserved c =
    let x = c.args in
    let q = get_or x.list.now c.sets.q-index 0 in
    let h = below_here (λ i. bit q i && not (bit x.have i)) c.loop-a.a x.nodes (omega arith) (sym c.lacks.ensures ∙ c.if-lacks.true) in
    below_more (λ i. all_in x.nodes (get_or x.list.now i 0) (bit x.have)) c.sets.q-index c.sets.invariant (in_none x.nodes q (bit x.have) ∙ ap not h)

pub returns : goal.returns
returns c =
    let x = c.args in
    let e : c.sets.q-index ≡ length x.list.now = omega arith in
    sym (any_items (λ q. all_in x.nodes q (bit x.have)) x.list.now ∙ rw e at c.sets.invariant)
