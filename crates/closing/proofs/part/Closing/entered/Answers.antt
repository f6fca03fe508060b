-- `entered` meets its contract: each turn counts one row more.
use mathlib.Core.Path.{◌≡◌, ◌∙◌}
use mathlib.Core.Bool.{not}
use native.Mathlib.Omega.{arith}
use lib.ListN.{get_or}
use Rattle.rules.specs.Tests.{one}
use Rattle.closing.specs.Given.{held_in}
use Rattle.closing.proofs.Rows.{byte_one, one-most, entered-next, entered_all}
use Rattle.closing.proofs.part.Closing.entered.Goals as goal

pub loop-k-preserved : goal.loop-k-preserved
loop-k-preserved c =
    let a = c.args.self.now in
    let l = c.loop-k in
    let b = not (held_in a.tubes l.k (get_or a.tubes l.k 0)) in
    let e : c.from-count.result ≡ one b = c.from-count.ensures ∙ rw c.held.ensures (byte_one b) in
    record { value = λ ρ s g. omega (arith, e, l.invariant.value ρ s g, entered-next ρ s a.tubes a.reach g.rows l.k (omega arith)); most = omega (arith, e, one-most b) }

pub returns-clause-value : goal.returns-clause-value
returns-clause-value c ρ s g =
    let a = c.args.self.now in
    let e : c.loop-k.k ≡ a.reach = omega arith in
    rw e at (c.loop-k.invariant.value ρ s g) ∙ entered_all ρ s a.tubes a.reach g.rows
