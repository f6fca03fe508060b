-- `waiting` meets its contract: each turn counts one tube more.
use mathlib.Core.Path.{◌≡◌, ap, ◌∙◌}
use mathlib.Core.Bool.{not}
use Prim.Native.Nat.{◌+◌}
use native.Mathlib.Omega.{arith}
use lib.ListN.{length}
use Rattle.rules.specs.Tests.{one}
use Rattle.closing.specs.Given.{held_in}
use Rattle.closing.proofs.Rows.{byte_one, one-most, waiting_more, waiting_all}
use Rattle.closing.proofs.part.Closing.waiting.Goals as goal

pub loop-k-preserved : goal.loop-k-preserved
loop-k-preserved c =
    let a = c.args.self.now in
    let l = c.loop-k in
    let b = not (held_in a.tubes a.reach (l.k + 1)) in
    let e : c.from-count.result ≡ one b = c.from-count.ensures ∙ rw c.held.ensures (byte_one b) in
    record { value = λ ρ s g. omega (arith, e, l.invariant.value ρ s g, waiting_more ρ s a.tubes a.reach g.rows l.k); most = omega (arith, e, one-most b) }

pub returns : goal.returns
returns c ρ s g =
    let e : c.loop-k.k ≡ c.args.self.now.scanned = omega arith in
    c.loop-k.invariant.value ρ s g ∙ ap length (waiting_all ρ s c.loop-k.k (e ∙ g.count))
