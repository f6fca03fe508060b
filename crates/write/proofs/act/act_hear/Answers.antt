-- A node's bit is set.
use mathlib.Core.Path.{ap, sym, ◌∙◌}
use mathlib.Core.List.{List}
use Prim.Native.Nat.{ℕ}
use native.Mathlib.Omega.{arith}
use Rattle.rules.specs.Lent.{Memory, memory}
use Rattle.rules.specs.Steps.{hear, write}
use Rattle.kept.proofs.Ready.{passed, ready}
use Rattle.kept.proofs.Stay.{done}
use Rattle.judge.proofs.Past.{bounds}
use Rattle.write.proofs.act.act_hear.Goals as goal

pub set_heard-requires : goal.set_heard-requires
set_heard-requires c =
    let lent : Memory =
    let a = c.args in memory a.house.now a.board.now a.cells.now a.heard.now in
    let p = passed lent (hear c.args.node.0 c.args.number) c.requires.whole.typed c.requires.number_value in
    let r = ready lent (hear c.args.node.0 c.args.number) p in
    record { node_bound = omega (arith, r.0, (bounds lent c.requires.whole).nodes); k_bound = r.1; node_in_bounds = omega (arith, r.0, p.size.heard) }

pub returns : goal.returns
unfolding write
returns c =
    let lent : Memory =
    let a = c.args in memory a.house.now a.board.now a.cells.now a.heard.now in
    let a = c.args in
    ap (λ (t : List ℕ). memory a.house.now a.board.now a.cells.now t) c.set_heard.ensures ∙ sym (done lent (hear a.node.0 a.number) c.requires.number_value)
