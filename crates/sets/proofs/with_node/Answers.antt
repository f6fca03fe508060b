-- One node more: the shifted bit does not leave the byte.
use Prim.Native.Nat.{◌*◌, ◌^◌, ◌%◌, ◌<◌}
use mathlib.Core.Path.{◌≡◌}
use native.Mathlib.Omega.{arith}
use borrow.Author.Tests.{lt-ltb, le-ltb}
use lib.Pow.{pow-lt}
use Rattle.sets.specs.Sets.{joined}
use Rattle.sets.proofs.with_node.Goals as goal

pub returns-then-node-lt8 : goal.returns-then-node-lt8
unfolding joined
returns-then-node-lt8 c =
    let n = c.args.node in
    let h : n < 8 = omega arith in
    let k : 2 ^ n < 256 = pow-lt {j = 8} h in
    let e : 1 * 2 ^ n % 256 ≡ 2 ^ n = omega arith in
    rw (e, lt-ltb n 8 h)

pub returns-else-node-lt8 : goal.returns-else-node-lt8
unfolding joined
returns-else-node-lt8 c = rw (le-ltb c.args.node 8 (omega arith))
