-- Bit by bit: after k messages the bits are those of the 1b messages among them.
use mathlib.Core.Path.{◌≡◌}
use native.Mathlib.Omega.{arith}
use Rattle.form.proofs.Heard.{promises_none, promises_more}
use Rattle.form.proofs.promises.Goals as goal

pub loop-k-init : goal.loop-k-init
loop-k-init c = promises_none c.args.board.now

pub loop-k-preserved : goal.loop-k-preserved
loop-k-preserved c =
    rw c.promise_bit.ensures (promises_more c.args.board.now c.loop-k.out c.loop-k.k (omega arith) c.loop-k.invariant)

pub returns : goal.returns
returns c =
    let e : c.loop-k.k ≡ c.args.n = omega arith in
    rw e at c.loop-k.invariant
