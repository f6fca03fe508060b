-- Reading the message at a number: the part that is handed on is that message's window.
use Rattle.std.proofs.Common.{◌≡◌, ◌+◌, ◌-◌, ◌*◌, arith}
use Rattle.rules.specs.Lent.{msg_at}
use Rattle.board.proofs.msg_at.Goals as goal

pub returns : goal.returns
unfolding msg_at
returns c =
    let k = c.args.k in
    let e : 40 * k + 40 - 40 * k ≡ 40 = omega arith in
    rw e at c.decode.ensures
