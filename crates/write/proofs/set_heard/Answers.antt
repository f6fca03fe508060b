-- A node's bit is set in its byte.
use Prim.Native.Nat.{◌%◌}
use native.Mathlib.Omega.{arith}
use Rattle.house.proofs.Bits.{own-bit}
use Rattle.write.proofs.set_heard.Goals as goal

pub returns : goal.returns
returns c = rw (own-bit (c.args.k % 8) (omega arith))
