-- Reading a request: each part from its place.
use mathlib.Core.Path.{◌≡◌}
use Prim.Native.Nat.{◌-◌}
use native.Mathlib.Omega.{arith}
use lib.ListN.{length, take, drop, length-drop}
use lib.Seq.{take_all}
use Rattle.frame.specs.Frame.{request_of}
use Rattle.frame.proofs.reading.request.Goals as goal

pub returns : goal.returns
unfolding request_of
returns c =
    let s = c.args.s.now in
    let rest : take (length s - 65) (drop 65 s) ≡ drop 65 s = take_all (length s - 65) (drop 65 s) (simp length-drop (omega arith)) in
    rw (c.arguments.ensures, c.pairs.ensures, c.read_house.ensures, rest, c.read_u32.ensures, c.read_u32-2.ensures, c.read_u32-3.ensures, c.read_u32-4.ensures, c.read_u32-5.ensures, c.read_u32-6.ensures, c.read_u32-7.ensures)
