-- Reading the arguments: each turn takes four bytes more.
use Prim.Native.Nat.{◌*◌}
use mathlib.Core.Path.{sym, ◌∙◌}
use native.Mathlib.Numerals.{add-one}
use native.Mathlib.Omega.{arith}
use lib.ListN.{drop, length-set}
use Rattle.image.proofs.Writing.{one_more, all_of, four-drop}
use Rattle.frame.specs.Frame.{numbers_at}
use Rattle.frame.proofs.reading.arguments.Goals as goal

pub loop-i-preserved : goal.loop-i-preserved
loop-i-preserved c =
    let l = c.loop-i in
    let i = l.i in
    let s = c.args.s.now in
    (simp length-set l.invariant.0, one_more l.out (numbers_at (drop 1 s) i) i _ _ (omega arith) l.invariant.1 (c.read_u32.ensures ∙ sym (four-drop s 1 (4 * i))) ∙ rw (add-one i))

pub returns : goal.returns
returns c = all_of c.loop-i.out (numbers_at (drop 1 c.args.s.now)) c.loop-i.i 8 c.loop-i.invariant.0 (omega arith) c.loop-i.invariant.1
