-- Reading the serials: each turn takes one more, four bytes of every five.
use mathlib.Core.Path.{◌≡◌, ap, sym, ◌∙◌}
use Prim.Native.Nat.{◌*◌, ◌+◌}
use native.Mathlib.Numerals.{add-one}
use native.Mathlib.Omega.{arith}
use lib.ListN.{length-set, drop}
use Rattle.image.specs.Image.{serials_at, four_at}
use Rattle.image.proofs.Writing.{one_more, all_of, four-drop}
use Rattle.image.proofs.tables.read_serials.Goals as goal

pub loop-i-preserved : goal.loop-i-preserved
loop-i-preserved c =
    let l = c.loop-i in
    let i = l.i in
    let s = c.args.s.now in
    let e : 137 + 5 * i ≡ 136 + (5 * i + 1) = omega arith in
    (simp length-set l.invariant.0, one_more l.out (serials_at (drop 136 s) i) i _ _ (omega arith) l.invariant.1 (c.read_u32.ensures ∙ ap (four_at s) e ∙ sym (four-drop s 136 (5 * i + 1))) ∙ rw (add-one i))

pub returns : goal.returns
returns c = all_of c.loop-i.out (serials_at (drop 136 c.args.s.now)) c.loop-i.i 64 c.loop-i.invariant.0 (omega arith) c.loop-i.invariant.1
