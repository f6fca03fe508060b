-- Reading the stations: each turn takes one more, every fifth byte.
use Prim.Native.Nat.{◌*◌}
use mathlib.Core.Path.{sym, ◌∙◌}
use native.Mathlib.Numerals.{add-one}
use lib.ListN.{length-set, drop}
use lib.Seq.{get_or-drop}
use native.Mathlib.Omega.{arith}
use Rattle.image.specs.Image.{stations_at}
use Rattle.image.proofs.Writing.{one_more, all_of}
use Rattle.image.proofs.tables.read_stations.Goals as goal

pub loop-i-preserved : goal.loop-i-preserved
loop-i-preserved c =
    let l = c.loop-i in
    let i = l.i in
    let s = c.args.s.now in
    (simp length-set l.invariant.0, one_more l.out (stations_at (drop 136 s) i) i _ _ (omega arith) l.invariant.1 (sym (get_or-drop 136 s (5 * i) 0)) ∙ rw add-one)

pub returns : goal.returns
returns c = all_of c.loop-i.out (stations_at (drop 136 c.args.s.now)) c.loop-i.i 64 c.loop-i.invariant.0 (omega arith) c.loop-i.invariant.1
