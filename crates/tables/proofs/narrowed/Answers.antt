-- Set by set: so far the array is the sets passed with zeros after them.
use mathlib.Core.Path.{◌≡◌, ap, ◌∙◌}
use mathlib.Core.List.{List}
use Prim.Native.Nat.{ℕ}
use native.Mathlib.Omega.{arith}
use lib.ListN.{length, get_or, set}
use lib.Seq.{take-length}
use Rattle.tables.proofs.Lists.{fit-none, fit-more}
use Rattle.tables.proofs.narrowed.Goals as goal

pub loop-i-init : goal.loop-i-init
loop-i-init g c = fit-none g.row.N

pub loop-i-preserved : goal.loop-i-preserved
loop-i-preserved g c =
    let s = c.args.sets.now in
    ap (λ (t : List ℕ). set t c.loop-i.i (get_or s c.loop-i.i 0)) c.loop-i.invariant ∙ fit-more g.row.N c.loop-i.i s (omega arith) (omega arith)

pub returns : goal.returns
returns g c =
    let s = c.args.sets.now in
    let e : c.loop-i.i ≡ length s = omega arith in
    rw (e, take-length s) at c.loop-i.invariant
