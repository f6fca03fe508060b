-- The waiting tubes: those of the tubes passed are written and counted.
use mathlib.Core.Path.{sym, refl, ◌∙◌}
use Prim.Native.Nat.{◌+◌}
use native.Mathlib.Omega.{arith}
use lib.Dec.{eqb}
use lib.ListN.{length}
use Rattle.tell.specs.Lines.{left}
use Rattle.tell.proofs.Found.{found_all}
use Rattle.tell.proofs.Lines.{left-most, left_stands, left_waits}
use Rattle.tell.proofs.booking.write_waiting.Goals as goal
use Rattle.tell.proofs.booking.write_waiting.Goals.{then-not-contains, else-not-contains}

pub loop-k-init : goal.loop-k-init
unfolding left
loop-k-init c = record { area = refl; number = refl }

pub bounds-out-w : goal.bounds-out-w
bounds-out-w c =
    let l = c.args.rows.now in
    omega (arith, left-most l (length l) c.loop-k.k, c.loop-k.invariant.number)

pub overflow_add-w : goal.overflow_add-w
overflow_add-w c =
    let l = c.args.rows.now in
    omega (arith, left-most l (length l) c.loop-k.k, c.loop-k.invariant.number)

pub loop-k-preserved : goal.loop-k-preserved
loop-k-preserved c =
    let l = c.args.rows.now in
    let k = c.loop-k.k in
    let v = c.loop-k.invariant in
    let m = left-most l (length l) k in
    let s = sym (found_all (λ x. eqb x (k + 1)) l) ∙ sym c.contains.ensures.value in
    elim c.if-not-contains.branch [
      | then-not-contains w ↦ rw (w.out-is, w.w-is) (left_waits l (length l) k c.args.out.now c.loop-k.out c.loop-k.w v.area v.number (s ∙ w.if-not-contains.true) (omega (arith, v.number)))
      | else-not-contains w ↦ rw (w.out-is, w.w-is) (left_stands l (length l) k c.args.out.now c.loop-k.out c.loop-k.w v.area v.number (s ∙ w.if-not-contains.false))
    ]
