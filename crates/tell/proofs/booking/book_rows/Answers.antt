-- The book's rows: all rows passed are agreed, and their tubes stand in order.
use mathlib.Core.Path.{◌≡◌, sym, ◌∙◌}
use native.Mathlib.Omega.{arith}
use lib.ListN.{length-set}
use Rattle.tell.proofs.Lines.{so_more, ended, halted}
use Rattle.tell.proofs.booking.book_rows.Goals as goal

pub returns-in-Unchosen : goal.returns-in-Unchosen
returns-in-Unchosen c cells heard =
    let u = sym (c.in-Unchosen.ensures cells heard) in
    halted _ _ c.loop-k.tubes c.loop-k.k (c.loop-k.invariant.so cells heard) _ (omega arith) (rw u) (rw u)

pub returns-in-Split : goal.returns-in-Split
returns-in-Split c cells heard =
    let u = sym (c.in-Split.ensures cells heard) in
    halted _ _ c.loop-k.tubes c.loop-k.k (c.loop-k.invariant.so cells heard) _ (omega arith) (rw u) (rw u)

pub loop-k-preserved : goal.loop-k-preserved
loop-k-preserved c =
    let l = c.loop-k in
    record { size = length-set l.tubes l.k _ ∙ l.invariant.size; so = λ cells heard. so_more _ _ l.tubes l.k _ (l.invariant.so cells heard) (omega arith) (sym (c.in-Agreed.ensures cells heard)) }

pub returns : goal.returns
returns c cells heard =
    let l = c.loop-k in
    let e : l.k ≡ c.args.h.now.rows = omega arith in
    rw e at (ended _ _ l.tubes l.k (l.invariant.so cells heard) e)
