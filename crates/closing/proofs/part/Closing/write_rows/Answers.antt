-- `write_rows` meets its contract: each turn writes one row's line more.
use native.Mathlib.Omega.{arith}
use borrow.Author.Rules.{rules}
use Rattle.closing.proofs.Writing.{wrote_none, wrote_on}
use Rattle.closing.proofs.Rows.{rows_next}
use Rattle.closing.proofs.part.Closing.write_rows.Goals as goal

pub loop-k-init : goal.loop-k-init
loop-k-init c = record { wrote = λ ρ s g. wrote_none c.args.out.now 0; most = search rules }

pub loop-k-preserved : goal.loop-k-preserved
loop-k-preserved c =
    let l = c.loop-k in
    record { wrote = λ ρ s g. rw (rows_next ρ s l.k) (wrote_on (omega arith) (l.invariant.wrote ρ s g) (c.put_row-at.ensures.wrote ρ s g)); most = omega (arith, c.put_row-at.ensures.upper_bound) }
