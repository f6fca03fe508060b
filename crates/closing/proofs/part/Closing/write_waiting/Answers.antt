-- `write_waiting` meets its contract: each turn writes one tube's line more, if it waits.
use mathlib.Core.Path.{◌≡◌, ◌∙◌}
use native.Mathlib.Omega.{arith}
use borrow.Author.Rules.{rules}
use Rattle.closing.proofs.Writing.{wrote_none, wrote_on}
use Rattle.closing.proofs.Rows.{waiting_all, waiting_text_next}
use Rattle.closing.proofs.part.Closing.write_waiting.Goals as goal

pub loop-k-init : goal.loop-k-init
loop-k-init c = record { wrote = λ ρ s g. wrote_none c.args.out.now c.args.from; most = search rules }

pub loop-k-preserved : goal.loop-k-preserved
loop-k-preserved c =
    let l = c.loop-k in
    record { wrote = λ ρ s g. rw (waiting_text_next ρ s l.k) (wrote_on (omega arith) (l.invariant.wrote ρ s g) (c.put_waiting-at.ensures.wrote ρ s g)); most = omega (arith, c.put_waiting-at.ensures.upper_bound) }

pub returns-clause-wrote : goal.returns-clause-wrote
returns-clause-wrote c ρ s g =
    let e : c.loop-k.k ≡ c.args.self.now.scanned = omega arith in
    rw (waiting_all ρ s c.loop-k.k (e ∙ g.count)) at (c.loop-k.invariant.wrote ρ s g)
