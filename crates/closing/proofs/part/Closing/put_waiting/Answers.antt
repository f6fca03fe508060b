-- `put_waiting` meets its contract: a tube that stands in no row of the book waits.
use mathlib.Core.Path.{sym, ◌∙◌}
use native.Mathlib.Omega.{arith}
use borrow.Author.Rules.{rules}
use Rattle.closing.proofs.Writing.{wrote_none}
use Rattle.closing.proofs.Rows.{held-stands, line_waits}
use Rattle.closing.proofs.part.Closing.put_waiting.Goals as goal

pub returns-then-held-clause-wrote : goal.returns-then-held-clause-wrote
returns-then-held-clause-wrote c ρ s g =
    let a = c.args.self.now in
    rw (sym (held-stands ρ s a.tubes a.reach g.rows c.args.tube) ∙ sym c.held.ensures ∙ c.if-held.true) (wrote_none c.args.out.now c.args.at)

pub returns-clause-wrote : goal.returns-clause-wrote
returns-clause-wrote c ρ s g =
    let a = c.args.self.now in
    let e = sym (held-stands ρ s a.tubes a.reach g.rows c.args.tube) ∙ sym c.held.ensures ∙ c.if-held.false in
    rw (e, line_waits s a.stations a.serials c.args.tube g.scans (search rules) (omega (arith, g.count))) c.waiting_line.ensures.wrote
