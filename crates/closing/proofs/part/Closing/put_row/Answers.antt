-- `put_row` meets its contract: a row whose tube an earlier row holds repeats it, another enters it.
use mathlib.Core.Path.{sym, ◌∙◌}
use Rattle.closing.proofs.Rows.{line_repeats, line_enters}
use Rattle.closing.proofs.part.Closing.put_row.Goals as goal

pub returns-then-held-clause-wrote : goal.returns-then-held-clause-wrote
returns-then-held-clause-wrote c ρ s g =
    let a = c.args.self.now in
    rw (line_repeats ρ s a.tubes a.reach g.rows c.args.k c.requires.k_bound (sym c.held.ensures ∙ c.if-held.true)) c.void_line.ensures.wrote

pub returns-clause-wrote : goal.returns-clause-wrote
returns-clause-wrote c ρ s g =
    let a = c.args.self.now in
    rw (line_enters ρ s a.tubes a.reach g.rows a.stations a.serials g.scans c.args.k c.requires.k_bound (sym c.held.ensures ∙ c.if-held.false)) c.row_line.ensures.wrote
