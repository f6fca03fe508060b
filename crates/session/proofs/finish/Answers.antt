-- The last line is taken if its newline is missing, and the end of the sheet stands after its answer.
use mathlib.Core.Path.{◌≡◌, sym, ◌∙◌}
use Prim.Native.Nat.{◌≤◌}
use native.Mathlib.Nat.{zero-add}
use native.Mathlib.Omega.{arith}
use lib.ListN.{length, take}
use lib.Seq.{length-take-le}
use Rattle.rules.specs.Lent.{memory}
use Rattle.page.specs.Sheet.{sheet_of, ends}
use Rattle.page.specs.Held.{heads_of}
use Rattle.session.proofs.Turns.{wrote_as, wrote_part, put_part, last_none, last_some}
use Rattle.session.proofs.finish.Goals as goal

pub returns-then-s-eq0-clause-wrote : goal.returns-then-s-eq0-clause-wrote
returns-then-s-eq0-clause-wrote c = wrote_as (last_none _ _ (length-take-le _ _ (omega (arith, c.requires.in_bounds)) ∙ c.if-s-eq0.true)) c.end_sheet.ensures.wrote

pub returns-clause-wrote : goal.returns-clause-wrote
returns-clause-wrote c =
    let t = c.take_line-at in
    let w = c.end_sheet-2 in
    let room : 8294 ≤ length c.args.out.now = c.requires.in_bounds_2 in
    let same : length t.new.out ≡ length c.args.out.now = t.auto.out in
    let ys = ends (sheet_of (heads_of t.new.heads) (memory t.new.house t.new.board t.new.cells t.new.heard)) in
    let size : w.result ≡ length ys = w.ensures.wrote.ends ∙ zero-add (length ys) in
    let some : length (take c.from.result c.args.line.now) ≡ 0 → ⊥ = λ e. c.if-s-eq0.false (sym c.from.ensures ∙ sym (length-take-le _ _ (omega (arith, c.requires.in_bounds))) ∙ e) in
    rw (← c.from.ensures) (wrote_as (last_some _ _ some t.ensures.took)
    (wrote_part ys w.result t.ensures.took.prints size (put_part t.new.out t.result w.result ys (omega (arith, t.ensures.end_bound, w.ensures.upper_bound)) size w.ensures.wrote.area)))
