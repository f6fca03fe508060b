-- Each cell is in form.
use mathlib.Core.Path.{sym, ◌∙◌}
use mathlib.Core.List.{List}
use Prim.Native.Nat.{ℕ, ◌/◌}
use native.Mathlib.Omega.{arith}
use borrow.Author.Rules.{rules}
use lib.ListN.{length}
use Rattle.rules.specs.Lent.{cell_at, cell_of, cell_form}
use Rattle.rules.proofs.Each.{each_same}
use Rattle.tables.proofs.Chains.{all_says}
use Rattle.form.specs.Form.{cell_formed}
use Rattle.form.proofs.Plain.{cell_formed_at}
use Rattle.form.proofs.Parts.{cells_yield, all_parts}
use Rattle.form.proofs.cells_ok.Goals as goal

pub returns : goal.returns
returns c =
    let a = c.args in
    let s = a.cells.now in
    let n = length s / 36 in
    let formed = λ (w : List ℕ). cell_formed a.tubes (cell_of w) in
    all_says formed c.all.new.self _ _ c.all.ensures.ran (cells_yield s c.chunks_exact.ensures.size c.chunks_exact.ensures.rest) (λ x b q k. search rules)
    ∙ all_parts formed n s
    ∙ each_same (λ (k : ℕ). cell_formed a.tubes (cell_at s k)) (cell_form a.tubes s) n (λ k l. sym (cell_formed_at a.tubes s k (omega arith)))
