-- Writing a cell at the front: four bytes and the pairs are one patch.
use Rattle.std.proofs.Common.{rules, ◌≡◌, ◌∙◌, [], ◌∷◌, length, arith}
use Rattle.rules.proofs.Area.{head_tail}
use Rattle.cell.proofs.put_cell.Goals as goal

pub returns : goal.returns
returns c =
    let a = c.args in
    let len : length a.c.pairs ≡ 32 = search rules in
    c.put_bytes.ensures
    ∙ head_tail a.s.now (a.c.maxbal ∷ a.c.maxvbal ∷ a.c.maxvval ∷ a.c.count ∷ []) a.c.pairs 32 len (omega arith)
