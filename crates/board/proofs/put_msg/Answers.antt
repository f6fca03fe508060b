-- Writing a message at the front: eight bytes and the pairs are one patch.
use Rattle.std.proofs.Common.{rules, ◌≡◌, ◌∙◌, [], ◌∷◌, length, arith}
use Rattle.rules.proofs.Area.{head_tail}
use Rattle.board.proofs.put_msg.Goals as goal

pub returns : goal.returns
returns c =
    let m = c.args.m in
    let len : length m.pairs ≡ 32 = search rules in
    c.put_bytes.ensures
    ∙ head_tail c.args.s.now (m.kind ∷ m.row ∷ m.bal ∷ m.node ∷ m.tube ∷ m.mbal ∷ m.mval ∷ m.count ∷ []) m.pairs 32 len (omega arith)
