-- Each message is plain and good.
use mathlib.Core.Path.{sym, ◌∙◌}
use Prim.Native.Nat.{ℕ}
use borrow.Author.Rules.{rules}
use Rattle.std.proofs.iter.Serving.{serving}
use Rattle.rules.specs.Lent.{msg_at, room_of}
use Rattle.tables.proofs.Chains.{below_says}
use Rattle.form.specs.Form.{message_fields}
use Rattle.form.proofs.Says.{board_fits}
use Rattle.form.proofs.Plain.{messages_are}
use Rattle.form.proofs.messages_ok.Goals as goal

pub all-requires-clause-callable : goal.all-requires-clause-callable
all-requires-clause-callable c =
    let f = board_fits c.args.h.now c.args.board.now c.requires.h_value c.requires.capacity_in_bounds in
    grind serving

pub returns : goal.returns
returns c =
    let a = c.args in
    let h = a.h.now in
    let fields = λ (k : ℕ). message_fields h.nodes h.rows h.tubes (msg_at a.board.now k) in
    below_says fields h.count _ _ _ c.all.ensures.ran (cc) (λ x b q k. search rules)
    ∙ sym (messages_are (room_of h) h.tubes a.board.now h.count (board_fits h a.board.now c.requires.h_value c.requires.capacity_in_bounds).1)
