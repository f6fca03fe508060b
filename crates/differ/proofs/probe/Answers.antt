-- Slot by slot: every slot passed has another message.
use mathlib.Core.Path.{sym, ◌∙◌}
use native.Mathlib.Omega.{arith}
use lib.ListN.{get_or}
use Rattle.differ.proofs.Slots.{equal_there}
use Rattle.differ.proofs.probe.Goals as goal

pub returns-then-same_two : goal.returns-then-same_two
returns-then-same_two c =
    let a = c.args in
    record { from = omega arith; passed = λ q. absurd (omega arith); empty = λ q. absurd (omega arith); equal = λ q. equal_there a.board.now a.k (get_or a.slots.now c.loop-i.i 0) (omega arith) (c.requires.slots_len.1 c.loop-i.i) (sym c.same_two.ensures ∙ c.if-same_two.true) }
