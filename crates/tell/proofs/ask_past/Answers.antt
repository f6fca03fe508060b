-- Asking a row: what its outcome is told as, where it is a row of the room.
use Rattle.std.proofs.Common.{refl, sym, ◌∙◌}
use Rattle.rules.specs.Lent.{lent, room_of}
use Rattle.rules.specs.Steps.{ask}
use Rattle.tell.specs.Chosen.{outcome_of}
use Rattle.tell.proofs.Past.{past-answer, past_countable, unmoved, told_outside, told-inside}
use Rattle.tell.proofs.ask_past.Goals as goal

pub returns-then-not-has_row : goal.returns-then-not-has_row
returns-then-not-has_row c =
    let a = c.args in
    let m = lent a.m in
    record {
      answer = told_outside (room_of m.house) _ a.row (sym c.has_row.ensures.value ∙ c.if-not-has_row.true) ∙ sym (past-answer m (ask a.row) c.requires);
      memory = sym (unmoved m (ask a.row) refl);
    }

pub row_outcome-requires : goal.row_outcome-requires
row_outcome-requires c = past_countable (lent c.args.m) (ask c.args.row) c.requires

pub returns : goal.returns
returns c =
    let a = c.args in
    let m = lent a.m in
    record {
      answer = c.told_as.ensures
          ∙ told-inside (room_of m.house) _ a.row (sym c.has_row.ensures.value ∙ c.if-not-has_row.false) (outcome_of c.row_outcome.result) (c.row_outcome.ensures m.cells m.heard)
          ∙ sym (past-answer m (ask a.row) c.requires);
      memory = sym (unmoved m (ask a.row) refl);
    }
