-- The gate's refusal is written as an answer, and past the gate the book's rows and the intake as the closing lines.
use Rattle.std.proofs.Common.{sym, ◌∙◌, arith, zero-add, length}
use Rattle.rules.specs.Lent.{lent, room_of, read}
use Rattle.rules.specs.Steps.{ask}
use Rattle.rules.proofs.Named.{positive}
use Rattle.tell.proofs.Past.{past_countable}
use Rattle.closing.specs.Printed.{answer_text}
use Rattle.ending.proofs.Ending.{closes_with, refused, let_through, given_rows}
use Rattle.ending.proofs.write_ending.Goals as goal

pub returns-in-Err : goal.returns-in-Err
returns-in-Err c =
    let m = lent c.args.m in
    let line = c.answer_line in
    let e = c.into.ensures ∙ c.in-Err.ensures.number in
    let parts = closes_with m c.args.out.now (refused m c.into.result e (λ z. positive c.in-Err.refusal (sym c.into.ensures ∙ z)))
    (line.ensures.wrote.ends ∙ zero-add (length (answer_text c.into.result 0))) line.ensures.wrote.area (omega (arith, line.ensures.upper_bound)) in
    record { value = parts.0; out_after = parts.1.0; upper_bound = parts.1.1 }

pub book_rows-b-requires : goal.book_rows-b-requires
book_rows-b-requires c = past_countable (lent c.args.m) (ask 0) (sym c.in_default.ensures.number)

pub write_closing-requires : goal.write_closing-requires
write_closing-requires c =
    let m = lent c.args.m in
    let b = c.book_rows-b in
    let rows = given_rows m (sym c.in_default.ensures.number) b.result c.by_split.result (b.ensures m.cells m.heard) c.by_split.ensures in
    record { known = (room_of m.house, read m, rows); in_bounds = c.requires }

pub returns : goal.returns
returns c =
    let m = lent c.args.m in
    let b = c.book_rows-b in
    let gated = sym c.in_default.ensures.number in
    let rows = given_rows m gated b.result c.by_split.result (b.ensures m.cells m.heard) c.by_split.ensures in
    let w = c.write_closing.ensures.value (room_of m.house) (read m) rows in
    let parts = closes_with m c.args.out.now (let_through m gated) w.0 w.1 c.write_closing.ensures.upper_bound in
    record { value = parts.0; out_after = parts.1.0; upper_bound = parts.1.1 }
