-- `put_line` meets its contract: what the fields left would write after those written is the whole line.
use native.Mathlib.Omega.{arith}
use borrow.Author.Rules.{rules}
use Rattle.closing.proofs.Writing.{wrote_byte, wrote_on}
use Rattle.closing.proofs.Fields.{field_more, room_more, field_none}
use Rattle.closing.proofs.put_line.Goals as goal

pub loop-word-preserved : goal.loop-word-preserved
loop-word-preserved c =
    let l = c.args.fields.now in
    let i = c.loop-word.word-index in
    record {
      rest = λ end s w. c.loop-word.invariant.rest end s (rw (field_more l i c.loop-word-test.true) (wrote_on (search rules) (rw c.as_bytes.ensures.value at c.put_field-end.ensures.wrote) w));
      room = omega (arith, room_more l i c.loop-word-test.true, c.as_bytes.ensures.len, c.put_field-end.ensures.upper_bound);
    }

pub returns : goal.returns
returns c =
    let e = field_none c.args.fields.now c.loop-word.word-index c.loop-word-test.false in
    record { wrote = c.loop-word.invariant.rest _ _ (rw e (wrote_byte c.loop-word.out c.loop-word.end 10 (search rules))); upper_bound = omega (arith, rw e at c.loop-word.invariant.room) }
