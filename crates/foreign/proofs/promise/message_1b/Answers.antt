-- A 1b: numbers within limits fit their bytes, and its pair array is that of the pairs it counts.
use Rattle.std.proofs.Common.{refl, true, false, arith}
use Rattle.rules.specs.Lent.{room_of}
use Rattle.foreign.proofs.Bytes.{count_in}
use Rattle.foreign.proofs.Within.{tested, stored_1b}
use Rattle.foreign.proofs.promise.message_1b.Goals as goal

pub returns-in_err-row : goal.returns-in_err-row
returns-in_err-row c = rw c.from_residual.ensures (tested _ _ _ _ _ _ _ (room_of c.args.h.now) false _ _ c.in_err-row.ensures refl refl)

pub returns-then-not-height_in-p : goal.returns-then-not-height_in-p
returns-then-not-height_in-p c =
    tested _ _ _ _ _ _ _ (room_of c.args.h.now) true false _ c.in_ok-row.ensures.0 (rw c.height_in.ensures at c.if-not-height_in-p.true) refl

pub returns-in_err-pairs : goal.returns-in_err-pairs
returns-in_err-pairs c =
    rw c.from_residual-in_err-pairs.ensures (tested _ _ _ _ _ _ _ (room_of c.args.h.now) true true false c.in_ok-row.ensures.0 (rw c.height_in.ensures at c.if-not-height_in-p.false) c.in_err-pairs.ensures)

pub overflow_cast-result-3 : goal.overflow_cast-result-3
overflow_cast-result-3 c = omega (arith, count_in c.args.pairs c.args.p.count c.in_ok-pairs.ensures.0)

pub returns : goal.returns
returns c =
    let e = c.in_ok-row.ensures in
    let g = c.in_ok-pairs.ensures in
    (tested _ _ _ _ _ _ _ (room_of c.args.h.now) true true true e.0 (rw c.height_in.ensures at c.if-not-height_in-p.false) g.0, stored_1b _ _ _ _ _ _ _ c.into.ensures e.1 g.1 g.0)
