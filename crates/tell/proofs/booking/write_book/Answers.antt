-- The book: its lines and the waiting tubes are written, and the figures are theirs.
use Prim.Native.Nat.{◌≤◌}
use mathlib.Core.List.{[]}
use native.Mathlib.Omega.{arith}
use lib.ListN.{length}
use lib.Seq.{length-take-le}
use Rattle.rules.specs.Lent.{memory, room_of, read}
use Rattle.kept.proofs.Ready.{length_intake}
use Rattle.tell.proofs.Lines.{reach-most, written}
use Rattle.tell.proofs.booking.write_book.Goals as goal

pub shared_ref_as_front-tubes : goal.shared_ref_as_front-tubes
shared_ref_as_front-tubes c =
    omega (arith, reach-most (room_of c.args.h.now) _ c.book_rows-b.result (c.book_rows-b.ensures [] []), c.requires.countable.rows)

pub write_lines-requires : goal.write_lines-requires
write_lines-requires c =
    let b = c.book_rows-b.result in
    let m = reach-most (room_of c.args.h.now) _ b (c.book_rows-b.ensures [] []) in
    rw (length-take-le b.reach b.tubes (omega (arith, m, c.requires.countable.rows))) (omega (arith, m, c.requires.rows_in_bounds))

pub returns : goal.returns
returns c cells heard =
    let a = c.args in
    let m = memory a.h.now a.board.now cells heard in
    let b = c.book_rows-b.result in
    let f = c.book_rows-b.ensures cells heard in
    let fits : b.reach ≤ length b.tubes = omega (arith, reach-most (room_of a.h.now) _ b f, c.requires.countable.rows) in
    written (room_of a.h.now) (read m) b f fits a.h.now.tubes a.rows.now a.waiting.now _ _ _ (length_intake m) c.write_lines.ensures c.write_waiting-left.ensures
