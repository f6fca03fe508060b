-- The book is written.
use lib.Dec.{leb, leb→le}
use lib.ListN.{length}
use Rattle.rules.specs.Lent.{lent}
use Rattle.rules.specs.Steps.{book}
use Rattle.rules.proofs.Sound.{and_l, and_r}
use Rattle.tell.proofs.Past.{book_done, past_countable, past-areas}
use Rattle.tell.proofs.book_past.Goals as goal

pub write_book-f-requires : goal.write_book-f-requires
write_book-f-requires c =
    let a = c.args in
    let m = lent a.m in
    let p = a.rows.now in
    let q = a.waiting.now in
    let g = past-areas m (book p q) c.requires in record {
      countable = past_countable m (book p q) c.requires;
      rows_in_bounds = (
        leb→le m.house.rows (length p) (and_l (leb m.house.rows (length p)) (leb 64 (length q)) g),
        leb→le 64 (length q) (and_r (leb m.house.rows (length p)) (leb 64 (length q)) g),
      );
    }

pub returns : goal.returns
returns c =
    let a = c.args in
    let m = lent a.m in
    book_done m a.rows.now a.waiting.now _ _ c.write_book-f.result c.requires (c.write_book-f.ensures m.cells m.heard)
