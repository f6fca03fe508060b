-- A 1b is made of the cell and posted, and then the cell's max_bal is raised.
use mathlib.Core.Path.{◌≡◌, ap, sym, ◌∙◌}
use Prim.Native.Nat.{ℕ, suc, ◌+◌, ◌*◌, ◌≤◌, ◌<◌}
use native.Mathlib.Omega.{arith}
use lib.ListN.{length}
use Rattle.rules.specs.Lent.{Memory, memory, stored, cell_at, place, room_of, read}
use Rattle.rules.specs.Steps.{c1b, told, write}
use Rattle.rules.specs.Replies.{reply}
use Rattle.rules.specs.declared.Cell.{Cell}
use Rattle.rules.specs.declared.Message.{Message}
use Rattle.rules.proofs.Codec.{At}
use Rattle.kept.specs.Kept.{Whole}
use Rattle.kept.proofs.Ready.{Passed, passed, ready}
use Rattle.kept.proofs.Stay.{done}
use Rattle.judge.proofs.Past.{bounds}
use Rattle.judge.proofs.Cells.{promised, place-below, cell-long, told_as}
use Rattle.write.proofs.Acts.{postable, posted, cell-after, raised_as}
use Rattle.write.proofs.act.act_1b.Goals as goal

-- an accepted call: its row and node have a cell, which lies in the area, and what is made of that cell is the rules' message
module _ (m : Memory) (w : Whole m) (r n b : ℕ) (y : reply m (c1b r n b) ≡ 0) where
  past : Passed m (c1b r n b)
  past = passed m (c1b r n b) w.typed y

  at : At (room_of m.house) r n
  at = (ready m (c1b r n b) past).1.0

  module _ {k : ℕ} (e : k ≡ place m.house.rows r n) where
    lies : (k < 512) × (36 * k + 36 ≤ length m.cells)
    lies = (omega (arith, place-below m r n at (bounds m w), e), omega (arith, cell-long m r n at past.size, e))

    module _ {c : Cell} (f : c ≡ cell_at m.cells k) where
      found : c ≡ cell_at m.cells (place m.house.rows r n)
      found = f ∙ ap (cell_at m.cells) e

      message : {x : Message} → x ≡ promised r b n c → x ≡ stored (told (read m) r n b)
      message g = g ∙ ap (promised r b n) found ∙ told_as m past.form r n at b

pub place-k-requires : goal.place-k-requires
place-k-requires c =
    let a = c.args in
    (at (memory a.house.now a.board.now a.cells.now a.heard.now) c.requires.whole _ _ _ c.requires.ballot_value).low

pub cell_at-c-requires : goal.cell_at-c-requires
cell_at-c-requires c =
    let a = c.args in
    let parts = lies (memory a.house.now a.board.now a.cells.now a.heard.now) c.requires.whole _ _ _ c.requires.ballot_value c.place-k.ensures in
    record { k_bound = parts.0; k_in_bounds = parts.1 }

pub post-requires : goal.post-requires
post-requires c =
    let a = c.args in
    let m = memory a.house.now a.board.now a.cells.now a.heard.now in
    let y = c.requires.ballot_value in
    let p = past m c.requires.whole a.row.0 a.node.0 a.ballot.0 y in
    postable m (told (read m) a.row.0 a.node.0 a.ballot.0) _
    (message m c.requires.whole _ _ _ y c.place-k.ensures c.cell_at-c.ensures c.promise-m.ensures)
    p.size p.form (ready m (c1b a.row.0 a.node.0 a.ballot.0) p).0

pub set_cell-requires : goal.set_cell-requires
set_cell-requires c =
    let a = c.args in
    let parts = lies (memory a.house.now a.board.now a.cells.now a.heard.now) c.requires.whole _ _ _ c.requires.ballot_value c.place-k.ensures in
    record { k_bound = parts.0; k_in_bounds = parts.1 }

pub returns : goal.returns
unfolding write
returns c =
    let a = c.args in
    let m = memory a.house.now a.board.now a.cells.now a.heard.now in
    let r = a.row.0 in
    let n = a.node.0 in
    let y = c.requires.ballot_value in
    let p = past m c.requires.whole r n a.ballot.0 y in
    let k = c.cell_at-c.result in
    let o = (read m).cells r n in
    let x = told (read m) r n a.ballot.0 in
    cell-after m x r n (record { max_bal = suc a.ballot.0; max_vbal = o.max_vbal; max_vval = o.max_vval; pairs = o.pairs })
    (record { maxbal = a.ballot.0; maxvbal = k.maxvbal; maxvval = k.maxvval; count = k.count; pairs = k.pairs }) _
    (posted m x _ (message m c.requires.whole r n a.ballot.0 y c.place-k.ensures c.cell_at-c.ensures c.promise-m.ensures) (ready m (c1b r n a.ballot.0) p).0.small c.post.ensures)
    (raised_as m p.form r n a.ballot.0 (at m c.requires.whole r n a.ballot.0 y) k (found m c.requires.whole r n a.ballot.0 y c.place-k.ensures c.cell_at-c.ensures))
    c.place-k.ensures
    c.set_cell.ensures
    ∙ sym (done m (c1b r n a.ballot.0) y)
