-- Sending a 2b: the struct read from the cell, with the ballot and the tube, is how the room's next cell is stored.
use Prim.Native.Nat.{suc}
use mathlib.Core.Path.{◌≡◌, refl}
use Rattle.rules.specs.Words.{m2b}
use Rattle.rules.specs.Lent.{Memory, memory, stored, read}
use Rattle.rules.specs.Steps.{c2b}
use Rattle.rules.specs.Replies.{reply}
use Rattle.rules.specs.declared.Bid.{Bid}
use Rattle.rules.specs.declared.Node.{Node}
use Rattle.kept.specs.Kept.{Whole}
use Rattle.vote.proofs.Seat.{reachable, own-cell}
use Rattle.vote.proofs.Acts.{Acts, accepted, may_post, voted, acted}
use Rattle.vote.proofs.act_2b.Goals as goal

-- an accepted call posts its message and sets the cell so
step : {m : Memory} (d : Bid) (n : Node) → Whole m → reply m (c2b d.row.0 n.0 d.ballot.0 d.tube.0) ≡ 0 → let o = (read m).cells d.row.0 n.0 in
    Acts m (c2b d.row.0 n.0 d.ballot.0 d.tube.0) (m2b d.row.0 d.ballot.0 n.0 d.tube.0) d.row.0 n.0
    (record { max_bal = suc d.ballot.0; max_vbal = suc d.ballot.0; max_vval = d.tube.0; pairs = o.pairs })
step {m} d n w t = accepted m _ _ _ _ _ w t refl

pub post-requires : goal.post-requires
unfolding stored
post-requires c = may_post (step c.args.bid c.args.node c.requires.whole c.requires.tube_value) _ c.bare.ensures.value

pub place-k-requires : goal.place-k-requires
place-k-requires c = (step c.args.bid c.args.node c.requires.whole c.requires.tube_value).seat.low

pub cell_at-voted-requires : goal.cell_at-voted-requires
cell_at-voted-requires c =
    let lies = reachable c.requires.whole (step c.args.bid c.args.node c.requires.whole c.requires.tube_value).seat _ c.place-k.ensures in
    record { k_bound = lies.0; k_in_bounds = lies.1 }

pub set_cell-requires : goal.set_cell-requires
set_cell-requires c =
    let lies = reachable c.requires.whole (step c.args.bid c.args.node c.requires.whole c.requires.tube_value).seat _ c.place-k.ensures in
    record { k_bound = lies.0; k_in_bounds = lies.1 }

pub returns : goal.returns
unfolding stored
returns c =
    let s = step c.args.bid c.args.node c.requires.whole c.requires.tube_value in
    let o = (read (memory c.args.house.now c.args.board.now c.args.cells.now c.args.heard.now)).cells c.args.bid.row.0 c.args.node.0 in
    acted s _ _ _ _ _ _ c.bare.ensures.value c.place-k.ensures (voted _ o (own-cell s.whole s.seat _ c.place-k.ensures _ c.cell_at-voted.ensures) _ _) c.post.ensures c.set_cell.ensures
