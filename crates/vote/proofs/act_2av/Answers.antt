-- Sending a 2av: the struct read from the cell, with the ballot and the moved pairs, is how the room's next cell is stored.
use Prim.Native.Nat.{suc, ◌<◌}
use mathlib.Core.Path.{◌≡◌, refl, sym, subst}
use mathlib.Core.List.{List, [], ◌∷◌, ◌++◌}
use lib.ListN.{length}
use Rattle.pairs.specs.Pairs.{Packed}
use Rattle.rules.specs.Words.{Pair, m2av}
use Rattle.rules.specs.Lent.{Memory, memory, stored, read}
use Rattle.rules.specs.Steps.{c2av, without}
use Rattle.rules.specs.Replies.{reply}
use Rattle.rules.specs.declared.Bid.{Bid}
use Rattle.rules.specs.declared.Node.{Node}
use Rattle.kept.specs.Kept.{Whole}
use Rattle.vote.proofs.Seat.{reachable, own-cell, own_pairs, few}
use Rattle.vote.proofs.Acts.{Acts, accepted, may_post, sent, acted, relay_room}
use Rattle.vote.proofs.act_2av.Goals as goal

-- an accepted call posts its message and sets the cell so
step : {m : Memory} (d : Bid) (n : Node) → Whole m → reply m (c2av d.row.0 n.0 d.ballot.0 d.tube.0) ≡ 0 → let o = (read m).cells d.row.0 n.0 in
    Acts m (c2av d.row.0 n.0 d.ballot.0 d.tube.0) (m2av d.row.0 d.ballot.0 n.0 d.tube.0) d.row.0 n.0
    (record { max_bal = suc d.ballot.0; max_vbal = o.max_vbal; max_vval = o.max_vval; pairs = without d.tube.0 o.pairs ++ ((d.tube.0, d.ballot.0) ∷ []) })
step {m} d n w t = accepted m _ _ _ _ _ w t refl

pub post-requires : goal.post-requires
unfolding stored
post-requires c = may_post (step c.args.bid c.args.node c.requires.whole c.requires.tube_value) _ c.bare.ensures.value

pub place-k-requires : goal.place-k-requires
place-k-requires c = (step c.args.bid c.args.node c.requires.whole c.requires.tube_value).seat.low

pub cell_at-sent-requires : goal.cell_at-sent-requires
cell_at-sent-requires c =
    let lies = reachable c.requires.whole (step c.args.bid c.args.node c.requires.whole c.requires.tube_value).seat _ c.place-k.ensures in
    record { k_bound = lies.0; k_in_bounds = lies.1 }

pub moved-held-requires : goal.moved-held-requires
moved-held-requires c =
    let a = c.args in
    let w = c.requires.whole in
    let at = (step c.args.bid c.args.node c.requires.whole c.requires.tube_value).seat in
    record {
      count_bound = few w at _ c.place-k.ensures _ c.cell_at-sent.ensures;
      pairs_len_bound = subst (λ (l : List Pair). length (without a.bid.tube.0 l) < 16) (sym (own_pairs w at _ c.place-k.ensures _ c.cell_at-sent.ensures)) (relay_room _ a.bid.row.0 a.node.0 a.bid.ballot.0 a.bid.tube.0 w c.requires.tube_value);
    }

pub set_cell-requires : goal.set_cell-requires
set_cell-requires c =
    let lies = reachable c.requires.whole (step c.args.bid c.args.node c.requires.whole c.requires.tube_value).seat _ c.place-k.ensures in
    record { k_bound = lies.0; k_in_bounds = lies.1 }

pub returns : goal.returns
unfolding stored
returns c =
    let a = c.args in
    let s = step a.bid a.node c.requires.whole c.requires.tube_value in
    let packed = subst (λ (l : List Pair). Packed (without a.bid.tube.0 l ++ ((a.bid.tube.0, a.bid.ballot.0) ∷ [])) c.moved-held.result.count c.moved-held.result.pairs) (own_pairs s.whole s.seat _ c.place-k.ensures _ c.cell_at-sent.ensures) c.moved-held.ensures in
    let o = (read (memory c.args.house.now c.args.board.now c.args.cells.now c.args.heard.now)).cells c.args.bid.row.0 c.args.node.0 in
    acted s _ _ _ _ _ _ c.bare.ensures.value c.place-k.ensures (sent _ o (own-cell s.whole s.seat _ c.place-k.ensures _ c.cell_at-sent.ensures) _ _ _ _ packed) c.post.ensures c.set_cell.ensures
