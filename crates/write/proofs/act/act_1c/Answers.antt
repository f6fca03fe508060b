-- A 1c is made and posted.
use mathlib.Core.Path.{refl, ◌∙◌}
use Rattle.rules.specs.Words.{m1c}
use Rattle.rules.specs.Lent.{Memory, memory, stored}
use Rattle.rules.specs.Steps.{c1c}
use Rattle.kept.proofs.Ready.{passed, ready}
use Rattle.write.proofs.Acts.{postable, posted, sent}
use Rattle.write.proofs.act.act_1c.Goals as goal

pub post-requires : goal.post-requires
unfolding stored
post-requires c =
    let lent : Memory =
    let a = c.args in memory a.house.now a.board.now a.cells.now a.heard.now in
    let r = c.args.bid.row.0 in
    let k = c.args.bid.ballot.0 in
    let v = c.args.bid.tube.0 in
    let p = passed lent (c1c r k v) c.requires.whole.typed c.requires.tube_value in
    postable lent (m1c r k v) _ c.offer.ensures.value p.size p.form (ready lent (c1c r k v) p)

pub returns : goal.returns
unfolding stored
returns c =
    let lent : Memory =
    let a = c.args in memory a.house.now a.board.now a.cells.now a.heard.now in
    let r = c.args.bid.row.0 in
    let k = c.args.bid.ballot.0 in
    let v = c.args.bid.tube.0 in
    posted lent (m1c r k v) _ c.offer.ensures.value tt c.post.ensures ∙ sent lent (c1c r k v) (m1c r k v) refl c.requires.tube_value
