-- A 1a is made and posted.
use mathlib.Core.Path.{refl, ◌∙◌}
use Rattle.rules.specs.Words.{m1a}
use Rattle.rules.specs.Lent.{Memory, memory, stored}
use Rattle.rules.specs.Steps.{c1a}
use Rattle.kept.proofs.Ready.{passed, ready}
use Rattle.write.proofs.Acts.{postable, posted, sent}
use Rattle.write.proofs.act.act_1a.Goals as goal

pub post-requires : goal.post-requires
unfolding stored
post-requires c =
    let lent : Memory =
    let a = c.args in memory a.house.now a.board.now a.cells.now a.heard.now in
    let r = c.args.row.0 in
    let k = c.args.ballot.0 in
    let p = passed lent (c1a r k) c.requires.whole.typed c.requires.ballot_value in
    postable lent (m1a r k) _ c.lead.ensures.value p.size p.form (ready lent (c1a r k) p)

pub returns : goal.returns
unfolding stored
returns c =
    let lent : Memory =
    let a = c.args in memory a.house.now a.board.now a.cells.now a.heard.now in
    let r = c.args.row.0 in
    let k = c.args.ballot.0 in
    posted lent (m1a r k) _ c.lead.ensures.value tt c.post.ensures ∙ sent lent (c1a r k) (m1a r k) refl c.requires.ballot_value
