-- A foreign post is posted, and its node marked.
use Rattle.std.proofs.Common.{◌∙◌, sym, true≢false}
use Rattle.rules.specs.Lent.{memory}
use Rattle.step.specs.Given.{post_of}
use Rattle.foreign.proofs.Posts.{inside, may_post, low, left}
use Rattle.foreign.proofs.act_foreign.Goals as goal

pub unreachable-requires : goal.unreachable-requires
unreachable-requires c =
    let a = c.args in
    true≢false (sym (inside (memory a.house.now a.board.now a.cells.now a.heard.now) c.requires.whole (post_of a.post a.pairs) c.requires.pairs_value) ∙ c.in_default.ensures)

pub post-requires : goal.post-requires
post-requires c =
    let a = c.args in
    may_post (memory a.house.now a.board.now a.cells.now a.heard.now) c.requires.whole (post_of a.post a.pairs) c.requires.pairs_value c.in-Some.ensures.1

pub mark-requires : goal.mark-requires
mark-requires c =
    let a = c.args in
    low (memory a.house.now a.board.now a.cells.now a.heard.now) c.requires.whole (post_of a.post a.pairs) c.requires.pairs_value c.in-Some.ensures.1

pub returns : goal.returns
returns c =
    let a = c.args in
    left (memory a.house.now a.board.now a.cells.now a.heard.now) c.requires.whole (post_of a.post a.pairs) c.requires.pairs_value c.in-Some.ensures.1 c.post.ensures c.mark.ensures
