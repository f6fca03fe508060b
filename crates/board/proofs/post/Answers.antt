-- Posting: a message that is there changes nothing, a new one is appended and the count raised.
use Rattle.std.proofs.Common.{rules, ◌≡◌, ◌*◌, ap, sym, ◌∙◌, add-one}
use Rattle.rules.specs.declared.Message.{Message}
use Rattle.rules.specs.Lent.{memory, patch, bytes_of, meaning, raised}
use Rattle.board.proofs.Bytes.{post_old, post_new}
use Rattle.board.proofs.post.Goals as goal

pub returns-then-on_board : goal.returns-then-on_board
returns-then-on_board c x y =
    let a = c.args in
    let n : c.from-n.result ≡ a.house.now.count = search rules in
    let h = sym c.on_board.ensures ∙ c.if-on_board.true in
    post_old (memory a.house.now a.board.now x y) (meaning a.m) (rw n at h)

pub returns : goal.returns
returns c x y =
    let a = c.args in
    let n : c.from-n.result ≡ a.house.now.count = search rules in
    let h = sym c.on_board.ensures ∙ c.if-on_board.false in
    let p = rw n at c.append.ensures ∙ ap (λ (t : Message). patch a.board.now (40 * a.house.now.count) (bytes_of t)) (sym c.requires.own) in
    (λ i. memory ((c.raise.ensures ∙ ap (raised a.house.now) (add-one a.house.now.count)) i) (p i) x y) ∙ post_new (memory a.house.now a.board.now x y) (meaning a.m) (rw n at h)
