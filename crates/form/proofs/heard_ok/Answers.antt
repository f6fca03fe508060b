-- Every heard byte has only bits of the 1b messages.
use mathlib.Core.Path.{◌∙◌}
use native.Mathlib.Omega.{arith}
use Prim.Native.Nat.{◌*◌}
use lib.ListN.{take}
use lib.Seq.{get_or-take, length-take-le}
use Rattle.rules.specs.Lent.{heard_form}
use Rattle.rules.proofs.Each.{each_same}
use Rattle.form.specs.Form.{byte_in}
use Rattle.form.proofs.Heard.{heard_formed}
use Rattle.form.proofs.heard_ok.Goals as goal

pub returns : goal.returns
unfolding heard_form
returns c =
    let a = c.args in
    let n = 128 * a.h.now.nodes in
    let e = rw (length-take-le n a.heard.now (c.requires.nodes_in_bounds)) at c.bytes_in.ensures in
    e
    ∙ each_same (byte_in (take n a.heard.now) c.promises-p.result) (byte_in a.heard.now c.promises-p.result) n (λ t h. rw (get_or-take n a.heard.now t 0 h))
    ∙ heard_formed a.board.now a.heard.now c.promises-p.result a.h.now.count a.h.now.nodes c.promises-p.ensures (λ t. omega (arith, c.type_inv.heard t))
