-- The opening is answered, and the closing lines stand after its answer if the room opened.
use mathlib.Core.Path.{◌≡◌, ap, ◌∙◌}
use mathlib.Core.List.{append-nil}
use native.Mathlib.Omega.{arith}
use lib.ListN.{length}
use Prim.Native.Nat.{◌≤◌}
use Rattle.rules.specs.Lent.{memory}
use Rattle.page.specs.declared.Due.TheVariants.{Step}
use Rattle.page.specs.Sheet.{closes}
use Rattle.page.specs.Held.{due_of}
use Rattle.page.proofs.Dues.{apart}
use Rattle.session.proofs.Turns.{wrote_as, wrote_part, put_part, ends-opened, ends_refused}
use Rattle.session.proofs.open_and_end.Goals as goal

pub returns-in_default-clause-wrote : goal.returns-in_default-clause-wrote
returns-in_default-clause-wrote c =
    wrote_as (ends_refused _ _ _ _ _ c.open_room-number.ensures (apart _ Step c.in_default.not-Step) ∙ append-nil _) c.answer_line-at.ensures.wrote

pub returns-in-Step-clause-wrote : goal.returns-in-Step-clause-wrote
returns-in-Step-clause-wrote c =
    let a = c.args in
    let w = c.answer_line-at in
    let e = c.write_ending in
    let o = c.open_room-number in
    let ys = closes (memory o.new.house a.board.now o.new.cells o.new.heard) in
    let room : 8226 ≤ length a.out.now = c.requires in
    let same : length w.new.out ≡ length a.out.now = w.auto.out in
    wrote_as (ends-opened _ _ _ _ _ o.ensures (ap due_of c.in-Step.is))
    (wrote_part ys e.result w.ensures.wrote e.ensures.value (put_part w.new.out w.result e.result ys (omega (arith, w.ensures.upper_bound, e.ensures.upper_bound)) e.ensures.value e.ensures.out_after))
