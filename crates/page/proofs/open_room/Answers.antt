-- `open_room` meets its contract: the plan lent to opening is the room of the headings.
use mathlib.Core.Path.{ap}
use Rattle.rules.specs.Lent.{memory}
use Rattle.rules.specs.Replies.{Answer}
use Rattle.page.specs.Held.{heads_of}
use Rattle.page.proofs.Started.{due_opened, due_refused, started}
use Rattle.page.proofs.open_room.Goals.{in-Ok, in-Err}
use Rattle.page.proofs.open_room.Goals as goal

pub returns : goal.returns
returns c =
    let a = c.args in
    started (heads_of a.heads.now) (memory a.house.now a.board.now a.cells.now a.heard.now) _ _ c.held.ensures c.held-2.ensures
    _ _ c.open-reply.ensures _ _ (ap (λ (x : Answer). x.number) c.from.ensures)
    (elim c.match-reply.branch [ in-Ok w ↦ rw (w.heads-is, w.in-Ok.is, due_opened w.in-Ok.field-0) | in-Err w ↦ rw (w.heads-is, w.in-Err.is, due_refused w.in-Err.field-0) ])
