-- Part ii for one c: the quorums decide first, then the weak sets.
use Rattle.std.proofs.Common.{sym, ◌∙◌}
use Rattle.safe.proofs.safe_at.Goals as goal

pub returns-then-some_full : goal.returns-then-some_full
returns-then-some_full c =
    rw (rw (c.from-k.ensures, c.from.ensures) at (sym c.some_full.ensures ∙ c.if-some_full.true)) (rw (c.from-k.ensures, c.from-then-some_full.ensures) at c.some_full-then-some_full.ensures)

pub returns-else-some_full : goal.returns-else-some_full
returns-else-some_full c = rw (rw (c.from-k.ensures, c.from.ensures) at (sym c.some_full.ensures ∙ c.if-some_full.false)) c.if-some_full.false
