-- Known safe: part i of the gathered sets, or else part (ii).
use Rattle.safe.proofs.Tellers.{known_i, known_ii}
use Rattle.safe.proofs.known_safe.Goals as goal

pub returns-then-some_full : goal.returns-then-some_full
returns-then-some_full c cells = known_i _ _ _ _ _ _ _ _ c.requires (rw c.from.ensures at c.gathered-t.ensures) cells c.from-2.ensures c.some_full.ensures c.if-some_full.true

pub returns-else-some_full : goal.returns-else-some_full
returns-else-some_full c cells = known_ii _ _ _ _ _ _ _ _ c.requires (rw c.from.ensures at c.gathered-t.ensures) cells c.from-2.ensures c.some_full.ensures c.if-some_full.false c.safe_below.ensures
