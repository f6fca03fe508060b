-- `put` meets its contract: the set goes after the last that is held, where there is room.
use native.Mathlib.Omega.{arith}
use Rattle.page.proofs.Sets.{next-set, no_room}
use borrow.Author.Rules.{rules}
use Rattle.page.proofs.Listed.put.Goals as goal

pub returns-then-self-lt-HELD : goal.returns-then-self-lt-HELD
returns-then-self-lt-HELD c = let a = c.args in next-set a.self.now.sets a.self.now.count a.set (search rules) (omega (arith, c.if-self-lt-HELD.true))

pub returns-else-self-lt-HELD : goal.returns-else-self-lt-HELD
returns-else-self-lt-HELD c = let a = c.args in no_room a.self.now.sets a.self.now.count a.set (search rules) (omega (arith, c.if-self-lt-HELD.false))
