-- The node's bit is set beside the others.
use borrow.Author.Rules.{rules}
use Rattle.house.proofs.Bits.{own-bit}
use Rattle.house.proofs.with_node.Goals as goal

pub returns : goal.returns
returns c = rw (own-bit c.args.node.0 (search rules))
