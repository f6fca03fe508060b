-- Writing a byte: a store is a patch of one byte.
use Rattle.rules.proofs.Area.{set-patch}
use borrow.Author.Rules.{rules}
use Rattle.image.proofs.numbers.write_u8.Goals as goal

pub returns : goal.returns
returns c = set-patch c.args.out.now c.args.at c.args.x (search rules)
