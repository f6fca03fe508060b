-- The ones of the low bits are the members.
use native.Mathlib.Omega.{arith}
use Rattle.tables.proofs.Sets.{power_fits, members_count}
use Rattle.tables.proofs.members.Goals as goal

pub returns : goal.returns
returns c = rw (power_fits c.args.nodes 16 (omega arith)) (members_count c.args.nodes c.args.set)
