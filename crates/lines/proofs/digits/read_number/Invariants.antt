-- `read_number` meets its contract: each turn takes one digit more into the number, and what is read from there is the same.
use Rattle.std.proofs.Common.{◌≡◌, drop}
use Rattle.lines.specs.Decimal.{onward, number_at}
use Rattle.lines.proofs.digits.read_number.Given as goal

abbrev pub invariant-loop-end : goal.invariant-loop-end
invariant-loop-end l = number_at l.s l.at ≡ onward (drop l.end l.s) l.value l.end
