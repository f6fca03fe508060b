-- `find_in` meets its contract: each turn passes one form that does not fit.
use Rattle.std.proofs.Common.{◌≡◌, drop, map}
use Rattle.lines.specs.Grammar.{found}
use Rattle.lines.specs.Held.{line_by}
use Rattle.lines.proofs.trying.find_in.Given as goal

abbrev pub invariant-loop-text : goal.invariant-loop-text
invariant-loop-text l = found (map (λ p. (p.0.now, line_by p.1)) l.table) l.s ≡ found (map (λ p. (p.0.now, line_by p.1)) (drop l.text-index l.table)) l.s
