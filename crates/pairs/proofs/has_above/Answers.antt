-- Some pair reaches: not every pair misses.
use mathlib.Core.Path.{ap, ◌∙◌}
use mathlib.Core.Bool.{not, ◌&&◌}
use lib.Dec.{eqb}
use Rattle.rules.specs.Lent.{pairs_of}
use Rattle.rules.specs.Steps.{reaches}
use Rattle.pairs.proofs.Arrays.{any_not}
use Rattle.pairs.proofs.has_above.Goals as goal

pub returns : goal.returns
returns c =
    let a = c.args in
    ap not c.each.ensures ∙ any_not (λ p. eqb p.0 a.tube.0 && reaches a.c p.1) (pairs_of a.count a.pairs)
