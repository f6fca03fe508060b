-- Memory that the gate lets through ends with the closing lines, one for each tube on intake.
use mathlib.Core.Path.{◌≡◌, refl, ◌∙◌}
use mathlib.Core.Bool.{Bool, true, false, ◌&&◌}
use mathlib.Core.List.{[], ◌∷◌}
use native.Mathlib.Omega.{arith}
use lib.Dec.{T}
use Rattle.rules.specs.Tests.{first}
use Rattle.rules.specs.Lent.{room_of, read, counts, long, in_form}
use Rattle.kept.proofs.Ready.{form, length_intake}
use Rattle.demand.proofs.Lines.{on_intake}
use Rattle.closing.proofs.Lines.{one-own, totals_tell}
use Rattle.ending.specs.Laws.{Closed, OwnLine, AddsUp}
use Rattle.ending.proofs.Ending.{let_through}

-- no test at the gate fails
passes : (x y z : Bool) → T x → T y → T z → first ((x, 17) ∷ (y && true, 5) ∷ (z, 17) ∷ []) ≡ 0
passes true true true p q r = refl
passes true true false p q r = absurd r
passes true false z p q r = absurd q
passes false y z p q r = absurd p

pub closed : Closed
closed m w = let_through m (passes (counts m.house) (long m) (in_form m) w.counts w.long w.form)

pub own_line : OwnLine
own_line m t h k = one-own (room_of m.house) (read m) t h (omega (arith, length_intake m))

pub adds_up : AddsUp
adds_up m n e v w g t = let tells = totals_tell (room_of m.house) (read m) n e v w t in
    (tells.scanned ∙ length_intake m, tells.whole (on_intake m (form m g.form)))
