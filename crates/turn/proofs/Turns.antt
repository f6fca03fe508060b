-- A line's turn by what it asks for: a step is taken and answered, anything else is malformed.
use mathlib.Core.Path.{◌≡◌, refl, sym, ap, subst, ◌∙◌}
use mathlib.Core.List.{List}
use Prim.Native.Nat.{ℕ}
use Rattle.rules.specs.Lent.{Memory}
use Rattle.rules.specs.Replies.{Answer, Did}
use Rattle.step.specs.Given.{call_of}
use Rattle.step.specs.declared.Step as steps
use Rattle.lines.specs.declared.Line.{Line}
use Rattle.lines.specs.declared.Line.TheVariants.{Heading, Step, Bad}
use Rattle.closing.specs.Given.{Wrote}
use Rattle.page.specs.Sheet.{Heads, sheet_of, malformed, answer_print, stepped}
use Rattle.turn.specs.Given.{Took}

-- no step
pub took_none : (h : Heads) (m : Memory) (l : Line) (p : List ℕ) {s s' : List ℕ} {at end : ℕ} → ((x : steps.Step) → l ≡ Step x → ⊥)
    → Wrote s at malformed end s' → Took (stepped h m l p) (sheet_of h m) s at end s'
took_none h m (Heading x) p k w = record { keeps = refl; prints = w }
took_none h m Bad p k w = record { keeps = refl; prints = w }
took_none h m (Step x) p k w = absurd (k x refl)

-- the step x, with the print b of its answer a
pub took_step : (h : Heads) (m : Memory) {l : Line} {x : steps.Step} (p : List ℕ) {a b : Answer} {n : Memory} {s s' : List ℕ} {at end : ℕ} → l ≡ Step x
    → Did m (call_of x p) a n → b ≡ a → Wrote s at (answer_print b) end s' → Took (stepped h m l p) (sheet_of h n) s at end s'
took_step h m {l} {x} p {a} {b} {n} {s} {s'} {at} {end} e d f w = subst (λ (k : Line). Took (stepped h m k p) (sheet_of h n) s at end s') (sym e) taken
  where
    taken : Took (stepped h m (Step x) p) (sheet_of h n) s at end s'
    taken = record {
      keeps = ap (sheet_of h) d.memory;
      prints = subst (λ (k : Answer). Wrote s at (answer_print k) end s') (f ∙ d.answer) w;
    }
