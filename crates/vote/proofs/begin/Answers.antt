-- The first three tests: numbers within limits, a tube on intake, and a ballot that is not below max_bal.
use Rattle.std.proofs.Common.{◌≡◌, Bool, true, false, [], ◌∷◌, refl, ap, sym, ◌∙◌, arith, leb, ℕ, ◌+◌, ◌≤◌}
use native.Mathlib.Numerals.{add-one}
use Rattle.rules.specs.Tests.{first}
use Rattle.rules.specs.Words.{height_of, m2av}
use Rattle.rules.specs.Lent.{Memory, lent, cell_at, place, room_of, read, limits}
use Rattle.rules.specs.declared.Bid.{Bid}
use Rattle.rules.specs.declared.Cell as cell_as_stored
use Rattle.rules.specs.declared.Node.{Node}
use Rattle.rules.proofs.Codec.{At}
use Rattle.kept.specs.Kept.{Whole}
use Rattle.kept.proofs.Ready.{form}
use Rattle.judge.specs.Narrow.{Cast}
use Rattle.judge.proofs.Cells.{seated, height_reads}
use Rattle.vote.specs.Begun.{begun}
use Rattle.vote.proofs.Says.{says-begun, same_begun, same_six, same_seven, inside}
use Rattle.vote.proofs.begin.Goals as goal

-- test 6 passed, and n and d are the given numbers, narrowed
module _ (m : Memory) {row node ballot tube : ℕ} {n : Node} {d : Bid} (z : limits (room_of m.house) (m2av row ballot node tube) ≡ true) (e : Cast row node ballot tube (n, d)) where
  within : At (room_of m.house) d.row.0 n.0 × (d.ballot.0 ≤ 15) × (d.tube.0 ≤ 64)
  within = inside m _ _ _ _ (same_six m e ∙ z)

  -- what the other two answer together
  tests : Whole m → {o : cell_as_stored.Cell} → o ≡ cell_at m.cells (place m.house.rows d.row.0 n.0) → (y : Bool) → leb tube m.house.tubes ≡ true
      → leb (height_of o.maxbal) (d.ballot.0 + 1) ≡ y → first ((y, 8) ∷ []) ≡ begun m row node ballot tube
  tests w q y f g =
      says-begun m _ _ _ _ true true y (same_six m e ∙ z) (same_seven m e ∙ f)
      (ap (leb ((read m).cells d.row.0 n.0).max_bal) (sym (add-one d.ballot.0)) ∙ sym (height_reads m (form m w.form) d.row.0 n.0 within.0 _ q refl) ∙ g) ∙ same_begun m e

pub returns-in_default-clause-number : goal.returns-in_default-clause-number
returns-in_default-clause-number c = says-begun (lent c.args.m) c.args.row c.args.node c.args.ballot c.args.tube false _ _ c.in_default.ensures refl refl

pub returns-then-not-on_intake-clause-number : goal.returns-then-not-on_intake-clause-number
returns-then-not-on_intake-clause-number c =
    says-begun (lent c.args.m) c.args.row c.args.node c.args.ballot c.args.tube true false _ c.in-Some.ensures.0 (sym c.on_intake.ensures ∙ c.if-not-on_intake.true) refl

pub own_cell-c-requires-clause-seat : goal.own_cell-c-requires-clause-seat
own_cell-c-requires-clause-seat c = seated (lent c.args.m).house _ _ (within (lent c.args.m) c.in-Some.ensures.0 c.in-Some.ensures.1).0

pub overflow_add-bid : goal.overflow_add-bid
overflow_add-bid c = omega (arith, within (lent c.args.m) c.in-Some.ensures.0 c.in-Some.ensures.1)

pub returns-then-not-height_at_most-clause-number : goal.returns-then-not-height_at_most-clause-number
returns-then-not-height_at_most-clause-number c =
    tests (lent c.args.m) c.in-Some.ensures.0 c.in-Some.ensures.1 c.requires c.own_cell-c.ensures false (sym c.on_intake.ensures ∙ c.if-not-on_intake.false) (sym c.height_at_most.ensures ∙ c.if-not-height_at_most.true)

pub returns-clause-number : goal.returns-clause-number
returns-clause-number c =
    tests (lent c.args.m) c.in-Some.ensures.0 c.in-Some.ensures.1 c.requires c.own_cell-c.ensures true (sym c.on_intake.ensures ∙ c.if-not-on_intake.false) (sym c.height_at_most.ensures ∙ c.if-not-height_at_most.false)
