-- The gate's number tells which text ends a sheet, and past the gate the book's rows are what the closing lines are made of.
use mathlib.Core.Path.{◌≡◌, ap, sym, ◌∙◌}
use mathlib.Core.Bool.{Bool}
use mathlib.Core.List.{List}
use Prim.Native.Nat.{ℕ, ◌-◌, ◌≤◌}
use native.Mathlib.Omega.{arith}
use borrow.Author.Tests.{ne_eqb}
use lib.Dec.{eqb}
use lib.ListN.{length}
use Rattle.rules.specs.Lent.{Memory, patch, room_of, read}
use Rattle.rules.specs.Steps.{ask}
use Rattle.rules.specs.Book.{row_tube}
use Rattle.rules.specs.Replies.{gate, stop_of}
use Rattle.rules.proofs.Sound.{clear}
use Rattle.kept.proofs.Ready.{form}
use Rattle.demand.proofs.Lines.{on_intake}
use Rattle.tell.specs.declared.Rows.{Rows}
use Rattle.tell.specs.Lines.{Reached}
use Rattle.tell.proofs.Past.{found, past_countable}
use Rattle.closing.specs.Printed.{answer_text, closing_of}
use Rattle.closing.specs.Given.{Book, Given}
use Rattle.closing.proofs.Intake.{given}
use Rattle.page.specs.Sheet.{closes}

module _ (m : Memory) where
  -- a text was written that is what the sheet closes with
  pub closes_with : (s : List ℕ) {ys s' : List ℕ} {r : ℕ} → closes m ≡ ys → r ≡ length ys → s' ≡ patch s 0 ys → r ≤ 8192
      → (r ≡ length (closes m)) × ((s' ≡ patch s 0 (closes m)) × (r ≤ 8192))
  closes_with s e l a h = (l ∙ ap length (sym e), (a ∙ ap (patch s 0) (sym e), h))

  -- refused at the gate
  pub refused : (k : ℕ) → k ≡ found m (ask 0) → ¬ (k ≡ 0) → closes m ≡ answer_text k 0
  unfolding closes
  refused k e n = rw (← e, ne_eqb k 0 n)

  -- let through
  module _ (e : found m (ask 0) ≡ 0) where
    pub let_through : closes m ≡ closing_of (room_of m.house) (read m)
    unfolding closes
    let_through = rw e

    rows : (b : Rows) → Reached (room_of m.house) (read m) b → Book (room_of m.house) (read m) b.tubes b.reach
    rows b g = record {
      reached = g.reach;
      holds = λ r h k. g.tubes (r - 1) (omega arith) ∙ ap (row_tube (room_of m.house) (read m)) (omega arith);
      scanned = on_intake m (form m (clear (gate m (ask 0)) tt e).1.1.0);
    }

    pub given_rows : (b : Rows) (split : Bool) → Reached (room_of m.house) (read m) b → split ≡ eqb (stop_of b.stop) 2
        → Given (room_of m.house) (read m) b.tubes b.reach split m.house.stations m.house.serials m.house.tubes
    given_rows b split g s = let c = past_countable m (ask 0) e in
        given m b.tubes b.reach split c.rows c.tubes (rows b g) (s ∙ ap (λ (k : ℕ). eqb k 2) g.stop)
