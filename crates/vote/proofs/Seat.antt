-- A node's cell in whole memory, as the code reads it: at k, the struct o.
use mathlib.Core.Path.{◌≡◌, ap, sym, ◌∙◌}
use Prim.Native.Nat.{ℕ, ◌+◌, ◌*◌, ◌≤◌, ◌<◌}
use lib.ListN.{length}
use Rattle.rules.specs.Words.{height_of, Cell}
use Rattle.rules.specs.Lent.{Memory, pairs_of, cell_at, meaning_cell, stored_cell, place, room_of, read}
use Rattle.rules.specs.declared.Cell as cell_as_stored
use Rattle.rules.proofs.Codec.{At}
use Rattle.kept.specs.Kept.{Whole}
use Rattle.kept.proofs.Cells.{fine}
use Rattle.kept.proofs.Ready.{form, cell_good}
use Rattle.judge.proofs.Past.{whole_sized, bounds}
use Rattle.judge.proofs.Cells.{place-below, cell-long, cell-read, cell_plain}

module _ {m : Memory} {r n : ℕ} (w : Whole m) (p : At (room_of m.house) r n) (k : ℕ) (e : k ≡ place m.house.rows r n) where
  -- its bytes may be read and written
  pub reachable : (k < 512) × (36 * k + 36 ≤ length m.cells)
  reachable = rw e (place-below m r n p (bounds m w), cell-long m r n p (whole_sized m w))

  module _ (o : cell_as_stored.Cell) (q : o ≡ cell_at m.cells k) where
    means : meaning_cell o ≡ (read m).cells r n
    means = ap meaning_cell (q ∙ ap (cell_at m.cells) e) ∙ sym (cell-read m (form m w.form) r n p)

    -- the struct is how the room's cell is stored
    pub own-cell : o ≡ stored_cell ((read m).cells r n)
    own-cell = q ∙ ap (cell_at m.cells) e ∙ sym (ap stored_cell (cell-read m (form m w.form) r n p) ∙ cell_plain m (form m w.form) r n p)

    pub own_height : height_of o.maxbal ≡ ((read m).cells r n).max_bal
    own_height = ap (λ (c : Cell). c.max_bal) means

    pub own_pairs : pairs_of o.count o.pairs ≡ ((read m).cells r n).pairs
    own_pairs = ap (λ (c : Cell). c.pairs) means

    pub few : o.count ≤ 16
    few = rw (ap (λ (c : cell_as_stored.Cell). c.count) own-cell) (fine m.house.tubes ((read m).cells r n) (cell_good m r n (form m w.form) p)).pairs
