-- A node's cell in memory in form: where it is read, how it is stored, and the 1b that it tells.
use mathlib.Core.Path.{◌≡◌, ap, sym, ◌∙◌}
use mathlib.Core.List.{List}
use Prim.Native.Nat.{ℕ, ◌+◌, ◌*◌, ◌≤◌, ◌<◌}
use native.Mathlib.Nat.{mul-le-mul}
use native.Mathlib.Omega.{arith}
use mathlib.Core.Bool.{Bool}
use lib.Dec.{T, leb}
use lib.ListN.{length}
use lib.Seq.{take_all}
use Rattle.rules.specs.Words.{height_of, m1b, Cell}
use Rattle.rules.specs.Lent.{Memory, window, stored, flatten, cell_of, cell_at, encode, meaning_cell, stored_cell, place, room_of, read, plain_cell, good_cell, cell_form, cells_form}
use Rattle.rules.specs.Steps.{told}
use Rattle.rules.specs.declared.Cell as cell_as_stored
use Rattle.rules.specs.declared.House.{House}
use Rattle.rules.specs.declared.Message.{Message}
use Rattle.rules.proofs.Sound.{and_l}
use Rattle.rules.proofs.Codec.{Small, length-fit, At, in_at, place_in}
use Rattle.rules.proofs.Scan.{eqs_means}
use Rattle.kept.proofs.Lists.{all-below}
use Rattle.kept.proofs.Cells.{fine}
use Rattle.kept.proofs.Sim.{Sized}
use Rattle.kept.proofs.Ready.{Form, cell_good}
use Rattle.judge.specs.Narrow.{Seated}
use Rattle.judge.proofs.Past.{Bounds}

-- a plain cell: its struct is that of what it means
plain_means : (s : List ℕ) (k : ℕ) → T (plain_cell s k) → stored_cell (meaning_cell (cell_at s k)) ≡ cell_at s k
unfolding plain_cell
plain_means s k t =
    let c = stored_cell (meaning_cell (cell_at s k)) in
    let e : window 36 k s ≡ encode c = eqs_means (window 36 k s) (encode c) t in
    sym (ap cell_of e ∙ rw (take_all 32 c.pairs (omega (arith, length-fit 32 (flatten (meaning_cell (cell_at s k)).pairs)))))

-- the 1b that a cell tells, and the cell after it: fields are copied
abbrev pub promised : ℕ → ℕ → ℕ → cell_as_stored.Cell → Message
promised r b n c = record { kind = 2; row = r; bal = b; node = n; tube = 0; mbal = c.maxvbal; mval = c.maxvval; count = c.count; pairs = c.pairs }

told-stored : (c : cell_as_stored.Cell) (r n b : ℕ) → stored_cell (meaning_cell c) ≡ c
    → stored (m1b r b n (meaning_cell c).max_vbal (meaning_cell c).max_vval (meaning_cell c).pairs) ≡ promised r b n c
unfolding stored
told-stored c r n b e = λ i. record { kind = 2; row = r; bal = b; node = n; tube = 0; mbal = (e i).maxvbal; mval = c.maxvval; count = (e i).count; pairs = (e i).pairs }

-- a row and a node of the house, as the contract and as the lemmas say it
pub seated : (h : House) (r n : ℕ) → At (room_of h) r n → Seated h r n
seated h r n p = (p.low, p.high, p.node)

pub at_seat : (h : House) (r n : ℕ) → Seated h r n → At (room_of h) r n
at_seat h r n p = record { low = p.0; high = p.1; node = p.2 }

-- the place of a cell
module _ (m : Memory) (r n : ℕ) (p : At (room_of m.house) r n) where
  abbrev at : ℕ
  at = place m.house.rows r n

  pub inside : at < m.house.nodes * m.house.rows
  inside = place_in m.house.nodes m.house.rows r n p.low p.high p.node

  pub place-below : Bounds m → at < 512
  place-below b = let h : m.house.nodes * m.house.rows ≤ 8 * 64 = mul-le-mul b.nodes b.rows in omega (arith, inside)

  -- its bytes may be read
  pub cell-long : Sized m → 36 * at + 36 ≤ length m.cells
  cell-long z = omega (arith, inside, z.cells)

module _ (m : Memory) (f : Form m) (r n : ℕ) (p : At (room_of m.house) r n) where
  abbrev own : cell_as_stored.Cell
  own = cell_at m.cells (place m.house.rows r n)

  pub cell-read : (read m).cells r n ≡ meaning_cell own
  cell-read = rw (in_at (room_of m.house) r n p)

  pub cell_plain : stored_cell (meaning_cell own) ≡ own
  unfolding cells_form
  cell_plain = let at = place m.house.rows r n in plain_means m.cells at (and_l (plain_cell m.cells at) (good_cell m.house.tubes (meaning_cell own)) (all-below (cell_form m.house.tubes m.cells) (m.house.nodes * m.house.rows) f.cells at (inside m r n p)))

  pub told_as : (b : ℕ) → promised r b n own ≡ stored (told (read m) r n b)
  told_as b = sym (ap (λ (c : Cell). stored (m1b r b n c.max_vbal c.max_vval c.pairs)) cell-read ∙ told-stored own r n b cell_plain)

  pub told_small : (b : ℕ) → Small (told (read m) r n b)
  told_small b = let g = fine m.house.tubes ((read m).cells r n) (cell_good m r n f p) in (omega (arith, g.vbal), g.pairs)

  -- what a judge reads of the cell
  pub height_reads : (b : ℕ) {z : Bool} {k : cell_as_stored.Cell} → k ≡ own → z ≡ leb (height_of k.maxbal) b → z ≡ leb ((read m).cells r n).max_bal b
  height_reads b e f = f ∙ ap (λ (k : cell_as_stored.Cell). leb (height_of k.maxbal) b) e ∙ sym (ap (λ (k : Cell). leb k.max_bal b) cell-read)

  pub told_reads : (b : ℕ) {k : cell_as_stored.Cell} {x : Message} → k ≡ own → x ≡ promised r b n k → x ≡ stored (told (read m) r n b)
  told_reads b e f = f ∙ ap (promised r b n) e ∙ told_as b
