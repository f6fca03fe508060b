-- What an accepted call lets the writers do, and that what they leave is what the rules write.
use mathlib.Core.Path.{◌≡◌, ap, sym, ◌∙◌}
use mathlib.Core.Bool.{true, false}
use mathlib.Core.List.{List}
use Prim.Native.Nat.{ℕ, suc, ◌*◌, ◌≤◌, ◌<◌}
use native.Mathlib.Omega.{arith}
use borrow.Author.Tests.{le-leb, lt-leb}
use lib.ListN.{length}
use Rattle.rules.specs.Words.{Msg, Cell, Room}
use Rattle.rules.specs.Lent.{Memory, memory, patch, stored, board_of, cell_at, encode, stored_cell, place, room_of, read}
use Rattle.rules.specs.Steps.{Call, scan, has, scanned_in, tube_for, sends, effect, post, write_cell, write}
use Rattle.rules.specs.Replies.{reply, after}
use Rattle.rules.specs.declared.House.{House}
use Rattle.rules.specs.declared.Cell as cell_as_stored
use Rattle.rules.specs.declared.Message.{Message}
use Rattle.rules.proofs.Codec.{Small, At}
use Rattle.rules.proofs.Spare.{room-post}
use Rattle.board.specs.Asked.{Postable, Posted}
use Rattle.board.proofs.Bytes.{own-stored, means_stored}
use Rattle.kept.proofs.Sim.{Sized, Sendable, entered}
use Rattle.kept.proofs.Ready.{Form, length_intake}
use Rattle.kept.proofs.Stay.{done}
use Rattle.intake.proofs.Scans.{known_tube}
use Rattle.judge.proofs.Past.{plain_of}
use Rattle.judge.proofs.Cells.{cell-read, cell_plain}

-- ---- a message is posted

module _ (m : Memory) (x : Msg) (k : Message) (e : k ≡ stored x) where
  pub postable : Sized m → Form m → Sendable m x → Postable m.house m.board k
  postable z f s = record {
    board = plain_of m z f;
    own = own-stored x k s.small e;
    capacity = z.capacity;
    room = z.board;
    fresh = λ n. s.place (sym (ap (λ (y : Msg). has y (board_of m.board m.house.count)) (means_stored x k s.small e)) ∙ n);
  }

  pub posted : {h : House} {s : List ℕ} → Small x → Posted m.house m.board k h s → memory h s m.cells m.heard ≡ post m x
  posted f p = p m.cells m.heard ∙ ap (post m) (means_stored x k f e)

pub sent : (m : Memory) (c : Call) (x : Msg) → effect (read m) c ≡ sends x → reply m c ≡ 0 → post m x ≡ after m c
unfolding write
sent m c x f e = sym (done m c e ∙ ap (write m) f)

-- ---- and a cell set

module _ (m : Memory) (x : Msg) (r n : ℕ) (d : Cell) where
  pub cell-after : {h : House} {s t : List ℕ} (k : cell_as_stored.Cell) (j : ℕ) → memory h s m.cells m.heard ≡ post m x → k ≡ stored_cell d
      → j ≡ place m.house.rows r n → t ≡ patch m.cells (36 * j) (encode k) → memory h s t m.heard ≡ write_cell (post m x) r n d
  cell-after {h} {s} {t} k j e f l g =
      let rows : m.house.rows ≡ h.rows = sym (ap (λ (p : Memory). p.house.rows) e ∙ ap (λ (ρ : Room). ρ.rows) (room-post m x)) in
      let at : j ≡ place h.rows r n = l ∙ ap (λ (w : ℕ). place w r n) rows in
      ap (λ (u : List ℕ). memory h s u m.heard) (g ∙ (λ i. patch m.cells (36 * at i) (encode (f i)))) ∙ ap (λ (p : Memory). write_cell p r n d) e

-- a cell whose max_bal is raised: its other bytes are copied
pub raised_as : (m : Memory) (f : Form m) (r n b : ℕ) (p : At (room_of m.house) r n) (k : cell_as_stored.Cell) → k ≡ cell_at m.cells (place m.house.rows r n)
    → record { maxbal = b; maxvbal = k.maxvbal; maxvval = k.maxvval; count = k.count; pairs = k.pairs }
    ≡ stored_cell (let c = (read m).cells r n in record { max_bal = suc b; max_vbal = c.max_vbal; max_vval = c.max_vval; pairs = c.pairs })
raised_as m f r n b p k e =
    let w = e ∙ sym (cell_plain m f r n p) ∙ ap stored_cell (sym (cell-read m f r n p)) in
    λ i. record { maxbal = b; maxvbal = (w i).maxvbal; maxvval = (w i).maxvval; count = (w i).count; pairs = (w i).pairs }

-- ---- a scan

module _ (m : Memory) (a b t : ℕ) (e : t ≡ tube_for (read m).intake a b) where
  pub scan_old : t ≤ m.house.tubes → scanned_in (read m).intake a b ≡ true
  scan_old h = known_tube (read m).intake a b ∙ le-leb (tube_for (read m).intake a b) (length (read m).intake) (omega (arith, length_intake m))

  pub scan_new : m.house.tubes < t → scanned_in (read m).intake a b ≡ false
  scan_new h = known_tube (read m).intake a b ∙ lt-leb (tube_for (read m).intake a b) (length (read m).intake) (omega (arith, length_intake m))

pub old_after : (m : Memory) (a b : ℕ) → reply m (scan a b) ≡ 0 → scanned_in (read m).intake a b ≡ true → m ≡ after m (scan a b)
unfolding write
old_after m a b e k = sym (done m (scan a b) e ∙ rw k)

pub new_after : (m : Memory) (a b : ℕ) → reply m (scan a b) ≡ 0 → scanned_in (read m).intake a b ≡ false → entered m a b ≡ after m (scan a b)
unfolding write
new_after m a b e k = sym (done m (scan a b) e ∙ rw k)
