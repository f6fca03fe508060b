-- An accepted step of a node, which posts a message and sets the node's cell: what its writer may do, and what it leaves.
use mathlib.Core.Path.{◌≡◌, ap, sym, subst, ◌∙◌}
use mathlib.Core.List.{List}
use Prim.Native.Nat.{ℕ, suc, ◌*◌, ◌<◌}
use lib.Dec.{ltb→lt}
use lib.ListN.{length}
use Rattle.rules.specs.Words.{Msg, Cell, Pair}
use Rattle.rules.specs.Lent.{Memory, memory, patch, stored, encode, stored_cell, place, room_of, read}
use Rattle.rules.specs.Steps.{Call, c2av, acts, without, effect, write}
use Rattle.rules.specs.Replies.{reply, after}
use Rattle.rules.specs.declared.House.{House}
use Rattle.rules.specs.declared.Message.{Message}
use Rattle.rules.specs.declared.Cell as cell_as_stored
use Rattle.rules.proofs.Codec.{At}
use Rattle.board.specs.Asked.{Postable, Posted}
use Rattle.pairs.specs.Pairs.{Packed}
use Rattle.kept.specs.Kept.{Whole}
use Rattle.kept.proofs.Sim.{Ready, Sendable}
use Rattle.kept.proofs.Ready.{passed, ready, form}
use Rattle.kept.proofs.Stay.{done}
use Rattle.judge.proofs.Past.{whole_sized}
use Rattle.write.proofs.Acts.{postable, posted, cell-after}

-- ---- a cell's struct with other fields is how the cell with those fields is stored

module _ (o : cell_as_stored.Cell) (d : Cell) (e : o ≡ stored_cell d) where
  pub voted : (b v : ℕ) → record { maxbal = b; maxvbal = b; maxvval = v; count = o.count; pairs = o.pairs } ≡ stored_cell (record { max_bal = suc b; max_vbal = suc b; max_vval = v; pairs = d.pairs })
  voted b v = λ i. record { maxbal = b; maxvbal = b; maxvval = v; count = (e i).count; pairs = (e i).pairs }

  pub sent : (b k : ℕ) (l : List ℕ) (ps : List Pair) → Packed ps k l
      → record { maxbal = b; maxvbal = o.maxvbal; maxvval = o.maxvval; count = k; pairs = l } ≡ stored_cell (record { max_bal = suc b; max_vbal = d.max_vbal; max_vval = d.max_vval; pairs = ps })
  sent b k l ps q = λ i. record { maxbal = b; maxvbal = (e i).maxvbal; maxvval = (e i).maxvval; count = q.count i; pairs = q.bytes i }

-- ---- the step

-- a call that was accepted, whose effect is to post x and to set the cell of row r and node n to d
pub record Acts (m : Memory) (c : Call) (x : Msg) (r n : ℕ) (d : Cell) : Type 0 where
  pub whole : Whole m
  pub sends : Sendable m x
  pub seat : At (room_of m.house) r n
  pub leaves : after m c ≡ write m (acts x r n d)

pub accepted : (m : Memory) (c : Call) (x : Msg) (r n : ℕ) (d : Cell) → Whole m → reply m c ≡ 0 → effect (read m) c ≡ acts x r n d → Acts m c x r n d
accepted m c x r n d w z e =
    let y = subst (Ready m) e (ready m c (passed m c w.typed z)) in
    record { whole = w; sends = y.0; seat = y.1.0; leaves = done m c z ∙ ap (write m) e }

module _ {m : Memory} {c : Call} {x : Msg} {r n : ℕ} {d : Cell} (a : Acts m c x r n d) where
  pub may_post : (y : Message) → y ≡ stored x → Postable m.house m.board y
  may_post y e = postable m x y e (whole_sized m a.whole) (form m a.whole.form) a.sends

  -- what its two writers leave
  pub acted : (y : Message) (k : ℕ) (s : cell_as_stored.Cell) (h' : House) (b' c' : List ℕ) → y ≡ stored x → k ≡ place m.house.rows r n → s ≡ stored_cell d
      → Posted m.house m.board y h' b' → c' ≡ patch m.cells (36 * k) (encode s)
      → memory h' b' c' m.heard ≡ after m c
  unfolding write
  acted y k s h' b' c' e g f p q = cell-after m x r n d s k (posted m x y e a.sends.small p) f g q ∙ sym a.leaves

-- an accepted 2av finds fewer than sixteen pairs for other tubes
pub relay_room : (m : Memory) (r n b v : ℕ) → Whole m → reply m (c2av r n b v) ≡ 0 → length (without v ((read m).cells r n).pairs) < 16
relay_room m r n b v w z = ltb→lt (length (without v ((read m).cells r n).pairs)) 16 (passed m (c2av r n b v) w.typed z).needs.1.1.1.1.0
