-- What an effect does to memory is what it does in the room.
use mathlib.Core.Path.{◌≡◌, refl, ap, sym, subst, ◌∙◌, fun_ext}
use mathlib.Core.Bool.{Bool, true, false, or_comm}
use mathlib.Core.List.{List, [], ◌∷◌, ◌++◌}
use Prim.Native.Nat.{ℕ, suc, ◌+◌, ◌*◌, ◌≤◌, ◌<◌}
use native.Mathlib.Omega.{arith}
use lib.Dec.{eqb}
use lib.ListN.{length, set}
use Rattle.rules.specs.Tests.{pick, bit}
use Rattle.rules.specs.Words.{Msg, Cell, Room, State}
use Rattle.rules.specs.Lent.{Memory, patch, bytes_of, stored, board_of, meaning_cell, stored_cell, house, raised, marked, room_of, read}
use Rattle.rules.specs.Steps.{has, scanned_in, Effect, stays, scans, sends, acts, hears, posts, send, with_cell, with_mark, put, post, write_cell, write}
use Rattle.rules.proofs.Nodes.{mark_bit}
use Rattle.rules.proofs.Area.{length-patch}
use Rattle.rules.proofs.Codec.{Small, board_grows, At, cells_set, heard_set, intake_grows}
use Rattle.rules.proofs.Forms.{long_bytes}
use Rattle.rules.proofs.Spare.{room-post}

-- ---- what is needed of memory, and of an effect

pub record Sized (m : Memory) : Type 0 where
  pub board : 40 * m.house.capacity ≤ length m.board
  pub cells : 36 * (m.house.nodes * m.house.rows) ≤ length m.cells
  pub heard : 128 * m.house.nodes ≤ length m.heard
  pub count : m.house.count ≤ m.house.capacity
  pub capacity : m.house.capacity ≤ 1024
  pub stations : length m.house.stations ≡ 64
  pub serials : length m.house.serials ≡ 64

-- a message that the codec carries, and a place for it
pub record Sendable (m : Memory) (x : Msg) : Type 0 where
  pub small : Small x
  pub place : has x (board_of m.board m.house.count) ≡ false → m.house.count < m.house.capacity

abbrev pub Ready : Memory → Effect → Type 0
Ready m stays = Unit
Ready m (scans a b) = scanned_in (read m).intake a b ≡ false → m.house.tubes < 64
Ready m (sends x) = Sendable m x
Ready m (acts x r n c) = Sendable m x × (At (room_of m.house) r n × (meaning_cell (stored_cell c) ≡ c))
Ready m (hears n k) = (n < m.house.nodes) × (k < 1024)
Ready m (posts x n) = Sendable m x

-- memory with a message after the last, and memory with a tube after the last
abbrev pub added : Memory → Msg → Memory
added m x = record {
  house = raised m.house (suc m.house.count);
  board = patch m.board (40 * m.house.count) (bytes_of (stored x));
  cells = m.cells;
  heard = m.heard;
}

abbrev pub entered : Memory → ℕ → ℕ → Memory
entered m a b = record {
  house = house m.house m.house.count m.house.marks (suc m.house.tubes) (set m.house.stations m.house.tubes a) (set m.house.serials m.house.tubes b);
  board = m.board;
  cells = m.cells;
  heard = m.heard;
}

-- what holds of memory as it was and of memory with the new one holds of what is left
pub post_by : (P : Memory → Type 0) (m : Memory) (x : Msg) → P m → (has x (read m).board ≡ false → P (added m x)) → P (post m x)
unfolding post
post_by P m x f g = go (has x (read m).board) refl
  where
    go : (b : Bool) → has x (read m).board ≡ b → P (pick b m (added m x))
    go true e = f
    go false e = g e

pub scan_by : (P : Memory → Type 0) (m : Memory) (a b : ℕ) → P m → (scanned_in (read m).intake a b ≡ false → P (entered m a b)) → P (write m (scans a b))
unfolding write
scan_by P m a b f g = go (scanned_in (read m).intake a b) refl
  where
    go : (x : Bool) → scanned_in (read m).intake a b ≡ x → P (pick x m (entered m a b))
    go true e = f
    go false e = g e

module _ (m : Memory) (z : Sized m) where
  abbrev B : List Msg
  B = board_of m.board m.house.count

  module _ (x : Msg) (f : Sendable m x) where
    pub room_for : has x B ≡ false → 40 * m.house.count + 40 ≤ length m.board
    room_for e = let h = f.place e in omega arith

    pub post_sim : read (post m x) ≡ send (read m) x
    unfolding post
    post_sim = go (has x B) refl
      where
        go : (b : Bool) → has x B ≡ b → read (pick b m (added m x))
            ≡ record { board = pick b B (B ++ (x ∷ [])); cells = (read m).cells; heard = (read m).heard; marks = (read m).marks; intake = (read m).intake }
        go true e = refl
        go false e = λ i. record { board = board_grows m.board x m.house.count f.small (room_for e) i; cells = (read m).cells; heard = (read m).heard; marks = (read m).marks; intake = (read m).intake }

    -- the board stays as long as it was
    pub added-long : has x B ≡ false → length (added m x).board ≡ length m.board
    added-long e = let h = room_for e in length-patch m.board (bytes_of (stored x)) (40 * m.house.count) (omega (arith, long_bytes x))

    pub post_sized : Sized (post m x)
    post_sized = post_by Sized m x z (λ e. let h = f.place e in let l = added-long e in
        record { board = omega (arith, z.board); cells = z.cells; heard = z.heard; count = omega arith; capacity = z.capacity; stations = z.stations; serials = z.serials })

  pub cell_sim : (r n : ℕ) (c : Cell) → At (room_of m.house) r n → meaning_cell (stored_cell c) ≡ c → read (write_cell m r n c) ≡ with_cell (read m) r n c
  cell_sim r n c p back = λ i. record { board = (read m).board; cells = cells_set (room_of m.house) m.cells r n c p z.cells back i; heard = (read m).heard; marks = (read m).marks; intake = (read m).intake }

mark_sim : (m : Memory) (n : ℕ) → read (record { house = marked m.house n; board = m.board; cells = m.cells; heard = m.heard }) ≡ with_mark (read m) n
mark_sim m n = λ i. record { board = (read m).board; cells = (read m).cells; heard = (read m).heard; marks = fun_ext (λ a. mark_bit m.house.marks n a ∙ or_comm (bit m.house.marks a) (eqb a n)) i; intake = (read m).intake }

pub sim : (m : Memory) (e : Effect) → Sized m → Ready m e → read (write m e) ≡ put (read m) e
unfolding write
sim m stays z h = refl
sim m (scans a b) z h = go (scanned_in (read m).intake a b) refl
  where
    go : (x : Bool) → scanned_in (read m).intake a b ≡ x → read (pick x m (entered m a b))
        ≡ record { board = (read m).board; cells = (read m).cells; heard = (read m).heard; marks = (read m).marks; intake = pick x (read m).intake ((read m).intake ++ ((a, b) ∷ [])) }
    go true e = refl
    go false e = let l = h e in λ i. record { board = (read m).board; cells = (read m).cells; heard = (read m).heard; marks = (read m).marks; intake = intake_grows m.house.stations m.house.serials m.house.tubes a b (omega (arith, z.stations)) (omega (arith, z.serials)) i }
sim m (sends x) z h = post_sim m z x h
sim m (acts x r n c) z h =
    cell_sim (post m x) (post_sized m z x h.0) r n c (subst (λ (ρ : Room). At ρ r n) (sym (room-post m x)) h.1.0) h.1.1
    ∙ ap (λ (s : State). with_cell s r n c) (post_sim m z x h.0)
sim m (hears n k) z h = λ i. record { board = (read m).board; cells = (read m).cells; heard = heard_set (room_of m.house) m.heard n k h.0 h.1 z.heard i; marks = (read m).marks; intake = (read m).intake }
sim m (posts x n) z h = mark_sim (post m x) n ∙ ap (λ (s : State). with_mark s n) (post_sim m z x h)
