-- What memory past the gate lets a judge ask, and what numbers that passed test 6 are.
use mathlib.Core.Path.{◌≡◌, sym, ◌∙◌}
use mathlib.Core.Bool.{Bool, true, ◌&&◌, ◌||◌}
use mathlib.Core.List.{[]}
use Prim.Native.Nat.{ℕ, ◌≤◌, ◌<◌}
use native.Mathlib.Omega.{arith}
use lib.Dec.{T, leb, ltb, leb→le, ltb→lt}
use Rattle.rules.specs.Tests.{all, all_below, distinct}
use Rattle.rules.specs.Words.{Msg, Room, m1a, m1c, same_msg, bal_in, scan_in}
use Rattle.rules.specs.Lent.{Memory, meaning, stored, line, board_of, room_of, row_in, read, counts, limits, plain_msg, good_msg, board_form}
use Rattle.rules.specs.Steps.{has, fits}
use Rattle.rules.specs.declared.Message.{Message}
use Rattle.rules.proofs.Sound.{and_l, and_r}
use Rattle.rules.proofs.Codec.{Small, length_board, At}
use Rattle.board.specs.Asked.{Plain}
use Rattle.board.proofs.Bytes.{means_stored}
use Rattle.kept.specs.Kept.{Whole}
use Rattle.kept.proofs.Sim.{Sized}
use Rattle.kept.proofs.Ready.{sized, form, Form, at_row}

-- ---- memory

pub whole_sized : (m : Memory) → Whole m → Sized m
whole_sized m w = sized m w.typed w.counts w.long

-- the counts that bound a place
pub record Bounds (m : Memory) : Type 0 where
  pub nodes : m.house.nodes ≤ 8
  pub rows : m.house.rows ≤ 64
  pub tubes : m.house.tubes ≤ 64

pub bounds : (m : Memory) → Whole m → Bounds m
unfolding counts
bounds m w = let t = w.counts in record { nodes = search (leb→le, and_l, and_r) depth 9; rows = search (leb→le, and_l, and_r) depth 9; tubes = search (leb→le, and_l, and_r) depth 9 }

plain_form : (m : Memory) → T (board_form m) → T (all_below (plain_msg m.board) m.house.count)
unfolding board_form
plain_form m t = and_l (all_below (plain_msg m.board) m.house.count) (all (good_msg (room_of m.house) m.house.tubes) (read m).board && distinct same_msg (read m).board) t

pub plain_of : (m : Memory) → Sized m → Form m → Plain m.board m.house.count
plain_of m z f = record { count = omega (arith, z.count, z.capacity); long = omega (arith, z.board, z.count); plain = plain_form m f.board }

pub plain : (m : Memory) → Whole m → Plain m.board m.house.count
plain m w = plain_of m (whole_sized m w) (form m w.form)

-- a message fits, by the house record's count
pub fits_means : (m : Memory) (x : Msg) (k : Message) {r : Bool} → Small x → k ≡ stored x
    → r ≡ has (meaning k) (board_of m.board m.house.count) || ltb m.house.count m.house.capacity
    → r ≡ fits (room_of m.house) (read m) x
fits_means m x k s e f =
    f ∙ (λ i. has (means_stored x k s e i) (board_of m.board m.house.count) || ltb (sym (length_board m.board m.house.count) i) m.house.capacity)

-- a 1a and a 1c of narrowed numbers, by the numbers that were given
pub lead_fits : (m : Memory) (r b : ℕ) (k : Message) {z : Bool} {x y : ℕ} → (x ≡ r) × (y ≡ b) → k ≡ line 1 x y 0 0 0 0 []
    → z ≡ has (meaning k) (board_of m.board m.house.count) || ltb m.house.count m.house.capacity
    → z ≡ fits (room_of m.house) (read m) (m1a r b)
unfolding stored
lead_fits m r b k e f = fits_means m (m1a r b) k tt (f ∙ (λ i. line 1 (e.0 i) (e.1 i) 0 0 0 0 []))

pub offer_fits : (m : Memory) (r b v : ℕ) (k : Message) {z : Bool} {x y w : ℕ} → (x ≡ r) × (y ≡ b) × (w ≡ v) → k ≡ line 3 x y 0 w 0 0 []
    → z ≡ has (meaning k) (board_of m.board m.house.count) || ltb m.house.count m.house.capacity
    → z ≡ fits (room_of m.house) (read m) (m1c r b v)
unfolding stored
offer_fits m r b v k e f = fits_means m (m1c r b v) k tt (f ∙ (λ i. line 3 (e.0 i) (e.1 i) 0 (e.2 i) 0 0 []))

-- ---- numbers within limits

-- a seat's numbers, narrowed, are within limits as the given ones are
pub seat_in : (ρ : Room) {r n b row node ballot : ℕ} → (r ≡ row) × (b ≡ ballot) × (n ≡ node)
    → ((row_in ρ row && bal_in ballot) && ltb node ρ.nodes) ≡ true → ((row_in ρ r && bal_in b) && ltb n ρ.nodes) ≡ true
seat_in ρ e f = (λ i. (row_in ρ (e.0 i) && bal_in (e.1 i)) && ltb (e.2 i) ρ.nodes) ∙ f

pub lead_says : (ρ : Room) (r b : ℕ) → limits ρ (m1a r b) ≡ true → (r ≤ ρ.rows) × (b ≤ 15)
unfolding limits
lead_says ρ r b e = let t : T (row_in ρ r && bal_in b) = rw e tt in (search (leb→le, and_l, and_r) depth 9, search (leb→le, and_l, and_r) depth 9)

pub offer_says : (ρ : Room) (r b v : ℕ) → limits ρ (m1c r b v) ≡ true → (r ≤ ρ.rows) × (b ≤ 15) × (v ≤ 64)
unfolding limits
offer_says ρ r b v e = let t : T ((row_in ρ r && bal_in b) && (leb 1 v && leb v 64)) = rw e tt in
    (search (leb→le, and_l, and_r) depth 9, search (leb→le, and_l, and_r) depth 9, search (leb→le, and_l, and_r) depth 9)

pub hear_says : (n k a b : ℕ) → (ltb n a && ltb k b) ≡ true → (n < a) × (k < b)
hear_says n k a b e = let t : T (ltb n a && ltb k b) = rw e tt in (search (ltb→lt, and_l) depth 9, search (ltb→lt, and_r) depth 9)

pub scan_says : (a b : ℕ) → scan_in a b ≡ true → a ≤ 255
scan_says a b e = let t : T (scan_in a b) = rw e tt in search (leb→le, and_l) depth 9

-- the place of a node's cell
pub promise-says : (ρ : Room) (r n b : ℕ) → ((row_in ρ r && bal_in b) && ltb n ρ.nodes) ≡ true → At ρ r n × (b ≤ 15)
promise-says ρ r n b e = let p = at_row ρ r n b (rw e tt) in (p.0, leb→le b 15 p.1)
