-- "Lent memory": the layouts to the byte, what the bytes mean, in form, and what is spare.
use Rattle.std.specs.Prelude.{◌≡◌, Bool, true, false, not, ◌&&◌, ◌||◌, List, [], ◌∷◌, ◌++◌, ℕ, zero, suc, ◌+◌, ◌-◌, ◌*◌, ◌/◌, ◌%◌, ◌^◌, eqb, leb, ltb, length, get_or, take, drop, set}
use Rattle.std.specs.Int.Bits.{bit_or}
use Rattle.rules.specs.Tests.{pick, all, all_below, distinct, eqs, fit, bit, count, first}
use Rattle.rules.specs.Words.{nodes_in, faulty_in, rows_in, bal_in, tube_in, capacity_in, list_in, height_of, height_byte, Pair, Msg, m1a, m1b, m1c, m2av, m2b, same_msg, Cell, fresh, Room, State}
use Rattle.rules.specs.declared.House.{House}
use Rattle.rules.specs.declared.Message.{Message}
use Rattle.rules.specs.declared.Cell as cell_as_stored
use Rattle.rules.specs.declared.Lent.{Lent}
use Rattle.rules.specs.declared.Kind.{Kind}
use Rattle.rules.specs.declared.Kind.TheVariants.{OneA, OneB, OneC, TwoAv, TwoB}

pub record Memory : Type 0 where
  pub house : House
  pub board : List ℕ
  pub cells : List ℕ
  pub heard : List ℕ

abbrev pub memory : House → List ℕ → List ℕ → List ℕ → Memory
memory h b c k = record { house = h; board = b; cells = c; heard = k }

-- the byte that a message's kind is stored as
abbrev pub kind_byte : Kind → ℕ
kind_byte OneA = 1
kind_byte OneB = 2
kind_byte OneC = 3
kind_byte TwoAv = 4
kind_byte TwoB = 5

-- memory as a call is lent it to read
abbrev pub lent : Lent → Memory
lent m = memory m.house.now m.board.now m.cells.now m.heard.now

-- the part of w bytes numbered k of an area
abbrev pub window : ℕ → ℕ → List ℕ → List ℕ
window w k s = take w (drop (w * k) s)

-- the area s with the bytes ys at a
abbrev pub patch : List ℕ → ℕ → List ℕ → List ℕ
patch s a ys = take a s ++ (ys ++ drop (length ys) (drop a s))

-- ---- sixteen (tube, ballot) pairs, unused ones 0

abbrev pub pairs_of : ℕ → List ℕ → List Pair
pairs_of zero s = []
pairs_of (suc n) s = (get_or s 0 0, get_or s 1 0) ∷ pairs_of n (drop 2 s)

abbrev pub flatten : List Pair → List ℕ
flatten [] = []
flatten (p ∷ ps) = p.0 ∷ p.1 ∷ flatten ps

abbrev pub pair_bytes : List Pair → List ℕ
pair_bytes ps = fit 32 (flatten ps)

-- ---- Messages, 40 bytes each: kind (1 to 5), row, ballot, node, tube, mbal, mval, pair count, sixteen pairs

abbrev pub msg_of : List ℕ → Message
msg_of s = record { kind = get_or s 0 0; row = get_or s 1 0; bal = get_or s 2 0; node = get_or s 3 0; tube = get_or s 4 0; mbal = get_or s 5 0; mval = get_or s 6 0; count = get_or s 7 0; pairs = take 32 (drop 8 s) }

abbrev pub bytes_of : Message → List ℕ
bytes_of m = m.kind ∷ m.row ∷ m.bal ∷ m.node ∷ m.tube ∷ m.mbal ∷ m.mval ∷ m.count ∷ m.pairs

-- the message numbered k of a board
unfoldable pub msg_at : List ℕ → ℕ → Message
msg_at s k = msg_of (window 40 k s)

-- what a stored message means
unfoldable pub meaning : Message → Msg
meaning x = pick (eqb x.kind 1) (m1a x.row x.bal)
    (pick (eqb x.kind 2) (m1b x.row x.bal x.node (height_of x.mbal) x.mval (pairs_of x.count x.pairs))
    (pick (eqb x.kind 3) (m1c x.row x.bal x.tube)
    (pick (eqb x.kind 4) (m2av x.row x.bal x.node x.tube)
    (m2b x.row x.bal x.node x.tube))))

-- how a message is stored: fields its kind lacks and unused pairs are 0
abbrev pub line : ℕ → ℕ → ℕ → ℕ → ℕ → ℕ → ℕ → List Pair → Message
line k r b n v x y ps = record { kind = k; row = r; bal = b; node = n; tube = v; mbal = x; mval = y; count = length ps; pairs = pair_bytes ps }

unfoldable pub stored : Msg → Message
stored (m1a r b) = line 1 r b 0 0 0 0 []
stored (m1b r b n x y ps) = line 2 r b n 0 (height_byte x) y ps
stored (m1c r b v) = line 3 r b 0 v 0 0 []
stored (m2av r b n v) = line 4 r b n v 0 0 []
stored (m2b r b n v) = line 5 r b n v 0 0 []

-- the first n messages of a board, in order
abbrev pub board_of : List ℕ → ℕ → List Msg
board_of s zero = []
board_of s (suc n) = board_of s n ++ (meaning (msg_at s n) ∷ [])

-- ---- Cells, 36 bytes for each node and row: max_bal, max_vbal, max_vval, pair count, sixteen pairs

abbrev pub cell_of : List ℕ → cell_as_stored.Cell
cell_of s = record { maxbal = get_or s 0 0; maxvbal = get_or s 1 0; maxvval = get_or s 2 0; count = get_or s 3 0; pairs = take 32 (drop 4 s) }

abbrev pub encode : cell_as_stored.Cell → List ℕ
encode c = c.maxbal ∷ c.maxvbal ∷ c.maxvval ∷ c.count ∷ c.pairs

-- the cell numbered k of the cells
abbrev pub cell_at : List ℕ → ℕ → cell_as_stored.Cell
cell_at s k = cell_of (window 36 k s)

abbrev pub meaning_cell : cell_as_stored.Cell → Cell
meaning_cell c = record { max_bal = height_of c.maxbal; max_vbal = height_of c.maxvbal; max_vval = c.maxvval; pairs = pairs_of c.count c.pairs }

abbrev pub stored_cell : Cell → cell_as_stored.Cell
stored_cell c = record { maxbal = height_byte c.max_bal; maxvbal = height_byte c.max_vbal; maxvval = c.max_vval; count = length c.pairs; pairs = pair_bytes c.pairs }

-- N × R cells, node by node: the number of a node's cell in a row
abbrev pub place : ℕ → ℕ → ℕ → ℕ
place rows r n = n * rows + (r - 1)

-- ---- Heard, 128 bytes a node: in byte k / 8 rounded down, bit k mod 8, bit 0 the lowest

unfoldable pub heard_at : List ℕ → ℕ → ℕ → Bool
heard_at s n k = bit (get_or s (128 * n + k / 8) 0) (k % 8)

abbrev pub set_bit : List ℕ → ℕ → ℕ → List ℕ
set_bit s n k = set s (128 * n + k / 8) (bit_or (get_or s (128 * n + k / 8) 0) (2 ^ (k % 8)))

-- ---- House record: tables, counts, intake, foreign marks

abbrev pub room_of : House → Room
room_of h = record { nodes = h.nodes; faulty = h.faulty; rows = h.rows; capacity = h.capacity; quorums = take h.listed h.quorums; weaks = take h.backers h.weaks }

abbrev pub intake_of : List ℕ → List ℕ → ℕ → List (ℕ × ℕ)
intake_of a b zero = []
intake_of a b (suc n) = intake_of a b n ++ ((get_or a n 0, get_or b n 0) ∷ [])

-- the house record with other counts, marks and intake
abbrev pub house : House → ℕ → ℕ → ℕ → List ℕ → List ℕ → House
house h n marks tubes a b = record {
  nodes = h.nodes;
  faulty = h.faulty;
  rows = h.rows;
  capacity = h.capacity;
  listed = h.listed;
  quorums = h.quorums;
  backers = h.backers;
  weaks = h.weaks;
  tubes = tubes;
  stations = a;
  serials = b;
  marks = marks;
  count = n;
}

abbrev pub raised : House → ℕ → House
raised h n = house h n h.marks h.tubes h.stations h.serials

abbrev pub marked : House → ℕ → House
marked h n = house h h.count (bit_or h.marks (2 ^ n)) h.tubes h.stations h.serials

-- what every value of the struct has
pub record Typed (h : House) : Type 0 where
  pub stations : length h.stations ≡ 64
  pub serials : length h.serials ≡ 64

-- ---- what memory means

abbrev pub row_in : Room → ℕ → Bool
row_in ρ r = leb 1 r && leb r ρ.rows

abbrev pub in_room : Room → ℕ → ℕ → Bool
in_room ρ r n = row_in ρ r && ltb n ρ.nodes

abbrev pub cells_of : Room → List ℕ → ℕ → ℕ → Cell
cells_of ρ s r n = pick (in_room ρ r n) (meaning_cell (cell_at s (place ρ.rows r n))) fresh

abbrev pub heard_of : Room → List ℕ → ℕ → ℕ → Bool
heard_of ρ s n k = (ltb n ρ.nodes && ltb k 1024) && heard_at s n k

abbrev pub read : Memory → State
read m = record {
  board = board_of m.board m.house.count;
  cells = cells_of (room_of m.house) m.cells;
  heard = heard_of (room_of m.house) m.heard;
  marks = bit m.house.marks;
  intake = intake_of m.house.stations m.house.serials m.house.tubes;
}

-- ---- the tables pass opening (what 2, 3 and 4 refuse)

-- 2: a set names an absent node
abbrev pub present : Room → ℕ → Bool
present ρ q = ltb q (2 ^ ρ.nodes)

-- 3: two quorums, or one with itself, share f nodes or fewer
abbrev pub share : Room → ℕ → ℕ → Bool
share ρ p q = ltb ρ.faulty (count (λ n. bit p n && bit q n) ρ.nodes)

-- 4: a weak set has f nodes or fewer
abbrev pub strong : Room → ℕ → Bool
strong ρ w = ltb ρ.faulty (count (bit w) ρ.nodes)

abbrev pub tables : Room → List (Bool × ℕ)
tables ρ = (all (present ρ) ρ.quorums && all (present ρ) ρ.weaks, 2)
    ∷ (all (λ p. all (share ρ p) ρ.quorums) ρ.quorums, 3)
    ∷ (all (strong ρ) ρ.weaks, 4) ∷ []

-- ---- in form

-- its counts are in limits
unfoldable pub counts : House → Bool
counts h = ((nodes_in h.nodes && faulty_in h.faulty) && (rows_in h.rows && capacity_in h.capacity))
    && ((list_in h.listed && list_in h.backers) && (leb h.tubes 64 && leb h.count h.capacity))

-- an area is not too short: 40 × capacity, 36 × N × R and 128 × N bytes
unfoldable pub long : Memory → Bool
long m = leb (40 * m.house.capacity) (length m.board) && (leb (36 * (m.house.nodes * m.house.rows)) (length m.cells) && leb (128 * m.house.nodes) (length m.heard))

-- "Pairs ascend strictly by ballot, then tube."
abbrev pub below : Pair → Pair → Bool
below p q = ltb p.1 q.1 || (eqb p.1 q.1 && ltb p.0 q.0)

abbrev pub ascend : List Pair → Bool
ascend [] = true
ascend (p ∷ []) = true
ascend (p ∷ q ∷ l) = below p q && ascend (q ∷ l)

abbrev pub pairs_in : List Pair → Bool
pairs_in l = (leb (length l) 16 && all (λ p. tube_in p.0 && bal_in p.1) l) && ascend l

-- a message's fields are in their limits; none is allowed for a 1b's mbal (height 0) and mval (0)
unfoldable pub limits : Room → Msg → Bool
limits ρ (m1a r b) = row_in ρ r && bal_in b
limits ρ (m1b r b n x y l) = (row_in ρ r && bal_in b) && (ltb n ρ.nodes && (leb x 16 && (leb y 64 && pairs_in l)))
limits ρ (m1c r b v) = (row_in ρ r && bal_in b) && tube_in v
limits ρ (m2av r b n v) = (row_in ρ r && bal_in b) && (ltb n ρ.nodes && tube_in v)
limits ρ (m2b r b n v) = (row_in ρ r && bal_in b) && (ltb n ρ.nodes && tube_in v)

-- each non-zero tube of a message is on intake, where k tubes were scanned
unfoldable pub scanned : ℕ → Msg → Bool
scanned k (m1a r b) = true
scanned k (m1b r b n x y l) = leb y k && all (λ p. leb p.0 k) l
scanned k (m1c r b v) = leb v k
scanned k (m2av r b n v) = leb v k
scanned k (m2b r b n v) = leb v k

-- the bytes are those of the message that they mean: a known kind, lacking fields 0, unused pairs 0
unfoldable pub plain_msg : List ℕ → ℕ → Bool
plain_msg s k = eqs (window 40 k s) (bytes_of (stored (meaning (msg_at s k))))

unfoldable pub good_msg : Room → ℕ → Msg → Bool
good_msg ρ k x = limits ρ x && scanned k x

-- a cell's bytes are those of the cell that they mean, its fields in their limits, its tubes on intake
unfoldable pub plain_cell : List ℕ → ℕ → Bool
plain_cell s k = eqs (window 36 k s) (encode (stored_cell (meaning_cell (cell_at s k))))

unfoldable pub good_cell : ℕ → Cell → Bool
good_cell k c = (leb c.max_bal 16 && leb c.max_vbal 16) && ((leb c.max_vval 64 && leb c.max_vval k) && (pairs_in c.pairs && all (λ p. leb p.0 k) c.pairs))

abbrev pub cell_form : ℕ → List ℕ → ℕ → Bool
cell_form t s k = plain_cell s k && good_cell t (meaning_cell (cell_at s k))

abbrev pub is1b : Msg → Bool
is1b (m1a r b) = false
is1b (m1b r b n x y ps) = true
is1b (m1c r b v) = false
is1b (m2av r b n v) = false
is1b (m2b r b n v) = false

-- the message numbered k is a 1b
abbrev pub is_1b_at : List Msg → ℕ → Bool
is_1b_at [] k = false
is_1b_at (x ∷ l) zero = is1b x
is_1b_at (x ∷ l) (suc k) = is_1b_at l k

abbrev pub same_scan : ℕ × ℕ → ℕ × ℕ → Bool
same_scan p q = eqb p.0 q.0 && eqb p.1 q.1

-- the house record's tables pass opening; intake scans differ from one another; marks name only existing nodes
unfoldable pub house_form : Memory → Bool
house_form m = eqb (first (tables (room_of m.house))) 0 && (distinct same_scan (read m).intake && ltb m.house.marks (2 ^ m.house.nodes))

-- every message field is as above; each non-zero tube is on intake; pairs ascend; no two messages are equal
unfoldable pub board_form : Memory → Bool
board_form m = all_below (plain_msg m.board) m.house.count && (all (good_msg (room_of m.house) m.house.tubes) (read m).board && distinct same_msg (read m).board)

-- every cell field is as above
unfoldable pub cells_form : Memory → Bool
cells_form m = all_below (cell_form m.house.tubes m.cells) (m.house.nodes * m.house.rows)

-- heard bits stand only at 1b messages
abbrev pub bit_form : Memory → ℕ → ℕ → Bool
bit_form m n k = not (heard_at m.heard n k) || is_1b_at (read m).board k

unfoldable pub heard_form : Memory → Bool
heard_form m = all_below (λ n. all_below (bit_form m n) 1024) m.house.nodes

unfoldable pub in_form : Memory → Bool
in_form m = house_form m && (board_form m && (cells_form m && heard_form m))

-- ---- spare bytes: those after the last message, and those past 36 × N × R or 128 × N bytes of an area

-- all that is not spare
pub record Used : Type 0 where
  pub house : House
  pub board_length : ℕ
  pub cells_length : ℕ
  pub heard_length : ℕ
  pub board : List ℕ
  pub cells : List ℕ
  pub heard : List ℕ

abbrev pub used : Memory → Used
used m = let h = m.house in record {
  house = h;
  board_length = length m.board;
  cells_length = length m.cells;
  heard_length = length m.heard;
  board = take (40 * h.count) m.board;
  cells = take (36 * (h.nodes * h.rows)) m.cells;
  heard = take (128 * h.nodes) m.heard;
}
