-- Spare bytes: no call looks at them, and a call changes them only where it appends a message.
use mathlib.Core.Path.{◌≡◌, refl, sym, ap, ◌∙◌, fun_ext}
use mathlib.Core.Bool.{Bool, true, false, not, ◌&&◌, ◌||◌}
use mathlib.Core.Logic.{◌⊎◌, inl, inr}
use mathlib.Core.List.{List, [], ◌∷◌, ◌++◌, append_assoc}
use Prim.Native.Nat.{ℕ, zero, suc, ◌+◌, ◌*◌, ◌/◌, ◌%◌, ◌^◌, ◌≤◌, ◌<◌}
use native.Mathlib.Nat.{zero-mul, suc-mul, mul-suc, mul-le-mul_left}
use native.Mathlib.Omega.{arith}
use borrow.Author.Tests.{eqb-true, ltb-true}
use lib.Bits.{bit_or}
use lib.Dec.{T, eqb, leb, ltb, leb→le, ltb→lt}
use lib.ListN.{length, get_or, take, drop, set, length-append, length-drop, length-set, take-append-drop}
use lib.Seq.{take-take, take_at, length-take-le, take-append-le, drop-append-le, get_or-take, take-set-lt, drop-set-lt}
use Rattle.rules.specs.Tests.{pick, all, all_below, distinct, eqs, bit, many, first}
use Rattle.rules.specs.Words.{Msg, m1a, m1c, m2av, m2b, same_msg, Cell, fresh, Room, State}
use Rattle.rules.specs.Lent.{Memory, window, patch, msg_of, bytes_of, msg_at, meaning, stored, board_of, cell_of, encode, cell_at, meaning_cell, stored_cell, place, heard_at, set_bit, room_of, intake_of, house, raised, marked, row_in, in_room, cells_of, heard_of, read, tables, counts, long, limits, plain_msg, good_msg, plain_cell, good_cell, cell_form, is_1b_at, house_form, board_form, cells_form, bit_form, heard_form, in_form, Used, used}
use Rattle.rules.specs.Steps.{Call, scan, c1a, c1b, c1c, c2av, c2b, hear, foreign, ask, book, has, fits, scanned_in, told, posted, Effect, stays, scans, sends, acts, hears, posts, effect, post, write_cell, write}
use Rattle.rules.specs.Book.{book_of, waiting_of}
use Rattle.rules.specs.Replies.{fields, needs, rules, areas, tests, reply, change, after, bare, tell, answer, rows_after, waiting_after, room_counts, open_reply, house_of, opened, opening}
use Rattle.rules.specs.Promises.{open_tests, SpareUnread, SpareUnbooked, SpareUnopened, Spared, SpareStays, SpareStaysOpening, RoomStays}
use Rattle.rules.specs.declared.House.{House}
use Rattle.rules.proofs.Sound.{and_l, and_r, or_cases, Clear, clear}
use Rattle.rules.proofs.Area.{length-patch, patch_same, patch-below, patch_above}
use Rattle.rules.proofs.Codec.{at_in, place_in, length_board}
use Rattle.rules.proofs.Forms.{long_bytes, long-cell}
use Rattle.rules.proofs.Refusals.{numbered}
use Rattle.rules.proofs.Each.{each_same}

-- ---- what is read of an area lies in its used part

part_take : (a w b : ℕ) (s : List ℕ) → a + w ≤ b → take w (drop a (take b s)) ≡ take w (drop a s)
part_take zero w b s h = take-take w b s (omega arith)
part_take (suc a) w zero s h = absurd (omega arith)
part_take (suc a) w (suc b) [] h = refl
part_take (suc a) w (suc b) (x ∷ s) h = part_take a w b s (omega arith)

window-used : (w k n : ℕ) (s : List ℕ) → k < n → window w k (take (w * n) s) ≡ window w k s
window-used w k n s h = let q : w * suc k ≤ w * n = mul-le-mul_left w h in part_take (w * k) w (w * n) s (omega (arith, mul-suc w k))

msg_used : (s : List ℕ) (n k : ℕ) → k < n → msg_at (take (40 * n) s) k ≡ msg_at s k
unfolding msg_at
msg_used s n k h = ap msg_of (window-used 40 k n s h)

board_used : (s : List ℕ) (n k : ℕ) → k ≤ n → board_of (take (40 * n) s) k ≡ board_of s k
board_used s n zero h = refl
board_used s n (suc k) h = λ i. board_used s n k (omega arith) i ++ (meaning (msg_used s n k h i) ∷ [])

cells_used : (ρ : Room) (s : List ℕ) → cells_of ρ (take (36 * (ρ.nodes * ρ.rows)) s) ≡ cells_of ρ s
cells_used ρ s = fun_ext (λ r. fun_ext (λ n. go r n (in_room ρ r n) refl))
  where
    s' : List ℕ
    s' = take (36 * (ρ.nodes * ρ.rows)) s

    go : (r n : ℕ) (b : Bool) → in_room ρ r n ≡ b → pick b (meaning_cell (cell_at s' (place ρ.rows r n))) fresh ≡ pick b (meaning_cell (cell_at s (place ρ.rows r n))) fresh
    go r n true e = let u = at_in ρ r n (rw e tt) in
        ap (λ (w : List ℕ). meaning_cell (cell_of w)) (window-used 36 (place ρ.rows r n) (ρ.nodes * ρ.rows) s (place_in ρ.nodes ρ.rows r n u.low u.high u.node))
    go r n false e = refl

bit-used : (s : List ℕ) (nodes n k : ℕ) → n < nodes → k < 1024 → heard_at (take (128 * nodes) s) n k ≡ heard_at s n k
unfolding heard_at
bit-used s nodes n k h l = ap (λ (x : ℕ). bit x (k % 8)) (get_or-take (128 * nodes) s (128 * n + k / 8) 0 (omega arith))

heard_used : (ρ : Room) (s : List ℕ) → heard_of ρ (take (128 * ρ.nodes) s) ≡ heard_of ρ s
heard_used ρ s = fun_ext (λ n. fun_ext (λ k. go n k (ltb n ρ.nodes) refl (ltb k 1024) refl))
  where
    go : (n k : ℕ) (x : Bool) → ltb n ρ.nodes ≡ x → (y : Bool) → ltb k 1024 ≡ y → (x && y) && heard_at (take (128 * ρ.nodes) s) n k ≡ (x && y) && heard_at s n k
    go n k true p true q = bit-used s ρ.nodes n k (ltb-true n ρ.nodes p) (ltb-true k 1024 q)
    go n k true p false q = refl
    go n k false p y q = refl

-- the memory without its spare bytes
abbrev clean : Used → Memory
clean u = record { house = u.house; board = u.board; cells = u.cells; heard = u.heard }

read-used : (m : Memory) → read (clean (used m)) ≡ read m
read-used m = λ i. record {
  board = board_used m.board m.house.count m.house.count (omega arith) i;
  cells = cells_used (room_of m.house) m.cells i;
  heard = heard_used (room_of m.house) m.heard i;
  marks = bit m.house.marks;
  intake = intake_of m.house.stations m.house.serials m.house.tubes;
}

form_used : (m : Memory) → in_form (clean (used m)) ≡ in_form m
unfolding in_form house_form board_form cells_form heard_form plain_msg plain_cell msg_at
form_used m = λ i. house_form m && (board i && (cells i && heard i))
  where
    B : (read (clean (used m))).board ≡ (read m).board
    B = ap (λ (s : State). s.board) (read-used m)

    plain : all_below (plain_msg (take (40 * m.house.count) m.board)) m.house.count ≡ all_below (plain_msg m.board) m.house.count
    plain = each_same (plain_msg (take (40 * m.house.count) m.board)) (plain_msg m.board) m.house.count
        (λ k l. ap (λ (w : List ℕ). eqs w (bytes_of (stored (meaning (msg_of w))))) (window-used 40 k m.house.count m.board l))

    board : board_form (clean (used m)) ≡ board_form m
    board = λ i. plain i && (all (good_msg (room_of m.house) m.house.tubes) (B i) && distinct same_msg (B i))

    cells : cells_form (clean (used m)) ≡ cells_form m
    cells = each_same (cell_form m.house.tubes (take (36 * (m.house.nodes * m.house.rows)) m.cells)) (cell_form m.house.tubes m.cells) (m.house.nodes * m.house.rows)
        (λ k l. ap (λ (w : List ℕ). eqs w (encode (stored_cell (meaning_cell (cell_of w)))) && good_cell m.house.tubes (meaning_cell (cell_of w))) (window-used 36 k (m.house.nodes * m.house.rows) m.cells l))

    heard : heard_form (clean (used m)) ≡ heard_form m
    heard = each_same (λ n. all_below (bit_form (clean (used m)) n) 1024) (λ n. all_below (bit_form m n) 1024) m.house.nodes
        (λ n l. each_same (bit_form (clean (used m)) n) (bit_form m n) 1024
        (λ k j i. not (bit-used m.heard m.house.nodes n k l j i) || is_1b_at (B i) k))

-- ---- so the tests, the answer and the change are the same

module _ (m m' : Memory) (p : used m ≡ used m') where
  house_same : m.house ≡ m'.house
  house_same = λ i. (p i).house

  read_same : read m ≡ read m'
  read_same = sym (read-used m) ∙ ap (λ (u : Used). read (clean u)) p ∙ read-used m'

  form_same : in_form m ≡ in_form m'
  form_same = sym (form_used m) ∙ ap (λ (u : Used). in_form (clean u)) p ∙ form_used m'

  long_same : long m ≡ long m'
  unfolding long
  long_same = λ i. leb (40 * (p i).house.capacity) (p i).board_length && (leb (36 * ((p i).house.nodes * (p i).house.rows)) (p i).cells_length && leb (128 * (p i).house.nodes) (p i).heard_length)

  reply_same : (c : Call) → reply m c ≡ reply m' c
  unfolding reply
  reply_same c = λ i. first ((counts (house_same i), 17) ∷ (long_same i && areas (house_same i) c, 5) ∷ (form_same i, 17) ∷ rules (room_of (house_same i)) (read_same i) c)

  answer_same : (c : Call) → answer m c ≡ answer m' c
  unfolding answer
  answer_same c = λ i. pick (eqb (reply_same c i) 0) (tell (room_of (house_same i)) (read_same i) c) (bare (reply_same c i))

  change_same : (c : Call) → change m c ≡ change m' c
  unfolding change
  change_same c = λ i. pick (eqb (reply_same c i) 0) (effect (read_same i) c) stays

pub spare_unbooked : SpareUnbooked
unfolding rows_after waiting_after
spare_unbooked m m' p q u = (
  λ i. pick (eqb (reply_same m m' u (book p q) i) 0) (patch p 0 (book_of (room_of (house_same m m' u i)) (read_same m m' u i))) p,
  λ i. pick (eqb (reply_same m m' u (book p q) i) 0) (patch q 0 (waiting_of (room_of (house_same m m' u i)) (read_same m m' u i))) q,
)

-- ---- where a change writes

-- a new message has its forty bytes
abbrev Open : Memory → Msg → Type 0
Open m x = has x (board_of m.board m.house.count) ≡ false → 40 * m.house.count + 40 ≤ length m.board

-- a cell has its thirty-six
record Placed (m : Memory) (r n : ℕ) : Type 0 where
  inside : place m.house.rows r n < m.house.nodes * m.house.rows
  long : 36 * (m.house.nodes * m.house.rows) ≤ length m.cells

abbrev Inside : Memory → Effect → Type 0
Inside m stays = Unit {0}
Inside m (scans a b) = Unit {0}
Inside m (sends x) = Open m x
Inside m (acts x r n c) = Open m x × Placed m r n
Inside m (hears n k) = (n < m.house.nodes) × (k < 1024)
Inside m (posts x n) = Open m x

-- what the first tests say of a call that passes
record Passed (m : Memory) (c : Call) : Type 0 where
  board : 40 * m.house.capacity ≤ length m.board
  cells : 36 * (m.house.nodes * m.house.rows) ≤ length m.cells
  count : m.house.count ≤ m.house.capacity
  capacity : m.house.capacity ≤ 1024
  fields : T (fields (room_of m.house) (read m) c)
  needs : Clear (needs (room_of m.house) (read m) c)

passed : (m : Memory) (c : Call) → reply m c ≡ 0 → Passed m c
unfolding reply counts long
passed m c e =
    let z = clear (tests m c) (numbered m c) e in
    let p = z.0 in
    let q = and_l (long m) (areas m.house c) z.1.0 in
    record {
      board = search (leb→le, and_l, and_r) depth 9;
      cells = search (leb→le, and_l, and_r) depth 9;
      count = search (leb→le, and_l, and_r) depth 9;
      capacity = search (leb→le, and_l, and_r) depth 9;
      fields = z.1.1.1.0;
      needs = z.1.1.1.1.1;
    }

module _ (m : Memory) (c : Call) (z : Passed m c) where
  open_for : (x : Msg) → T (fits (room_of m.house) (read m) x) → Open m x
  open_for x t e = go (or_cases (has x (read m).board) (ltb (length (read m).board) m.house.capacity) t)
    where
      go : T (has x (read m).board) ⊎ T (ltb (length (read m).board) m.house.capacity) → 40 * m.house.count + 40 ≤ length m.board
      go (inl u) = absurd (rw e at u)
      go (inr u) = let l = ltb→lt (length (read m).board) m.house.capacity u in omega (arith, length_board m.board m.house.count)

  placed_at : (r n : ℕ) → T (row_in (room_of m.house) r) → T (ltb n m.house.nodes) → Placed m r n
  placed_at r n s t =
      let a : 1 ≤ r = search (leb→le, and_l, and_r) depth 5 in
      let b : r ≤ m.house.rows = search (leb→le, and_l, and_r) depth 5 in
      record { inside = place_in m.house.nodes m.house.rows r n a b (ltb→lt n m.house.nodes t); long = z.cells }

inside_done : (m : Memory) (c : Call) → Passed m c → Inside m (effect (read m) c)
unfolding fields limits
inside_done m (scan a b) z = tt
inside_done m (c1a r b) z = open_for m (c1a r b) z (m1a r b) z.needs.0
inside_done m (c1b r n b) z =
    let f = z.fields in
    (open_for m (c1b r n b) z (told (read m) r n b) z.needs.1.1.0, placed_at m (c1b r n b) z r n (search (and_l, and_r) depth 5) (search (and_l, and_r) depth 5))
inside_done m (c1c r b v) z = open_for m (c1c r b v) z (m1c r b v) z.needs.0
inside_done m (c2av r n b v) z =
    let f = z.fields in
    (open_for m (c2av r n b v) z (m2av r b n v) z.needs.1.1.1.1.1.0, placed_at m (c2av r n b v) z r n (search (and_l, and_r) depth 5) (search (and_l, and_r) depth 5))
inside_done m (c2b r n b v) z =
    let f = z.fields in
    (open_for m (c2b r n b v) z (m2b r b n v) z.needs.1.1.0, placed_at m (c2b r n b v) z r n (search (and_l, and_r) depth 5) (search (and_l, and_r) depth 5))
inside_done m (hear n k) z =
    let u = ltb→lt n m.house.nodes (and_l (ltb n m.house.nodes) (ltb k (length (read m).board)) z.fields) in
    let v = ltb→lt k (length (read m).board) (and_r (ltb n m.house.nodes) (ltb k (length (read m).board)) z.fields) in
    (u, omega (arith, z.count, z.capacity, length_board m.board m.house.count))
inside_done m (foreign p) z = open_for m (foreign p) z (posted p) z.needs.0
inside_done m (ask r) z = tt
inside_done m (book p q) z = tt

inside : (m : Memory) (c : Call) → Inside m (change m c)
unfolding change
inside m c = go (eqb (reply m c) 0) refl
  where
    go : (b : Bool) → eqb (reply m c) 0 ≡ b → Inside m (pick b (effect (read m) c) stays)
    go true e = inside_done m c (passed m c (eqb-true (reply m c) 0 e))
    go false e = tt

-- ---- a change of the used bytes, told of them alone

-- the house record after a new scan
abbrev scanned_house : House → ℕ → ℕ → House
scanned_house h a b = house h h.count h.marks (suc h.tubes) (set h.stations h.tubes a) (set h.serials h.tubes b)

abbrev post_used : Used → Msg → Used
post_used u x = pick (has x (board_of u.board u.house.count)) u (record {
  house = raised u.house (suc u.house.count);
  board_length = u.board_length;
  cells_length = u.cells_length;
  heard_length = u.heard_length;
  board = u.board ++ bytes_of (stored x);
  cells = u.cells;
  heard = u.heard;
})

abbrev cell_used : Used → ℕ → ℕ → Cell → Used
cell_used u r n c = record {
  house = u.house;
  board_length = u.board_length;
  cells_length = u.cells_length;
  heard_length = u.heard_length;
  board = u.board;
  cells = patch u.cells (36 * place u.house.rows r n) (encode (stored_cell c));
  heard = u.heard;
}

abbrev with_house : Used → House → Used
with_house u h = record {
  house = h;
  board_length = u.board_length;
  cells_length = u.cells_length;
  heard_length = u.heard_length;
  board = u.board;
  cells = u.cells;
  heard = u.heard;
}

abbrev bit_used : Used → ℕ → ℕ → Used
bit_used u n k = record {
  house = u.house;
  board_length = u.board_length;
  cells_length = u.cells_length;
  heard_length = u.heard_length;
  board = u.board;
  cells = u.cells;
  heard = set_bit u.heard n k;
}

abbrev write_used : Used → Effect → Used
write_used u stays = u
write_used u (scans a b) = let h = u.house in pick (scanned_in (intake_of h.stations h.serials h.tubes) a b) u
    (with_house u (scanned_house h a b))
write_used u (sends x) = post_used u x
write_used u (acts x r n c) = cell_used (post_used u x) r n c
write_used u (hears n k) = bit_used u n k
write_used u (posts x n) = with_house (post_used u x) (marked (post_used u x).house n)

-- a patch at the end of a used part, and one within it
patch_end : (s new : List ℕ) (a n : ℕ) → a ≤ length s → a + length new ≡ n → take n (patch s a new) ≡ take a s ++ new
patch_end s new a n h e =
    ap (take n) (sym (append_assoc (take a s) new (drop (length new) (drop a s))))
    ∙ take_at (take a s ++ new) (drop (length new) (drop a s)) n (omega (arith, length-append (take a s) new, length-take-le a s h))

patch-append : (t d new : List ℕ) (a : ℕ) → a + length new ≤ length t → patch (t ++ d) a new ≡ patch t a new ++ d
patch-append t d new a h =
    let k : length new ≤ length (drop a t) = simp length-drop (omega arith) in
    rw (take-append-le a t d (omega arith), drop-append-le a t d (omega arith), drop-append-le (length new) (drop a t) d k)
    (sym (append_assoc (take a t) (new ++ drop (length new) (drop a t)) d ∙ ap (λ (z : List ℕ). take a t ++ z) (append_assoc new (drop (length new) (drop a t)) d)))

patch_within : (s new : List ℕ) (a n : ℕ) → a + length new ≤ n → n ≤ length s → take n (patch s a new) ≡ patch (take n s) a new
patch_within s new a n h k =
    let l : length (take n s) ≡ n = length-take-le n s k in
    ap (λ (z : List ℕ). take n (patch z a new)) (sym (take-append-drop n s))
    ∙ ap (take n) (patch-append (take n s) (drop n s) new a (omega arith))
    ∙ take_at (patch (take n s) a new) (drop n s) n (length-patch (take n s) new a (omega arith) ∙ l)

abbrev appended : Memory → Msg → Memory
appended m x = record {
  house = raised m.house (suc m.house.count);
  board = patch m.board (40 * m.house.count) (bytes_of (stored x));
  cells = m.cells;
  heard = m.heard;
}

used-post : (m : Memory) (x : Msg) → Open m x → used (post m x) ≡ post_used (used m) x
unfolding post
used-post m x o =
    go (has x (board_of m.board m.house.count)) refl
    ∙ ap (λ (l : List Msg). pick (has x l) (used m) grown) (sym (board_used m.board m.house.count m.house.count (omega arith)))
  where
    grown : Used
    grown = record {
      house = raised m.house (suc m.house.count);
      board_length = length m.board;
      cells_length = length m.cells;
      heard_length = length m.heard;
      board = take (40 * m.house.count) m.board ++ bytes_of (stored x);
      cells = take (36 * (m.house.nodes * m.house.rows)) m.cells;
      heard = take (128 * m.house.nodes) m.heard;
    }

    go : (b : Bool) → has x (board_of m.board m.house.count) ≡ b → used (pick b m (appended m x)) ≡ pick b (used m) grown
    go true e = refl
    go false e = let h = o e in let l = long_bytes x in λ i. record {
      house = raised m.house (suc m.house.count);
      board_length = length-patch m.board (bytes_of (stored x)) (40 * m.house.count) (omega arith) i;
      cells_length = length m.cells;
      heard_length = length m.heard;
      board = patch_end m.board (bytes_of (stored x)) (40 * m.house.count) (40 * suc m.house.count) (omega arith) (omega arith) i;
      cells = take (36 * (m.house.nodes * m.house.rows)) m.cells;
      heard = take (128 * m.house.nodes) m.heard;
    }

post_placed : (m : Memory) (x : Msg) (r n : ℕ) → Placed m r n → Placed (post m x) r n
unfolding post
post_placed m x r n p = go (has x (board_of m.board m.house.count))
  where
    go : (b : Bool) → Placed (pick b m (appended m x)) r n
    go true = p
    go false = record { inside = p.inside; long = p.long }

used-cell : (m : Memory) (r n : ℕ) (c : Cell) → Placed m r n → used (write_cell m r n c) ≡ cell_used (used m) r n c
used-cell m r n c p =
    let l = long-cell c in
    let a = 36 * place m.house.rows r n in λ i. record {
      house = m.house;
      board_length = length m.board;
      cells_length = length-patch m.cells (encode (stored_cell c)) a (omega (arith, p.inside, p.long)) i;
      heard_length = length m.heard;
      board = take (40 * m.house.count) m.board;
      cells = patch_within m.cells (encode (stored_cell c)) a (36 * (m.house.nodes * m.house.rows)) (omega (arith, p.inside)) p.long i;
      heard = take (128 * m.house.nodes) m.heard;
    }

used-bit : (m : Memory) (n k : ℕ) → n < m.house.nodes → k < 1024 → used (write m (hears n k)) ≡ bit_used (used m) n k
unfolding write
used-bit m n k h l =
    let j = 128 * n + k / 8 in
    let v : j < 128 * m.house.nodes = omega arith in λ i. record {
      house = m.house;
      board_length = length m.board;
      cells_length = length m.cells;
      heard_length = length-set m.heard j (bit_or (get_or m.heard j 0) (2 ^ (k % 8))) i;
      board = take (40 * m.house.count) m.board;
      cells = take (36 * (m.house.nodes * m.house.rows)) m.cells;
      heard = (take-set-lt (128 * m.house.nodes) m.heard j (bit_or (get_or m.heard j 0) (2 ^ (k % 8))) v
          ∙ ap (λ (b : ℕ). set (take (128 * m.house.nodes) m.heard) j (bit_or b (2 ^ (k % 8)))) (sym (get_or-take (128 * m.house.nodes) m.heard j 0 v))) i;
    }

used-write : (m : Memory) (e : Effect) → Inside m e → used (write m e) ≡ write_used (used m) e
unfolding write
used-write m stays w = refl
used-write m (scans a b) w = go (scanned_in (intake_of m.house.stations m.house.serials m.house.tubes) a b)
  where
    go : (x : Bool) → used (pick x m (record { house = scanned_house m.house a b; board = m.board; cells = m.cells; heard = m.heard })) ≡ pick x (used m) (with_house (used m) (scanned_house m.house a b))
    go true = refl
    go false = refl
used-write m (sends x) w = used-post m x w
used-write m (acts x r n c) w = used-cell (post m x) r n c (post_placed m x r n w.1) ∙ ap (λ (u : Used). cell_used u r n c) (used-post m x w.0)
used-write m (hears n k) w = used-bit m n k w.0 w.1
used-write m (posts x n) w = ap (λ (u : Used). with_house u (marked u.house n)) (used-post m x w)

used_same : (m m' : Memory) → used m ≡ used m' → (c : Call) → used (after m c) ≡ used (after m' c)
unfolding after
used_same m m' p c =
    used-write m (change m c) (inside m c)
    ∙ (λ i. write_used (p i) (change_same m m' p c i))
    ∙ sym (used-write m' (change m' c) (inside m' c))

pub spare_unread : SpareUnread
spare_unread m m' c p = record { answer = answer_same m m' p c; change = change_same m m' p c; used = used_same m m' p c }

-- ---- spare bytes stay

pub spared_self : (m : Memory) → Spared m m
spared_self m = record { board_length = refl; cells_length = refl; heard_length = refl; messages = refl; board = refl; cells = refl; heard = refl }

spared_post : (m : Memory) (x : Msg) → Open m x → Spared m (post m x)
unfolding post
spared_post m x o = go (has x (board_of m.board m.house.count)) refl
  where
    go : (b : Bool) → has x (board_of m.board m.house.count) ≡ b → Spared m (pick b m (appended m x))
    go true e = spared_self m
    go false e = let h = o e in let l = long_bytes x in record {
      board_length = length-patch m.board (bytes_of (stored x)) (40 * m.house.count) (omega arith);
      cells_length = refl;
      heard_length = refl;
      messages = patch-below m.board (bytes_of (stored x)) (40 * m.house.count) 0 (40 * m.house.count) (omega arith) (omega arith);
      board = patch_above m.board (bytes_of (stored x)) (40 * m.house.count) (40 * suc m.house.count) (omega arith) (omega arith);
      cells = refl;
      heard = refl;
    }

spared_write : (m : Memory) (e : Effect) → Inside m e → Spared m (write m e)
unfolding write
spared_write m stays w = spared_self m
spared_write m (scans a b) w = go (scanned_in (intake_of m.house.stations m.house.serials m.house.tubes) a b)
  where
    go : (x : Bool) → Spared m (pick x m (record { house = scanned_house m.house a b; board = m.board; cells = m.cells; heard = m.heard }))
    go true = spared_self m
    go false = record { board_length = refl; cells_length = refl; heard_length = refl; messages = refl; board = refl; cells = refl; heard = refl }
spared_write m (sends x) w = spared_post m x w
spared_write m (acts x r n c) w =
    let p = post m x in
    let s = spared_post m x w.0 in
    let k = post_placed m x r n w.1 in
    let l = long-cell c in
    let a = 36 * place p.house.rows r n in record {
      board_length = s.board_length;
      cells_length = length-patch p.cells (encode (stored_cell c)) a (omega (arith, k.inside, k.long)) ∙ s.cells_length;
      heard_length = s.heard_length;
      messages = s.messages;
      board = s.board;
      cells = patch_above p.cells (encode (stored_cell c)) a (36 * (p.house.nodes * p.house.rows)) (omega (arith, k.inside)) (omega (arith, k.inside, k.long)) ∙ s.cells;
      heard = s.heard;
    }
spared_write m (hears n k) w =
    let j = 128 * n + k / 8 in
    let v = bit_or (get_or m.heard j 0) (2 ^ (k % 8)) in record {
      board_length = refl;
      cells_length = refl;
      heard_length = length-set m.heard j v;
      messages = refl;
      board = refl;
      cells = refl;
      heard = drop-set-lt (128 * m.house.nodes) m.heard j v (omega (arith, w.0, w.1));
    }
spared_write m (posts x n) w = let s = spared_post m x w in record {
  board_length = s.board_length;
  cells_length = s.cells_length;
  heard_length = s.heard_length;
  messages = s.messages;
  board = s.board;
  cells = s.cells;
  heard = s.heard;
}

pub spare_stays : SpareStays
unfolding after
spare_stays m c = spared_write m (change m c) (inside m c)

-- ---- the room stays

pub room-post : (m : Memory) (x : Msg) → room_of (post m x).house ≡ room_of m.house
unfolding post
room-post m x = go (has x (board_of m.board m.house.count))
  where
    go : (b : Bool) → room_of (pick b m (appended m x)).house ≡ room_of m.house
    go true = refl
    go false = refl

room-write : (m : Memory) (e : Effect) → room_of (write m e).house ≡ room_of m.house
unfolding write
room-write m stays = refl
room-write m (scans a b) = go (scanned_in (intake_of m.house.stations m.house.serials m.house.tubes) a b)
  where
    go : (x : Bool) → room_of (pick x m (record { house = scanned_house m.house a b; board = m.board; cells = m.cells; heard = m.heard })).house ≡ room_of m.house
    go true = refl
    go false = refl
room-write m (sends x) = room-post m x
room-write m (acts x r n c) = room-post m x
room-write m (hears n k) = refl
room-write m (posts x n) = room-post m x

pub room_stays : RoomStays
unfolding after
room_stays m c = room-write m (change m c)

-- ---- opening

pub length-many : (n : ℕ) (w : List ℕ) → length (many n w) ≡ n * length w
length-many zero w = sym (zero-mul (length w))
length-many (suc n) w = length-append w (many n w) ∙ omega (arith, length-many n w, suc-mul n (length w))

-- what opening writes: every cell, and every heard byte
abbrev fresh_cells : Room → List ℕ
fresh_cells ρ = many (ρ.nodes * ρ.rows) (encode (stored_cell fresh))

abbrev silence : Room → List ℕ
silence ρ = many (128 * ρ.nodes) (0 ∷ [])

length_cells : (ρ : Room) → length (fresh_cells ρ) ≡ 36 * (ρ.nodes * ρ.rows)
length_cells ρ = omega (arith, length-many (ρ.nodes * ρ.rows) (encode (stored_cell fresh)))

length-silence : (ρ : Room) → length (silence ρ) ≡ 128 * ρ.nodes
length-silence ρ = omega (arith, length-many (128 * ρ.nodes) (0 ∷ []))

-- the areas are long enough for it
pub record Wide (ρ : Room) (m : Memory) : Type 0 where
  pub cells : 36 * (ρ.nodes * ρ.rows) ≤ length m.cells
  pub heard : 128 * ρ.nodes ≤ length m.heard

pub wide : (ρ : Room) (m : Memory) → open_reply ρ m ≡ 0 → Wide ρ m
unfolding open_reply
wide ρ m e =
    let t = (clear (open_tests ρ m) tt e).1.0 in
    record { cells = search (leb→le, and_l, and_r) depth 5; heard = search (leb→le, and_l, and_r) depth 5 }

used-opened : (ρ : Room) (m : Memory) → Wide ρ m → used (opened ρ m) ≡ record {
  house = house_of ρ;
  board_length = length m.board;
  cells_length = length m.cells;
  heard_length = length m.heard;
  board = [];
  cells = fresh_cells ρ;
  heard = silence ρ;
}
unfolding opened
used-opened ρ m w = λ i. record {
  house = house_of ρ;
  board_length = length m.board;
  cells_length = length-patch m.cells (fresh_cells ρ) 0 (omega (arith, length_cells ρ, w.cells)) i;
  heard_length = length-patch m.heard (silence ρ) 0 (omega (arith, length-silence ρ, w.heard)) i;
  board = [];
  cells = patch_same m.cells (fresh_cells ρ) 0 (36 * (ρ.nodes * ρ.rows)) (length_cells ρ) (omega (arith, w.cells)) i;
  heard = patch_same m.heard (silence ρ) 0 (128 * ρ.nodes) (length-silence ρ) (omega (arith, w.heard)) i;
}

open_same : (ρ : Room) (m m' : Memory) → used m ≡ used m' → open_reply ρ m ≡ open_reply ρ m'
unfolding open_reply
open_same ρ m m' p = λ i. first ((room_counts ρ, 1)
    ∷ (leb (40 * ρ.capacity) (p i).board_length && (leb (36 * (ρ.nodes * ρ.rows)) (p i).cells_length && leb (128 * ρ.nodes) (p i).heard_length), 5)
    ∷ tables ρ)

pub spare_unopened : SpareUnopened
unfolding opening
spare_unopened ρ m m' p = (open_same ρ m m' p, go (eqb (open_reply ρ m) 0) refl (ap (λ (k : ℕ). eqb k 0) (sym (open_same ρ m m' p))))
  where
    go : (b : Bool) → eqb (open_reply ρ m) 0 ≡ b → eqb (open_reply ρ m') 0 ≡ eqb (open_reply ρ m) 0 → used (opening ρ m) ≡ used (opening ρ m')
    go true e d = rw (d, e)
        (used-opened ρ m (wide ρ m (eqb-true (open_reply ρ m) 0 e))
        ∙ (λ i. record {
          house = house_of ρ;
          board_length = (p i).board_length;
          cells_length = (p i).cells_length;
          heard_length = (p i).heard_length;
          board = [];
          cells = fresh_cells ρ;
          heard = silence ρ;
        })
        ∙ sym (used-opened ρ m' (wide ρ m' (eqb-true (open_reply ρ m') 0 (d ∙ e)))))
    go false e d = rw (d, e) p

pub spare_stays_opening : SpareStaysOpening
unfolding opening opened
spare_stays_opening ρ m = go (eqb (open_reply ρ m) 0) refl
  where
    go : (b : Bool) → eqb (open_reply ρ m) 0 ≡ b → Spared m (pick b (opened ρ m) m)
    go true e = let w = wide ρ m (eqb-true (open_reply ρ m) 0 e) in record {
      board_length = refl;
      cells_length = length-patch m.cells (fresh_cells ρ) 0 (omega (arith, length_cells ρ, w.cells));
      heard_length = length-patch m.heard (silence ρ) 0 (omega (arith, length-silence ρ, w.heard));
      messages = refl;
      board = refl;
      cells = patch_above m.cells (fresh_cells ρ) 0 (36 * (ρ.nodes * ρ.rows)) (omega (arith, length_cells ρ)) (omega (arith, length_cells ρ, w.cells));
      heard = patch_above m.heard (silence ρ) 0 (128 * ρ.nodes) (omega (arith, length-silence ρ)) (omega (arith, length-silence ρ, w.heard));
    }
    go false e = spared_self m
