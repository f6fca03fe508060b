-- "The steps" and "Known safe": the calls, what each sends and changes, and the sets that relay and vote.
use Rattle.std.specs.Prelude.{Bool, false, not, ◌&&◌, ◌||◌, List, [], ◌∷◌, ◌++◌, ℕ, suc, ◌*◌, eqb, leb, ltb, length, set}
use Rattle.rules.specs.Tests.{pick, any, any_below, all_in}
use Rattle.rules.specs.Words.{height_of, Pair, Msg, m1a, m1b, m1c, m2av, m2b, same_msg, Cell, Room, State}
use Rattle.rules.specs.Lent.{Memory, patch, pairs_of, bytes_of, stored, board_of, encode, stored_cell, place, set_bit, intake_of, house, raised, marked}

-- a foreign post as it is handed over: numbers of any size, mbal as a byte (255 none), a pair count and the pair array;
-- other: a 1a, a 1c or an unknown kind
pub data Post : Type 0 where
  p1b : (row bal node mbal mval count : ℕ) (pairs : List ℕ) → Post
  p2av : (row bal node tube : ℕ) → Post
  p2b : (row bal node tube : ℕ) → Post
  other : Post

-- every call but opening; the book is lent an area for rows and one for waiting tubes
pub data Call : Type 0 where
  scan : (station serial : ℕ) → Call
  c1a : (row bal : ℕ) → Call
  c1b : (row node bal : ℕ) → Call
  c1c : (row bal tube : ℕ) → Call
  c2av : (row node bal tube : ℕ) → Call
  c2b : (row node bal tube : ℕ) → Call
  hear : (node number : ℕ) → Call
  foreign : Post → Call
  ask : (row : ℕ) → Call
  book : (rows waiting : List ℕ) → Call

-- ---- what a step finds

-- the message is on the board
abbrev pub has : Msg → List Msg → Bool
has m l = any (same_msg m) l

-- 15: the step's message is new and the board is at capacity
abbrev pub fits : Room → State → Msg → Bool
fits ρ s m = has m s.board || ltb (length s.board) ρ.capacity

-- a (station, serial) is known
abbrev pub scanned_in : List (ℕ × ℕ) → ℕ → ℕ → Bool
scanned_in l a b = any (λ p. eqb a p.0 && eqb b p.1) l

-- its tube: its place on intake, from 1; the next one where it is new
abbrev pub tube_for : List (ℕ × ℕ) → ℕ → ℕ → ℕ
tube_for [] a b = 1
tube_for (p ∷ l) a b = pick (eqb a p.0 && eqb b p.1) 1 (suc (tube_for l a b))

-- the 1b of a node carries max_vbal, max_vval and the pairs as they stood
abbrev pub told : State → ℕ → ℕ → ℕ → Msg
told s r n b = let c = s.cells r n in m1b r b n c.max_vbal c.max_vval c.pairs

-- 2av: pairs for this tube are removed, the rest close up
abbrev pub without : ℕ → List Pair → List Pair
without v [] = []
without v (p ∷ ps) = pick (eqb p.0 v) (without v ps) (p ∷ without v ps)

-- the message that a foreign post puts under a node's number
abbrev pub posted : Post → Msg
posted (p1b r b n x y k l) = m1b r b n (height_of x) y (pairs_of k l)
posted (p2av r b n v) = m2av r b n v
posted (p2b r b n v) = m2b r b n v
posted other = m1a 0 0

abbrev pub poster : Post → ℕ
poster (p1b r b n x y k l) = n
poster (p2av r b n v) = n
poster (p2b r b n v) = n
poster other = 0

-- ---- sets of nodes

-- some listed set has all its nodes pass
abbrev pub full : Room → List ℕ → (ℕ → Bool) → Bool
full ρ sets p = any (λ q. all_in ρ.nodes q p) sets

-- some listed set has for each of its nodes a message that passes
abbrev pub covers : Room → List ℕ → (ℕ → Msg → Bool) → List Msg → Bool
covers ρ sets p l = full ρ sets (λ a. any (p a) l)

abbrev pub is2av : ℕ → ℕ → ℕ → ℕ → Msg → Bool
is2av r b v a x = same_msg x (m2av r b a v)

abbrev pub is2b : ℕ → ℕ → ℕ → ℕ → Msg → Bool
is2b r b v a x = same_msg x (m2b r b a v)

-- 12: a quorum all of whose nodes have a 2av on the board for this row, ballot and tube
abbrev pub relayed : Room → State → ℕ → ℕ → ℕ → Bool
relayed ρ s r b v = covers ρ ρ.quorums (is2av r b v) s.board

-- "A tube is chosen in a row if for one ballot some quorum has a 2b for it from each node, foreign or not."
abbrev pub chosen : Room → State → ℕ → ℕ → ℕ → Bool
chosen ρ s r b v = covers ρ ρ.quorums (is2b r b v) s.board

-- ---- Known safe

-- the messages that a node has heard, of the board from number k on
abbrev pub heard_from : (ℕ → Bool) → ℕ → List Msg → List Msg
heard_from h k [] = []
heard_from h k (x ∷ xs) = pick (h k) (x ∷ heard_from h (suc k) xs) (heard_from h (suc k) xs)

-- a 1b of this row, ballot and node whose mbal, mval and pairs pass
abbrev pub tells : (ℕ → ℕ → List Pair → Bool) → ℕ → ℕ → ℕ → Msg → Bool
tells p r b a (m1a r' b') = false
tells p r b a (m1b r' b' n x y ps) = (eqb r' r && eqb b' b && eqb n a) && p x y ps
tells p r b a (m1c r' b' v') = false
tells p r b a (m2av r' b' n v') = false
tells p r b a (m2b r' b' n v') = false

-- (i) mbal none
abbrev pub empty : ℕ → ℕ → List Pair → Bool
empty x y ps = eqb x 0

-- (ii) mbal none or at most c, and mval the tube if mbal is c
abbrev pub low : ℕ → ℕ → ℕ → ℕ → List Pair → Bool
low c v x y ps = leb x (suc c) && (not (eqb x (suc c)) || eqb y v)

-- a pair's ballot k is strictly above c
abbrev pub reaches : ℕ → ℕ → Bool
reaches c k = ltb c k

-- (ii) a pair of this tube whose ballot is strictly above c
abbrev pub shown : ℕ → ℕ → ℕ → ℕ → List Pair → Bool
shown c v x y ps = any (λ p. eqb p.0 v && reaches c p.1) ps

-- row r, node n, ballot b, tube v
abbrev pub known : Room → State → ℕ → ℕ → ℕ → ℕ → Bool
known ρ s r n b v =
    let l = heard_from (s.heard n) 0 s.board in
    covers ρ ρ.quorums (tells empty r b) l
    || any_below (λ c. covers ρ ρ.quorums (tells (low c v) r b) l && covers ρ ρ.weaks (tells (shown c v) r b) l) b

-- ---- what an accepted step does, told once for the room and for the bytes

pub data Effect : Type 0 where
  stays : Effect
  scans : (station serial : ℕ) → Effect
  sends : Msg → Effect
  acts : Msg → (row node : ℕ) → Cell → Effect
  hears : (node number : ℕ) → Effect
  posts : Msg → (node : ℕ) → Effect

abbrev pub effect : State → Call → Effect
effect s (scan a b) = scans a b
effect s (c1a r b) = sends (m1a r b)
effect s (c1b r n b) = let c = s.cells r n in
    acts (told s r n b) r n (record { max_bal = suc b; max_vbal = c.max_vbal; max_vval = c.max_vval; pairs = c.pairs })
effect s (c1c r b v) = sends (m1c r b v)
effect s (c2av r n b v) = let c = s.cells r n in
    acts (m2av r b n v) r n (record { max_bal = suc b; max_vbal = c.max_vbal; max_vval = c.max_vval; pairs = without v c.pairs ++ ((v, b) ∷ []) })
effect s (c2b r n b v) = let c = s.cells r n in
    acts (m2b r b n v) r n (record { max_bal = suc b; max_vbal = suc b; max_vval = v; pairs = c.pairs })
effect s (hear n k) = hears n k
effect s (foreign p) = posts (posted p) (poster p)
effect s (ask r) = stays
effect s (book p q) = stays

-- ---- the change in the room

-- "Messages are a set: one already there isn't added again, but the rest of the step happens."
abbrev pub add : Msg → List Msg → List Msg
add m l = pick (has m l) l (l ++ (m ∷ []))

abbrev pub set_cell : (ℕ → ℕ → Cell) → ℕ → ℕ → Cell → ℕ → ℕ → Cell
set_cell f r n c a b = pick (eqb a r && eqb b n) c (f a b)

abbrev pub send : State → Msg → State
send s m = record { board = add m s.board; cells = s.cells; heard = s.heard; marks = s.marks; intake = s.intake }

abbrev pub with_cell : State → ℕ → ℕ → Cell → State
with_cell s r n c = record { board = s.board; cells = set_cell s.cells r n c; heard = s.heard; marks = s.marks; intake = s.intake }

abbrev pub with_mark : State → ℕ → State
with_mark s n = record { board = s.board; cells = s.cells; heard = s.heard; marks = λ a. eqb a n || s.marks a; intake = s.intake }

abbrev pub put : State → Effect → State
put s stays = s
put s (scans a b) = record { board = s.board; cells = s.cells; heard = s.heard; marks = s.marks; intake = pick (scanned_in s.intake a b) s.intake (s.intake ++ ((a, b) ∷ [])) }
put s (sends x) = send s x
put s (acts x r n c) = with_cell (send s x) r n c
put s (hears n k) = record { board = s.board; cells = s.cells; heard = λ a j. (eqb a n && eqb j k) || s.heard a j; marks = s.marks; intake = s.intake }
put s (posts x n) = with_mark (send s x) n

-- ---- the change in the bytes

-- "Appending writes just the 40 bytes after the last message."
unfoldable pub post : Memory → Msg → Memory
post m x = pick (has x (board_of m.board m.house.count)) m (record {
  house = raised m.house (suc m.house.count);
  board = patch m.board (40 * m.house.count) (bytes_of (stored x));
  cells = m.cells;
  heard = m.heard;
})

abbrev pub write_cell : Memory → ℕ → ℕ → Cell → Memory
write_cell m r n c = record { house = m.house; board = m.board; cells = patch m.cells (36 * place m.house.rows r n) (encode (stored_cell c)); heard = m.heard }

unfoldable pub write : Memory → Effect → Memory
write m stays = m
write m (scans a b) = let h = m.house in pick (scanned_in (intake_of h.stations h.serials h.tubes) a b) m (record {
  house = house h h.count h.marks (suc h.tubes) (set h.stations h.tubes a) (set h.serials h.tubes b);
  board = m.board;
  cells = m.cells;
  heard = m.heard;
})
write m (sends x) = post m x
write m (acts x r n c) = write_cell (post m x) r n c
write m (hears n k) = record { house = m.house; board = m.board; cells = m.cells; heard = set_bit m.heard n k }
write m (posts x n) = let p = post m x in record { house = marked p.house n; board = p.board; cells = p.cells; heard = p.heard }
