-- "Both sides of the lines": cases 1 to 13 as one table. Each row is a whole case, from its opening and its posts.
use Rattle.std.specs.Prelude.{Bool, ◌&&◌, List, [], ◌∷◌, ◌++◌, ℕ, ◌+◌, ◌*◌, eqb}
use Rattle.rules.specs.Tests.{keep, up_to, eqs, fit, many}
use Rattle.rules.specs.Words.{Room}
use Rattle.rules.specs.Lent.{Memory, read}
use Rattle.rules.specs.Steps.{p1b, p2av, p2b, Call, scan, c1a, c1b, c1c, c2av, c2b, hear, foreign, known}
use Rattle.rules.specs.Book.{book_of, waiting_of, stopped}
use Rattle.rules.specs.Replies.{reply, after, runs, open_reply, opening, house_of}

-- a case: what opening a room replies; what calls after an opening reply, one after another; which tubes are known safe
-- to a node in a row and ballot after them; which book, waiting tubes and stop they leave; which nodes they leave marked
pub data Case : Type 0 where
  opens : Room → ℕ → Case
  replies : Room → List Call → List ℕ → Case
  safe : Room → List Call → (row node bal : ℕ) → List ℕ → Case
  books : Room → List Call → List ℕ → List ℕ → ℕ → Case
  marks : Room → List Call → ℕ → Case

-- lent memory of the right lengths, full of junk
unfoldable pub lent : Room → Memory
lent ρ = record {
  house = house_of (record { nodes = 0; faulty = 0; rows = 0; capacity = 0; quorums = []; weaks = [] });
  board = many (40 * ρ.capacity) (171 ∷ []);
  cells = many (36 * (ρ.nodes * ρ.rows)) (171 ∷ []);
  heard = many (128 * ρ.nodes) (171 ∷ []);
}

unfoldable pub start : Room → Memory
start ρ = opening ρ (lent ρ)

unfoldable pub replies_of : Memory → List Call → List ℕ
replies_of m [] = []
replies_of m (c ∷ cs) = reply m c ∷ replies_of (after m c) cs

unfoldable pub right : Case → Bool
right (opens ρ k) = eqb (open_reply ρ (lent ρ)) k
right (replies ρ cs ks) = eqs (replies_of (start ρ) cs) ks
right (safe ρ cs r n b vs) = let s = read (runs (start ρ) cs) in eqs (keep (known ρ s r n b) (up_to 64)) vs
right (books ρ cs bs ws w) = let s = read (runs (start ρ) cs) in eqs (book_of ρ s) bs && (eqs (waiting_of ρ s) ws && eqb (stopped ρ s) w)
right (marks ρ cs k) = eqb (runs (start ρ) cs).house.marks k

-- ---- rooms and runs of calls

-- "The four room: N 4, f 1, quorums 7, 11, 13, 14, weak 3, 5, 6, 9, 10, 12", with room for 8 messages and one row
abbrev pub four : Room
four = record { nodes = 4; faulty = 1; rows = 1; capacity = 8; quorums = 7 ∷ 11 ∷ 13 ∷ 14 ∷ []; weaks = 3 ∷ 5 ∷ 6 ∷ 9 ∷ 10 ∷ 12 ∷ [] }

abbrev pub with_quorum : Room → ℕ → Room
with_quorum ρ q = record { nodes = ρ.nodes; faulty = ρ.faulty; rows = ρ.rows; capacity = ρ.capacity; quorums = ρ.quorums ++ (q ∷ []); weaks = ρ.weaks }

abbrev pub with_weak : Room → ℕ → Room
with_weak ρ w = record { nodes = ρ.nodes; faulty = ρ.faulty; rows = ρ.rows; capacity = ρ.capacity; quorums = ρ.quorums; weaks = ρ.weaks ++ (w ∷ []) }

-- one node, no unruly station
abbrev pub single : ℕ → ℕ → ℕ → Room
single f rows capacity = record { nodes = 1; faulty = f; rows = rows; capacity = capacity; quorums = 1 ∷ []; weaks = 1 ∷ [] }

-- a foreign 1b in row 1 with no pairs, or with one
abbrev pub bare1b : ℕ → ℕ → ℕ → ℕ → Call
bare1b b n x y = foreign (p1b 1 b n x y 0 (fit 32 []))

abbrev pub pair1b : ℕ → ℕ → ℕ → ℕ → ℕ → ℕ → Call
pair1b b n x y v k = foreign (p1b 1 b n x y 1 (fit 32 (v ∷ k ∷ [])))

-- a tube scanned, a 1a, and the empty 1b of three nodes: messages 0 to 3
abbrev pub promised : List Call
promised = scan 3 70 ∷ c1a 1 0 ∷ c1b 1 0 0 ∷ c1b 1 1 0 ∷ c1b 1 2 0 ∷ []

-- one tube through one row of a room with one node: six messages from number k on
abbrev pub booked : ℕ → ℕ → ℕ → List Call
booked r k v = c1a r 0 ∷ c1b r 0 0 ∷ hear 0 (k + 1) ∷ c1c r 0 v ∷ c2av r 0 0 v ∷ c2b r 0 0 v ∷ []

-- case 10's board: ballot 1, each 1b with pair (1, 0), node 0 with mbal 0 and mval 1, the others none; tube 1's 1c sent
abbrev pub ten : List Call
ten = scan 3 70 ∷ c1a 1 1 ∷ pair1b 1 0 0 1 1 0 ∷ pair1b 1 1 255 0 1 0 ∷ pair1b 1 2 255 0 1 0 ∷ hear 0 1 ∷ hear 0 2 ∷ hear 0 3 ∷ c1c 1 1 1 ∷ []

-- case 11's board: ballot 2, node 0 mbal 0, mval 1, no pairs; nodes 1 and 2 mbal none, pair (1, 1)
abbrev pub eleven : List Call
eleven = scan 3 70 ∷ scan 4 70 ∷ c1a 1 2 ∷ bare1b 2 0 0 1 ∷ pair1b 2 1 255 0 1 1 ∷ pair1b 2 2 255 0 1 1 ∷ hear 0 1 ∷ hear 0 2 ∷ hear 0 3 ∷ []

-- ---- the table

abbrev pub cases : List Case
cases =
    -- 1. The four room opens.
    opens four 0
    -- 2. With quorum 3 added: 3.
    ∷ opens (with_quorum four 3) 3
    -- 3. With weak 1 added: 4.
    ∷ opens (with_weak four 1) 4
    -- 4. With quorum 16 added: 2.
    ∷ opens (with_quorum four 16) 2
    -- 5. N 1, f 1, quorum 1, weak 1: 3.
    ∷ opens (single 1 1 16) 3
    -- 6. 1b with no 1a: 9.
    ∷ replies four (c1b 1 0 0 ∷ []) (9 ∷ [])
    -- 7. The same 1b again after success: 8.
    ∷ replies four (c1a 1 0 ∷ c1b 1 0 0 ∷ c1b 1 0 0 ∷ []) (0 ∷ 0 ∷ 8 ∷ [])
    -- 8. The same 2av again: 10.
    ∷ replies four (promised ++ (hear 0 1 ∷ hear 0 2 ∷ hear 0 3 ∷ c1c 1 0 1 ∷ c2av 1 0 0 1 ∷ c2av 1 0 0 1 ∷ []))
    (0 ∷ 0 ∷ 0 ∷ 0 ∷ 0 ∷ 0 ∷ 0 ∷ 0 ∷ 0 ∷ 0 ∷ 10 ∷ [])
    -- 9. Four room, three empty 1b heard: any tube safe; two heard (the third stands on the board, unheard): none.
    ∷ safe four (promised ++ (hear 0 1 ∷ hear 0 2 ∷ hear 0 3 ∷ [])) 1 0 0 (up_to 64)
    ∷ safe four (promised ++ (hear 0 1 ∷ hear 0 2 ∷ [])) 1 0 0 []
    -- 10. Tube 1, its 1c sent, gives 11.
    ∷ replies four (ten ++ (c2av 1 0 1 1 ∷ [])) (0 ∷ 0 ∷ 0 ∷ 0 ∷ 0 ∷ 0 ∷ 0 ∷ 0 ∷ 0 ∷ 11 ∷ [])
    -- 11. Tube 1 safe, tube 2 not.
    ∷ safe four eleven 1 0 2 (1 ∷ [])
    -- 12. Capacity 1: 1a, the same 1a, 1a of another ballot: 0, 0, 15.
    ∷ replies (single 0 1 1) (c1a 1 0 ∷ c1a 1 0 ∷ c1a 1 1 ∷ []) (0 ∷ 0 ∷ 15 ∷ [])
    -- 13. Rows hold tube 1, tube 1, none, tube 2, and two were scanned: book 1, void; tube 2 waits.
    ∷ books (single 0 4 16) (scan 3 70 ∷ scan 4 70 ∷ (booked 1 0 1 ++ (booked 2 5 1 ++ booked 4 10 2))) (1 ∷ 0 ∷ []) (2 ∷ []) 1
    -- Our own, for the slips. Relays of several tubes do not make up a quorum: 12 until a third node relays tube 1.
    ∷ replies four (scan 3 70 ∷ scan 4 70 ∷ foreign (p2av 1 0 0 1) ∷ foreign (p2av 1 0 1 1) ∷ foreign (p2av 1 0 2 2) ∷ c2b 1 3 0 1 ∷ foreign (p2av 1 0 2 1) ∷ c2b 1 3 0 1 ∷ [])
    (0 ∷ 0 ∷ 0 ∷ 0 ∷ 0 ∷ 12 ∷ 0 ∷ 0 ∷ [])
    -- A 2b below max_bal: 8, though its quorum is there too.
    ∷ replies four (scan 3 70 ∷ foreign (p2av 1 0 0 1) ∷ foreign (p2av 1 0 1 1) ∷ foreign (p2av 1 0 2 1) ∷ c1a 1 1 ∷ c1b 1 3 1 ∷ c2b 1 3 0 1 ∷ [])
    (0 ∷ 0 ∷ 0 ∷ 0 ∷ 0 ∷ 0 ∷ 8 ∷ [])
    -- Votes for several tubes do not make up a quorum: the row is unchosen, both tubes wait.
    ∷ books four (scan 3 70 ∷ scan 4 70 ∷ foreign (p2b 1 0 0 1) ∷ foreign (p2b 1 0 1 1) ∷ foreign (p2b 1 0 2 2) ∷ []) [] (1 ∷ 2 ∷ []) 1
    -- A refused foreign post marks nobody, an accepted one its node; one already there does too.
    ∷ marks (single 0 1 1) (scan 3 70 ∷ c1a 1 0 ∷ foreign (p2av 1 0 0 1) ∷ []) 0
    ∷ marks (single 0 1 1) (scan 3 70 ∷ foreign (p2av 1 0 0 1) ∷ []) 1
    ∷ []
