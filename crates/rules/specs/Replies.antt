-- "What each call may reply": each call's tests in order, its answer, the memory it leaves, opening, and runs.
use Rattle.std.specs.Prelude.{◌≡◌, ◌⊎◌, Bool, true, false, not, ◌&&◌, ◌||◌, List, [], ◌∷◌, ◌++◌, ℕ, suc, ◌<◌, Result, Ok, Err, ◌*◌, eqb, leb, ltb, length}
use Rattle.rules.specs.Tests.{pick, all, eqs, fit, many, first}
use Rattle.rules.specs.Words.{nodes_in, faulty_in, rows_in, bal_in, capacity_in, list_in, scan_in, m1a, m1c, m2av, m2b, fresh, Room, State}
use Rattle.rules.specs.Lent.{Memory, patch, pairs_of, pair_bytes, encode, stored_cell, room_of, row_in, read, tables, counts, long, limits, scanned, is_1b_at, in_form}
use Rattle.rules.specs.Steps.{Post, p1b, p2av, p2b, other, Call, scan, c1a, c1b, c1c, c2av, c2b, hear, foreign, ask, book, has, fits, scanned_in, tube_for, told, without, posted, relayed, known, Effect, stays, effect, write}
use Rattle.rules.specs.Book.{outcome, tube_of, is_split, book_of, waiting_of, stopped}
use Rattle.rules.specs.declared.House.{House}
use Rattle.rules.specs.declared.Refusal.{Refusal}
use Rattle.rules.specs.declared.Refusal.TheVariants.{CountOutside, AbsentNode, SmallOverlap, SmallWeak, ShortArea, OutsideLimits, NotOnIntake, LowBallot, NotAsked, RelayedAlready, NotKnownSafe, NoQuorum, NoPromise, PairsFull, BoardFull, IntakeFull, NotInForm, SplitRow, Malformed}
use Rattle.rules.specs.declared.Unnamed.{Unnamed}
use Rattle.rules.specs.declared.Stop.{Stop}
use Rattle.rules.specs.declared.Stop.TheVariants.{RowsEnded, Unchosen, Split}
use Rattle.rules.specs.declared.Reply.{Reply}
use Rattle.rules.specs.declared.Reply.TheVariants.{Done, Told, Booked}

-- ---- 6 and 7

-- a foreign 1b's pair array holds just the pairs it counts: an unused pair is 0
abbrev pub pairs_plain : ℕ → List ℕ → Bool
pairs_plain k l = eqs l (pair_bytes (pairs_of k l))

-- a foreign post: a 1b, 2av or 2b within limits; another kind gives 6
abbrev pub post_in : Room → Post → Bool
post_in ρ (p1b r b n x y k l) = limits ρ (posted (p1b r b n x y k l)) && pairs_plain k l
post_in ρ (p2av r b n v) = limits ρ (m2av r b n v)
post_in ρ (p2b r b n v) = limits ρ (m2b r b n v)
post_in ρ other = false

-- 6: a field outside its limits, an unused pair not 0, an unknown kind, an absent message number, pairs not ascending
unfoldable pub fields : Room → State → Call → Bool
fields ρ s (scan a b) = scan_in a b
fields ρ s (c1a r b) = limits ρ (m1a r b)
fields ρ s (c1b r n b) = (row_in ρ r && bal_in b) && ltb n ρ.nodes
fields ρ s (c1c r b v) = limits ρ (m1c r b v)
fields ρ s (c2av r n b v) = limits ρ (m2av r b n v)
fields ρ s (c2b r n b v) = limits ρ (m2b r b n v)
fields ρ s (hear n k) = ltb n ρ.nodes && ltb k (length s.board)
fields ρ s (foreign p) = post_in ρ p
fields ρ s (ask r) = row_in ρ r
fields ρ s (book p q) = true

-- 7: a tube, mval or pair's tube not on intake
unfoldable pub tubes : State → Call → Bool
tubes s (scan a b) = true
tubes s (c1a r b) = true
tubes s (c1b r n b) = true
tubes s (c1c r b v) = leb v (length s.intake)
tubes s (c2av r n b v) = leb v (length s.intake)
tubes s (c2b r n b v) = leb v (length s.intake)
tubes s (hear n k) = true
tubes s (foreign p) = scanned (length s.intake) (posted p)
tubes s (ask r) = true
tubes s (book p q) = true

-- ---- what each call needs besides, in order, with the number that it replies if that fails

abbrev pub needs : Room → State → Call → List (Bool × ℕ)
needs ρ s (scan a b) = (scanned_in s.intake a b || ltb (length s.intake) 64, 16) ∷ []
needs ρ s (c1a r b) = (fits ρ s (m1a r b), 15) ∷ []
needs ρ s (c1b r n b) = (leb (s.cells r n).max_bal b, 8) ∷ (has (m1a r b) s.board, 9) ∷ (fits ρ s (told s r n b), 15) ∷ []
needs ρ s (c1c r b v) = (fits ρ s (m1c r b v), 15) ∷ []
needs ρ s (c2av r n b v) =
    (leb (s.cells r n).max_bal (suc b), 8) ∷ (has (m1c r b v) s.board, 9)
    ∷ (all (λ p. ltb p.1 b) (s.cells r n).pairs, 10) ∷ (known ρ s r n b v, 11)
    ∷ (ltb (length (without v (s.cells r n).pairs)) 16, 14) ∷ (fits ρ s (m2av r b n v), 15) ∷ []
needs ρ s (c2b r n b v) =
    (leb (s.cells r n).max_bal (suc b), 8) ∷ (relayed ρ s r b v, 12) ∷ (fits ρ s (m2b r b n v), 15) ∷ []
needs ρ s (hear n k) = (is_1b_at s.board k, 13) ∷ []
needs ρ s (foreign p) = (fits ρ s (posted p), 15) ∷ []
needs ρ s (ask r) = (not (is_split (outcome ρ s r)), 18) ∷ []
needs ρ s (book p q) = []

-- 6, 7 and the call's own
abbrev pub rules : Room → State → Call → List (Bool × ℕ)
rules ρ s c = (fields ρ s c, 6) ∷ (tubes s c, 7) ∷ needs ρ s c

-- ---- all tests of a call on memory

-- the book is lent at least R bytes for rows and 64 for waiting tubes
abbrev pub areas : House → Call → Bool
areas h (scan a b) = true
areas h (c1a r b) = true
areas h (c1b r n b) = true
areas h (c1c r b v) = true
areas h (c2av r n b v) = true
areas h (c2b r n b v) = true
areas h (hear n k) = true
areas h (foreign p) = true
areas h (ask r) = true
areas h (book p q) = leb h.rows (length p) && leb 64 (length q)

-- 17 for a count outside its limits, 5, 17
abbrev pub gate : Memory → Call → List (Bool × ℕ)
gate m c = (counts m.house, 17) ∷ (long m && areas m.house c, 5) ∷ (in_form m, 17) ∷ []

abbrev pub tests : Memory → Call → List (Bool × ℕ)
tests m c = gate m c ++ rules (room_of m.house) (read m) c

-- the number that a call replies: that of its first test that fails, 0 if none does
unfoldable pub reply : Memory → Call → ℕ
reply m c = first (tests m c)

-- ---- what a call does

-- a refusal changes nothing
unfoldable pub change : Memory → Call → Effect
change m c = pick (eqb (reply m c) 0) (effect (read m) c) stays

-- the memory after a call
unfoldable pub after : Memory → Call → Memory
after m c = write m (change m c)

-- what a call tells: its number, a value (a scan's or an asked row's tube, the rows that the book wrote), how many
-- waiting tubes the book wrote, why it stopped
pub record Answer : Type 0 where
  pub number : ℕ
  pub value : ℕ
  pub waiting : ℕ
  pub stopped : ℕ

abbrev pub bare : ℕ → Answer
bare k = record { number = k; value = 0; waiting = 0; stopped = 0 }

abbrev pub valued : ℕ → Answer
valued v = record { number = 0; value = v; waiting = 0; stopped = 0 }

-- ---- the paper's number and values for each case of the reply

abbrev pub number_of : Refusal → ℕ
number_of CountOutside = 1
number_of AbsentNode = 2
number_of SmallOverlap = 3
number_of SmallWeak = 4
number_of ShortArea = 5
number_of OutsideLimits = 6
number_of NotOnIntake = 7
number_of LowBallot = 8
number_of NotAsked = 9
number_of RelayedAlready = 10
number_of NotKnownSafe = 11
number_of NoQuorum = 12
number_of NoPromise = 13
number_of PairsFull = 14
number_of BoardFull = 15
number_of IntakeFull = 16
number_of NotInForm = 17
number_of SplitRow = 18
number_of Malformed = 19

abbrev pub stop_of : Stop → ℕ
stop_of RowsEnded = 0
stop_of Unchosen = 1
stop_of Split = 2

-- the refusal of a number: each of 1 to 19 has one, and no other
abbrev pub Named : ℕ → Result Refusal Unnamed → Type 0
Named k (Ok x) = number_of x ≡ k
Named k (Err e) = (e.0 ≡ k) × ((k < 1) ⊎ (19 < k))

-- the number that a test, or several in order, came to: 0 where none failed
abbrev pub number_in : {A : Type 0} → Result A Refusal → ℕ
number_in (Ok a) = 0
number_in (Err x) = number_of x

abbrev pub values_of : Reply → Answer
values_of Done = bare 0
values_of (Told t) = valued t.0
values_of (Booked n w k) = record { number = 0; value = n; waiting = w; stopped = stop_of k }

abbrev pub answer_of : Result Reply Refusal → Answer
answer_of (Ok r) = values_of r
answer_of (Err x) = bare (number_of x)

-- the answer of an accepted call
unfoldable pub tell : Room → State → Call → Answer
tell ρ s (scan a b) = valued (tube_for s.intake a b)
tell ρ s (c1a r b) = bare 0
tell ρ s (c1b r n b) = bare 0
tell ρ s (c1c r b v) = bare 0
tell ρ s (c2av r n b v) = bare 0
tell ρ s (c2b r n b v) = bare 0
tell ρ s (hear n k) = bare 0
tell ρ s (foreign p) = bare 0
tell ρ s (ask r) = valued (tube_of (outcome ρ s r))
tell ρ s (book p q) = record { number = 0; value = length (book_of ρ s); waiting = length (waiting_of ρ s); stopped = stopped ρ s }

-- "A refusal gives its number alone, with zero as value."
unfoldable pub answer : Memory → Call → Answer
answer m c = pick (eqb (reply m c) 0) (tell (room_of m.house) (read m) c) (bare (reply m c))

-- the areas lent to the book, afterwards: bytes past the lengths stay
unfoldable pub rows_after : Memory → List ℕ → List ℕ → List ℕ
rows_after m p q = pick (eqb (reply m (book p q)) 0) (patch p 0 (book_of (room_of m.house) (read m))) p

unfoldable pub waiting_after : Memory → List ℕ → List ℕ → List ℕ
waiting_after m p q = pick (eqb (reply m (book p q)) 0) (patch q 0 (waiting_of (room_of m.house) (read m))) q

-- all that a call does: its answer, and the memory that it leaves
pub record Did (m : Memory) (c : Call) (a : Answer) (m' : Memory) : Type 0 where
  pub answer : a ≡ answer m c
  pub memory : m' ≡ after m c

-- calls one after another
unfoldable pub runs : Memory → List Call → Memory
runs m [] = m
runs m (c ∷ cs) = runs (after m c) cs

-- ---- opening

-- 1: a count outside the table
abbrev pub room_counts : Room → Bool
room_counts ρ = ((nodes_in ρ.nodes && faulty_in ρ.faulty) && (rows_in ρ.rows && capacity_in ρ.capacity))
    && (list_in (length ρ.quorums) && list_in (length ρ.weaks))

-- 5: a lent area too short for this room
abbrev pub room_long : Room → Memory → Bool
room_long ρ m = leb (40 * ρ.capacity) (length m.board) && (leb (36 * (ρ.nodes * ρ.rows)) (length m.cells) && leb (128 * ρ.nodes) (length m.heard))

-- "Opening tests 1, 5, 2, 3, 4."
unfoldable pub open_reply : Room → Memory → ℕ
open_reply ρ m = first ((room_counts ρ, 1) ∷ (room_long ρ m, 5) ∷ tables ρ)

-- intake, marks and board empty; slots past a count are 0
abbrev pub house_of : Room → House
house_of ρ = record {
  nodes = ρ.nodes;
  faulty = ρ.faulty;
  rows = ρ.rows;
  capacity = ρ.capacity;
  listed = length ρ.quorums;
  quorums = fit 64 ρ.quorums;
  backers = length ρ.weaks;
  weaks = fit 64 ρ.weaks;
  tubes = 0;
  stations = fit 64 [];
  serials = fit 64 [];
  marks = 0;
  count = 0;
}

-- cells as at opening, heard bits cleared, the board's bytes as they were
unfoldable pub opened : Room → Memory → Memory
opened ρ m = record {
  house = house_of ρ;
  board = m.board;
  cells = patch m.cells 0 (many (ρ.nodes * ρ.rows) (encode (stored_cell fresh)));
  heard = patch m.heard 0 (many (128 * ρ.nodes) (0 ∷ []));
}

unfoldable pub opening : Room → Memory → Memory
opening ρ m = pick (eqb (open_reply ρ m) 0) (opened ρ m) m

-- all that opening does
pub record Opened (ρ : Room) (m : Memory) (a : Answer) (m' : Memory) : Type 0 where
  pub answer : a ≡ bare (open_reply ρ m)
  pub memory : m' ≡ opening ρ m
