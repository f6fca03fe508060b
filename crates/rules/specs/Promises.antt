-- What the rules promise, each promise by its name: refusals, what is settled, forms, and spare bytes.
use Rattle.std.specs.Prelude.{◌≡◌, Bool, false, not, ◌&&◌, ◌||◌, ◌↔◌, List, [], ◌∷◌, ◌++◌, ℕ, ◌+◌, ◌-◌, ◌*◌, ◌≤◌, ◌<◌, T, eqb, leb, ltb, length, take, drop}
use Rattle.rules.specs.Tests.{all, fit, first}
use Rattle.rules.specs.Words.{bal_in, tube_in, Msg, Cell, Room}
use Rattle.rules.specs.declared.Message.{Message}
use Rattle.rules.specs.Lent.{Memory, window, patch, pairs_of, bytes_of, msg_at, meaning, stored, encode, cell_at, meaning_cell, stored_cell, heard_at, set_bit, room_of, row_in, tables, pairs_in, limits, plain_msg, plain_cell, good_cell, used}
use Rattle.rules.specs.Steps.{Call, book}
use Rattle.rules.specs.Replies.{tests, reply, change, after, Answer, bare, answer, rows_after, waiting_after, Did, room_counts, room_long, open_reply, opening, Opened}

-- ---- "A refusal gives its number alone, with zero as value, and changes nothing."

pub record Refused (m : Memory) (c : Call) : Type 0 where
  pub memory : after m c ≡ m
  pub answer : answer m c ≡ bare (reply m c)

abbrev pub RefusalKeeps : Type 0
RefusalKeeps = (m : Memory) (c : Call) → ¬ (reply m c ≡ 0) → Refused m c

-- the areas lent to a refused book call
pub record Unwritten (m : Memory) (p q : List ℕ) : Type 0 where
  pub rows : rows_after m p q ≡ p
  pub waiting : waiting_after m p q ≡ q

abbrev pub BookKeeps : Type 0
BookKeeps = (m : Memory) (p q : List ℕ) → ¬ (reply m (book p q) ≡ 0) → Unwritten m p q

abbrev pub OpeningKeeps : Type 0
OpeningKeeps = (ρ : Room) (m : Memory) → ¬ (open_reply ρ m ≡ 0) → opening ρ m ≡ m

-- ---- Each number is replied exactly when its test fails and every test before it holds.

-- every test of a list holds
abbrev pub Held : List (Bool × ℕ) → Type 0
Held l = T (all (λ (x : Bool × ℕ). x.0) l)

-- a test with the number k fails, and every test before it holds
pub record Fails (l : List (Bool × ℕ)) (k : ℕ) : Type 0 where
  pub before : List (Bool × ℕ)
  pub behind : List (Bool × ℕ)
  pub parts : l ≡ before ++ ((false, k) ∷ behind)
  pub held : Held before

-- no test has the number 0
abbrev pub Numbered : List (Bool × ℕ) → Type 0
Numbered l = T (all (λ (x : Bool × ℕ). ltb 0 x.1) l)

-- for any list of tests
abbrev pub FirstFails : Type 0
FirstFails = (l : List (Bool × ℕ)) (k : ℕ) → 0 < k → (first l ≡ k) ↔ Fails l k

abbrev pub NoneFails : Type 0
NoneFails = (l : List (Bool × ℕ)) → Numbered l → (first l ≡ 0) ↔ Held l

-- for the tests of a call, in the order that the document gives
abbrev pub CallRefused : Type 0
CallRefused = (m : Memory) (c : Call) (k : ℕ) → 0 < k → (reply m c ≡ k) ↔ Fails (tests m c) k

abbrev pub CallDone : Type 0
CallDone = (m : Memory) (c : Call) → (reply m c ≡ 0) ↔ Held (tests m c)

-- "Opening tests 1, 5, 2, 3, 4."
abbrev pub open_tests : Room → Memory → List (Bool × ℕ)
open_tests ρ m = (room_counts ρ, 1) ∷ (room_long ρ m, 5) ∷ tables ρ

abbrev pub OpeningRefused : Type 0
OpeningRefused = (ρ : Room) (m : Memory) (k : ℕ) → 0 < k → (open_reply ρ m ≡ k) ↔ Fails (open_tests ρ m) k

abbrev pub OpeningDone : Type 0
OpeningDone = (ρ : Room) (m : Memory) → (open_reply ρ m ≡ 0) ↔ Held (open_tests ρ m)

-- ---- Any two outcomes that a contract allows are equal.

abbrev pub CallSettled : Type 0
CallSettled = (m : Memory) (c : Call) (a a' : Answer) (m₁ m₂ : Memory) → Did m c a m₁ → Did m c a' m₂ → (a ≡ a') × (m₁ ≡ m₂)

abbrev pub OpeningSettled : Type 0
OpeningSettled = (ρ : Room) (m : Memory) (a a' : Answer) (m₁ m₂ : Memory) → Opened ρ m a m₁ → Opened ρ m a' m₂ → (a ≡ a') × (m₁ ≡ m₂)

-- ---- What is written reads back, and the rest stays.

pub record MsgWritten (s : List ℕ) (k : ℕ) (x : Msg) : Type 0 where
  pub own : meaning (msg_at (patch s (40 * k) (bytes_of (stored x))) k) ≡ x
  pub others : (j : ℕ) → ¬ (j ≡ k) → msg_at (patch s (40 * k) (bytes_of (stored x))) j ≡ msg_at s j

abbrev pub MsgReadsBack : Type 0
MsgReadsBack = (ρ : Room) (s : List ℕ) (k : ℕ) (x : Msg) → T (limits ρ x) → 40 * k + 40 ≤ length s → MsgWritten s k x

pub record CellWritten (s : List ℕ) (k : ℕ) (c : Cell) : Type 0 where
  pub own : meaning_cell (cell_at (patch s (36 * k) (encode (stored_cell c))) k) ≡ c
  pub others : (j : ℕ) → ¬ (j ≡ k) → cell_at (patch s (36 * k) (encode (stored_cell c))) j ≡ cell_at s j

abbrev pub CellReadsBack : Type 0
CellReadsBack = (tubes : ℕ) (s : List ℕ) (k : ℕ) (c : Cell) → T (good_cell tubes c) → 36 * k + 36 ≤ length s → CellWritten s k c

-- node n hears message k: that bit stands, and every other is as it was
abbrev pub BitReadsBack : Type 0
BitReadsBack = (ρ : Room) (s : List ℕ) → 128 * ρ.nodes ≤ length s → (n k a j : ℕ) → n < ρ.nodes → k < 1024 → a < ρ.nodes → j < 1024
    → heard_at (set_bit s n k) a j ≡ (eqb a n && eqb j k) || heard_at s a j

-- ---- What is in form writes back.

pub record MsgKept (s : List ℕ) (k : ℕ) : Type 0 where
  pub bytes : bytes_of (stored (meaning (msg_at s k))) ≡ window 40 k s
  pub area : patch s (40 * k) (bytes_of (stored (meaning (msg_at s k)))) ≡ s

abbrev pub MsgWritesBack : Type 0
MsgWritesBack = (s : List ℕ) (k : ℕ) → T (plain_msg s k) → MsgKept s k

pub record CellKept (s : List ℕ) (k : ℕ) : Type 0 where
  pub bytes : encode (stored_cell (meaning_cell (cell_at s k))) ≡ window 36 k s
  pub area : patch s (36 * k) (encode (stored_cell (meaning_cell (cell_at s k)))) ≡ s

abbrev pub CellWritesBack : Type 0
CellWritesBack = (s : List ℕ) (k : ℕ) → T (plain_cell s k) → CellKept s k

-- ---- The form of a message and of a cell, field by field.

-- unused pairs are 0: the bytes from pair n on
abbrev pub Unused : ℕ → List ℕ → Type 0
Unused n s = drop (2 * n) s ≡ fit (32 - 2 * n) []

-- "Fields a kind lacks and unused pairs are 0. 1a has row and ballot; 1c adds tube; 2av and 2b have row, ballot, node,
-- tube; 1b has all but tube."
pub record Plain (x : Message) : Type 0 where
  pub kind : T (leb 1 x.kind && leb x.kind 5)
  pub node : T (eqb x.kind 1 || eqb x.kind 3) → x.node ≡ 0
  pub tube : T (eqb x.kind 1 || eqb x.kind 2) → x.tube ≡ 0
  pub mbal : T (not (eqb x.kind 2)) → x.mbal ≡ 0
  pub mval : T (not (eqb x.kind 2)) → x.mval ≡ 0
  pub count : T (not (eqb x.kind 2)) → x.count ≡ 0
  pub pairs : Unused x.count x.pairs

abbrev pub MsgForm : Type 0
MsgForm = (s : List ℕ) (k : ℕ) → T (plain_msg s k) ↔ ((40 * k + 40 ≤ length s) × Plain (msg_at s k))

-- A message's fields in their limits, of one whose kind is known: each field that the kind has. mbal is a ballot or none (255),
-- mval a tube or none (0); pairs are at most sixteen, each a tube and a ballot, and ascend.
pub record Within (ρ : Room) (x : Message) : Type 0 where
  pub row : T (row_in ρ x.row)
  pub bal : T (bal_in x.bal)
  pub node : T (not (eqb x.kind 1 || eqb x.kind 3)) → T (ltb x.node ρ.nodes)
  pub tube : T (not (eqb x.kind 1 || eqb x.kind 2)) → T (tube_in x.tube)
  pub mbal : T (eqb x.kind 2) → T (bal_in x.mbal || eqb x.mbal 255)
  pub mval : T (eqb x.kind 2) → T (leb x.mval 64)
  pub count : T (eqb x.kind 2) → T (leb x.count 16)
  pub pairs : T (eqb x.kind 2) → T (pairs_in (pairs_of x.count x.pairs))

abbrev pub MsgLimits : Type 0
MsgLimits = (ρ : Room) (x : Message) → T (leb 1 x.kind && leb x.kind 5) → T (limits ρ (meaning x)) ↔ Within ρ x

abbrev pub CellForm : Type 0
CellForm = (s : List ℕ) (k : ℕ) → T (plain_cell s k) ↔ ((36 * k + 36 ≤ length s) × Unused (cell_at s k).count (cell_at s k).pairs)

-- ---- "Spare bytes .. are not looked at and change only where a message is appended."

-- a call does the same to two memories
pub record Alike (m m' : Memory) (c : Call) : Type 0 where
  pub answer : answer m c ≡ answer m' c
  pub change : change m c ≡ change m' c
  pub used : used (after m c) ≡ used (after m' c)

-- where two memories differ in spare bytes alone
abbrev pub SpareUnread : Type 0
SpareUnread = (m m' : Memory) (c : Call) → used m ≡ used m' → Alike m m' c

-- a book call writes the same
abbrev pub SpareUnbooked : Type 0
SpareUnbooked = (m m' : Memory) (p q : List ℕ) → used m ≡ used m' → (rows_after m p q ≡ rows_after m' p q) × (waiting_after m p q ≡ waiting_after m' p q)

-- opening does the same
abbrev pub SpareUnopened : Type 0
SpareUnopened = (ρ : Room) (m m' : Memory) → used m ≡ used m' → (open_reply ρ m ≡ open_reply ρ m') × (used (opening ρ m) ≡ used (opening ρ m'))

-- what stays of m where m' is left: the lengths, the messages, and the bytes that are spare in m'
pub record Spared (m m' : Memory) : Type 0 where
  pub board_length : length m'.board ≡ length m.board
  pub cells_length : length m'.cells ≡ length m.cells
  pub heard_length : length m'.heard ≡ length m.heard
  pub messages : take (40 * m.house.count) m'.board ≡ take (40 * m.house.count) m.board
  pub board : drop (40 * m'.house.count) m'.board ≡ drop (40 * m'.house.count) m.board
  pub cells : drop (36 * (m'.house.nodes * m'.house.rows)) m'.cells ≡ drop (36 * (m'.house.nodes * m'.house.rows)) m.cells
  pub heard : drop (128 * m'.house.nodes) m'.heard ≡ drop (128 * m'.house.nodes) m.heard

abbrev pub SpareStays : Type 0
SpareStays = (m : Memory) (c : Call) → Spared m (after m c)

abbrev pub SpareStaysOpening : Type 0
SpareStaysOpening = (ρ : Room) (m : Memory) → Spared m (opening ρ m)

-- counts and tables of the room stay as opening set them
abbrev pub RoomStays : Type 0
RoomStays = (m : Memory) (c : Call) → room_of (after m c).house ≡ room_of m.house
