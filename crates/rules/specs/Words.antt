-- "The room and its words": what is allowed, none, messages, cells, and a room with what stands in it.
use Rattle.std.specs.Prelude.{Bool, true, false, ◌&&◌, List, [], ◌∷◌, ℕ, zero, suc, eqb, leb}
use Rattle.rules.specs.Tests.{pick}

-- ---- Thing, Allowed

-- nodes N: 1 to 8
abbrev pub nodes_in : ℕ → Bool
nodes_in n = leb 1 n && leb n 8

-- unruly stations f: 0 to 7
abbrev pub faulty_in : ℕ → Bool
faulty_in f = leb f 7

-- rows R: 1 to 64
abbrev pub rows_in : ℕ → Bool
rows_in r = leb 1 r && leb r 64

-- ballot: 0 to 15
abbrev pub bal_in : ℕ → Bool
bal_in b = leb b 15

-- tube: 1 to 64
abbrev pub tube_in : ℕ → Bool
tube_in v = leb 1 v && leb v 64

-- capacity of the board: 1 to 1,024 messages
abbrev pub capacity_in : ℕ → Bool
capacity_in c = leb 1 c && leb c 1024

-- quorum list, weak list: 1 to 64 node sets each
abbrev pub list_in : ℕ → Bool
list_in n = leb 1 n && leb n 64

-- scan: station 0 to 255, serial 0 to 4,294,967,295
abbrev pub scan_in : ℕ → ℕ → Bool
scan_in station serial = leb station 255 && leb serial 4294967295

-- ---- none

-- A ballot that may be none is told by its height: 0 for none and b + 1 for the ballot b, so that none lies below
-- every ballot, though it is stored as 255.
abbrev pub height_of : ℕ → ℕ
height_of x = pick (eqb x 255) 0 (suc x)

abbrev pub height_byte : ℕ → ℕ
height_byte zero = 255
height_byte (suc b) = b

-- ---- messages and cells

-- (tube, ballot)
abbrev pub Pair : Type 0
Pair = ℕ × ℕ

-- 1a has row and ballot; 1c adds tube; 2av and 2b have row, ballot, node, tube; 1b has all but tube.
-- A 1b's mbal is a height; its mval is 0 for none.
pub data Msg : Type 0 where
  m1a : (row bal : ℕ) → Msg
  m1b : (row bal node mbal mval : ℕ) → List Pair → Msg
  m1c : (row bal tube : ℕ) → Msg
  m2av : (row bal node tube : ℕ) → Msg
  m2b : (row bal node tube : ℕ) → Msg

abbrev pub kind_of : Msg → ℕ
kind_of (m1a r b) = 1
kind_of (m1b r b n x y ps) = 2
kind_of (m1c r b v) = 3
kind_of (m2av r b n v) = 4
kind_of (m2b r b n v) = 5

-- a message's fields, 0 or nothing where its kind lacks one
pub record Raw : Type 0 where
  pub kind : ℕ
  pub row : ℕ
  pub bal : ℕ
  pub node : ℕ
  pub tube : ℕ
  pub mbal : ℕ
  pub mval : ℕ
  pub pairs : List Pair

abbrev pub raw_of : Msg → Raw
raw_of (m1a r b) = record { kind = 1; row = r; bal = b; node = 0; tube = 0; mbal = 0; mval = 0; pairs = [] }
raw_of (m1b r b n x y ps) = record { kind = 2; row = r; bal = b; node = n; tube = 0; mbal = x; mval = y; pairs = ps }
raw_of (m1c r b v) = record { kind = 3; row = r; bal = b; node = 0; tube = v; mbal = 0; mval = 0; pairs = [] }
raw_of (m2av r b n v) = record { kind = 4; row = r; bal = b; node = n; tube = v; mbal = 0; mval = 0; pairs = [] }
raw_of (m2b r b n v) = record { kind = 5; row = r; bal = b; node = n; tube = v; mbal = 0; mval = 0; pairs = [] }

abbrev pub same_pairs : List Pair → List Pair → Bool
same_pairs [] [] = true
same_pairs [] (q ∷ qs) = false
same_pairs (p ∷ ps) [] = false
same_pairs (p ∷ ps) (q ∷ qs) = eqb p.0 q.0 && eqb p.1 q.1 && same_pairs ps qs

abbrev pub same_raw : Raw → Raw → Bool
same_raw x y = eqb x.kind y.kind && eqb x.row y.row && eqb x.bal y.bal && eqb x.node y.node
    && eqb x.tube y.tube && eqb x.mbal y.mbal && eqb x.mval y.mval && same_pairs x.pairs y.pairs

-- two messages are equal
abbrev pub same_msg : Msg → Msg → Bool
same_msg x y = same_raw (raw_of x) (raw_of y)

-- max_bal and max_vbal are heights; max_vval is 0 for none; the pairs are the 2av messages sent
pub record Cell : Type 0 where
  pub max_bal : ℕ
  pub max_vbal : ℕ
  pub max_vval : ℕ
  pub pairs : List Pair

-- "Opening sets 255, 255, 0, 0 and zero pairs."
abbrev pub fresh : Cell
fresh = record { max_bal = 0; max_vbal = 0; max_vval = 0; pairs = [] }

-- ---- the room, and what stands in it

pub record Room : Type 0 where
  pub nodes : ℕ
  pub faulty : ℕ
  pub rows : ℕ
  pub capacity : ℕ
  pub quorums : List ℕ
  pub weaks : List ℕ

-- what was sent, the cells by row and node, the heard messages by node and number, the foreign marks by node, the
-- scans (station, serial) in order
pub record State : Type 0 where
  pub board : List Msg
  pub cells : ℕ → ℕ → Cell
  pub heard : ℕ → ℕ → Bool
  pub marks : ℕ → Bool
  pub intake : List (ℕ × ℕ)
