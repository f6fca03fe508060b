-- Two whole runs in the four room, from opening to a row's outcome: with f foreign stations, and with f + 1.
use Rattle.std.specs.Prelude.{◌≡◌, List, [], ◌∷◌, ◌++◌, map, ℕ}
use Rattle.rules.specs.Tests.{bit, count}
use Rattle.rules.specs.Words.{Room}
use Rattle.rules.specs.Lent.{room_of, read}
use Rattle.rules.specs.Steps.{Call, scan, c1a, c1b, c1c, c2av, c2b, hear, foreign, p2av, p2b}
use Rattle.rules.specs.Book.{Outcome, agreed, split, outcome}
use Rattle.rules.specs.Replies.{runs}
use Rattle.rules.specs.Cases.{four, start, bare1b}

-- the four room, with room for 32 messages
abbrev pub wide : Room
wide = record { nodes = four.nodes; faulty = four.faulty; rows = 1; capacity = 32; quorums = four.quorums; weaks = four.weaks }

-- how a run ends: how many messages are on the board, how many nodes are marked, and the outcome of row 1
pub record Ending : Type 0 where
  pub sent : ℕ
  pub marked : ℕ
  pub row : Outcome

unfoldable pub ending : List Call → Ending
ending cs = let m = runs (start wide) cs in record {
  sent = m.house.count;
  marked = count (bit m.house.marks) m.house.nodes;
  row = outcome (room_of m.house) (read m) 1;
}

-- two tubes scanned, and a 1a: message 0
abbrev pub begins : List Call
begins = scan 3 70 ∷ scan 4 70 ∷ c1a 1 0 ∷ []

-- the node hears three messages
abbrev pub hears : ℕ → ℕ → ℕ → ℕ → List Call
hears n i j k = hear n i ∷ hear n j ∷ hear n k ∷ []

-- under the node's number: a 2av and a 2b of the tube
abbrev pub pushes : ℕ → ℕ → List Call
pushes n v = foreign (p2av 1 0 n v) ∷ foreign (p2b 1 0 n v) ∷ []

-- Node 3 is foreign: it relays and votes both tubes. Nodes 0 and 1 keep the rules with tube 1, node 2 is silent.
abbrev pub one_foreign : List Call
one_foreign = begins
    ++ (c1b 1 0 0 ∷ c1b 1 1 0 ∷ bare1b 0 3 255 0 ∷ []) ++ hears 0 1 2 3 ++ hears 1 1 2 3
    ++ (c1c 1 0 1 ∷ []) ++ pushes 3 2 ++ pushes 3 1 ++ (c2av 1 0 0 1 ∷ c2av 1 1 0 1 ∷ c2b 1 0 0 1 ∷ c2b 1 1 0 1 ∷ [])

-- Nodes 0 and 1 are foreign: they relay and vote tube 1 with node 2 and tube 2 with node 3, which both keep the rules.
abbrev pub two_foreign : List Call
two_foreign = begins
    ++ (bare1b 0 0 255 0 ∷ bare1b 0 1 255 0 ∷ c1b 1 2 0 ∷ c1b 1 3 0 ∷ []) ++ hears 2 1 2 3 ++ hears 3 1 2 4
    ++ (c1c 1 0 1 ∷ c1c 1 0 2 ∷ c2av 1 2 0 1 ∷ c2av 1 3 0 2 ∷ []) ++ pushes 0 1 ++ pushes 1 1 ++ pushes 0 2 ++ pushes 1 2
    ++ (c2b 1 2 0 1 ∷ c2b 1 3 0 2 ∷ [])

-- With f marked nodes the row has its tube, with f + 1 it splits.
abbrev pub RunsEnd : Type 0
RunsEnd = map ending (one_foreign ∷ two_foreign ∷ [])
    ≡ record { sent = 13; marked = 1; row = agreed 1 } ∷ record { sent = 19; marked = 2; row = split } ∷ []
