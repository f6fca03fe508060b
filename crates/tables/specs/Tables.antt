-- What the lengths, the tables and intake are asked, over just what each test reads.
use Rattle.std.specs.Prelude.{Bool, not, ◌&&◌, List, ℕ, ◌*◌, ◌^◌, leb, ltb, get_or}
use Rattle.rules.specs.Tests.{all_below, bit, count}
use Rattle.rules.specs.Words.{Room}
use Rattle.rules.specs.Lent.{same_scan}
use Rattle.tables.specs.declared.Asked.{Asked}
use Rattle.tables.specs.declared.Asked.TheVariants.{Present, Shares, Strong}

-- areas of these lengths serve a room of these sizes
abbrev pub lengths : ℕ → ℕ → ℕ → ℕ → ℕ → ℕ → Bool
lengths nodes rows capacity b c k = leb (40 * capacity) b && (leb (36 * (nodes * rows)) c && leb (128 * nodes) k)

-- two sets share more than f nodes
abbrev pub share : ℕ → ℕ → ℕ → ℕ → Bool
share nodes faulty p q = ltb faulty (count (λ n. bit p n && bit q n) nodes)

-- what the tables ask of a set
abbrev pub passes : ℕ → ℕ → Asked → ℕ → Bool
passes nodes faulty Present q = ltb q (2 ^ nodes)
passes nodes faulty (Shares p) q = share nodes faulty p q
passes nodes faulty Strong q = ltb faulty (count (bit q) nodes)

-- a room with these tables; they do not look at its rows and capacity
abbrev pub with_lists : ℕ → ℕ → List ℕ → List ℕ → Room
with_lists nodes faulty quorums weaks = record { nodes = nodes; faulty = faulty; rows = 0; capacity = 0; quorums = quorums; weaks = weaks }

-- the scan numbered i of intake
abbrev pub scan_at : List ℕ → List ℕ → ℕ → ℕ × ℕ
scan_at a b i = (get_or a i 0, get_or b i 0)

-- it is none of those before it
abbrev pub new_scan : List ℕ → List ℕ → ℕ → Bool
new_scan a b k = all_below (λ j. not (same_scan (scan_at a b j) (scan_at a b k))) k
