-- The sets of nodes that known safe is read from: what each 1b tells, and what is gathered of those heard.
use Rattle.std.specs.Prelude.{Bool, true, false, ◌&&◌, List, ℕ, ◌*◌, ◌≤◌, ◌<◌, length, get_or}
use Rattle.rules.specs.Tests.{pick, any, bit}
use Rattle.rules.specs.Words.{height_of, Pair, Msg}
use Rattle.rules.specs.Lent.{pairs_of, meaning, room_of}
use Rattle.rules.specs.Steps.{empty, low, shown, tells, full}
use Rattle.rules.specs.declared.House.{House}
use Rattle.rules.specs.declared.Message.{Message}
use Rattle.sets.specs.Sets.{joined, Gathered}
use Rattle.safe.specs.declared.Ask.{Ask}
use Rattle.safe.specs.declared.Ask.TheVariants.{Empty, Low, Shown}
use Rattle.safe.specs.declared.Told.{Told}

-- the rules' test of a 1b's mbal, mval and pairs
abbrev pub asked : Ask → ℕ → ℕ → List Pair → Bool
asked Empty = empty
asked (Low c v) = low c v
asked (Shown c v) = shown c v

abbrev pub ask_at : Bool → ℕ → ℕ → Ask
ask_at w c v = pick w (Shown c v) (Low c v)

-- a stored 1b passes, whatever its row, ballot and node
abbrev pub says : Ask → Message → Bool
says k m = asked k (height_of m.mbal) m.mval (pairs_of m.count m.pairs)

-- the set with the message's node, if it passes
abbrev pub with_teller : ℕ → Message → Ask → ℕ
with_teller set m k = pick (says k m) (joined set m.node) set

-- a stored message is a 1b of this row and ballot
abbrev pub promise : ℕ → ℕ → Message → Bool
promise r b m = tells (λ x y ps. true) r b m.node (meaning m)

-- the sets are those of the messages l
pub record Tells (t : Told) (r b v : ℕ) (l : List Msg) : Type 0 where
  pub none : Gathered t.none (λ a. any (tells (asked Empty) r b a) l)
  pub low : (c : ℕ) → c < 16 → Gathered (get_or t.low c 0) (λ a. any (tells (asked (ask_at false c v)) r b a) l)
  pub shown : (c : ℕ) → c < 16 → Gathered (get_or t.shown c 0) (λ a. any (tells (asked (ask_at true c v)) r b a) l)

-- (ii) for one c, of the sets
abbrev pub safe_at : House → Told → ℕ → Bool
safe_at h t c = full (room_of h) (room_of h).quorums (bit (get_or t.low c 0)) && full (room_of h) (room_of h).weaks (bit (get_or t.shown c 0))

-- counts within limits, areas long enough, a node of the room and a ballot
pub record Ready (h : House) (s k : List ℕ) (n b : ℕ) : Type 0 where
  pub nodes : h.nodes ≤ 8
  pub listed : h.listed ≤ 64
  pub backers : h.backers ≤ 64
  pub count : h.count ≤ 1024
  pub board : 40 * h.count ≤ length s
  pub heard : 128 * h.nodes ≤ length k
  pub node : n < h.nodes
  pub ballot : b ≤ 16
