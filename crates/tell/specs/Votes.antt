-- The votes of a row: a node set for each ballot and tube, and what the board must be for them to be counted.
use Rattle.std.specs.Prelude.{◌≡◌, Bool, false, ◌&&◌, List, ℕ, ◌+◌, ◌-◌, ◌*◌, ◌≤◌, ◌<◌, T, eqb, length, get_or, set}
use Rattle.rules.specs.Tests.{pick, any, all, all_below, bit}
use Rattle.rules.specs.Words.{Msg}
use Rattle.rules.specs.Lent.{msg_at, board_of, room_of, limits}
use Rattle.rules.specs.Steps.{full, is2b}
use Rattle.rules.specs.declared.House.{House}
use Rattle.rules.specs.declared.Message.{Message}
use Rattle.board.specs.Asked.{Plain}
use Rattle.sets.specs.Sets.{joined}

-- the counts are in limits, the messages can be read and are within the room's limits, and no votes fill no quorum
pub record Countable (h : House) (s : List ℕ) : Type 0 where
  pub nodes : h.nodes ≤ 8
  pub rows : h.rows ≤ 64
  pub listed : h.listed ≤ 64
  pub tubes : h.tubes ≤ 64
  pub board : Plain s h.count
  pub limits : T (all (limits (room_of h)) (board_of s h.count))
  pub peopled : full (room_of h) (room_of h).quorums (bit 0) ≡ false

-- the place of a ballot and a tube among the votes: a tube's sixteen ballots stand side by side
abbrev pub slot : ℕ → ℕ → ℕ
slot b v = 16 * (v - 1) + b

-- the sixteen sets from a place on are empty
abbrev pub unvoted : List ℕ → ℕ → Bool
unvoted votes at = all_below (λ b. eqb (get_or votes (at + b) 0) 0) 16

-- the votes of a row on these messages: the nodes with a 2b for each ballot from 0 to 15 and tube from 1 to 64
unfoldable pub Counted : List Msg → ℕ → List ℕ → Type 0
Counted l row votes = (b v a : ℕ) → b < 16 → 1 ≤ v → v ≤ 64 → a < 8 → bit (get_or votes (slot b v) 0) a ≡ any (is2b row b v a) l

-- the votes with one node's for a tube in a ballot
unfoldable pub with_vote : List ℕ → ℕ → ℕ → ℕ → List ℕ
with_vote votes b v n = set votes (slot b v) (joined (get_or votes (slot b v) 0) n)

-- the votes with that of one message more, if it is a 2b of this row
unfoldable pub voted : List ℕ → ℕ → Message → List ℕ
voted votes row m = pick (eqb m.kind 5 && eqb m.row row) (with_vote votes m.bal m.tube m.node) votes

-- the message numbered k can be read, and if it is a 2b, its ballot and tube have a place among the votes
pub record Within (s : List ℕ) (k : ℕ) : Type 0 where
  pub number : k < 1024
  pub long : 40 * k + 40 ≤ length s
  pub slot : (msg_at s k).kind ≡ 5 → ((msg_at s k).bal ≤ 15) × ((1 ≤ (msg_at s k).tube) × ((msg_at s k).tube ≤ 64))
