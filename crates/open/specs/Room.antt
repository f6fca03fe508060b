-- The room that opening is asked for.
use Rattle.std.specs.Prelude.{◌≡◌, true, List, ℕ}
use Rattle.rules.specs.Tests.{all}
use Rattle.rules.specs.Words.{Room}
use Rattle.rules.specs.Lent.{present}
use Rattle.rules.specs.Replies.{room_counts}
use Rattle.open.specs.declared.Plan.{Plan}

-- from its numbers, its quorum list and its weak list
abbrev pub room : (nodes faulty rows capacity : ℕ) → (quorums weaks : List ℕ) → Room
room n f r c q w = record { nodes = n; faulty = f; rows = r; capacity = c; quorums = q; weaks = w }

-- from its plan
abbrev pub planned : Plan → Room
planned p = room p.nodes p.faulty p.rows p.capacity p.quorums.now p.weaks.now

-- a house record has room for it: its counts are in limits, its sets name present nodes
pub record Housed (ρ : Room) : Type 0 where
  pub counts : room_counts ρ ≡ true
  pub quorums : all (present ρ) ρ.quorums ≡ true
  pub weaks : all (present ρ) ρ.weaks ≡ true
