-- A row's outcome as the code tells it.
use Rattle.std.specs.Prelude.{◌≡◌, Bool, true, false, List, Option, None, Some, ℕ, ◌≤◌, ◌<◌, get_or}
use Rattle.rules.specs.Tests.{any, any_below, all_in, bit}
use Rattle.rules.specs.Words.{Room, State}
use Rattle.rules.specs.Lent.{memory, room_of, read}
use Rattle.rules.specs.Book.{Outcome, unchosen, agreed, split}
use Rattle.rules.specs.declared.House.{House}
use Rattle.tell.specs.declared.RowTube.{RowTube}
use Rattle.tell.specs.declared.RowTube.TheVariants.{Unchosen, Agreed, Split}
use Rattle.tell.specs.Votes.{slot}

-- so it is in the room of a house record and a board, whatever the cells and the heard bits are
abbrev pub Seen : House → List ℕ → (Room → State → Type 0) → Type 0
Seen h s P = (cells heard : List ℕ) → P (room_of h) (read (memory h s cells heard))

abbrev pub outcome_of : RowTube → Outcome
outcome_of Unchosen = unchosen
outcome_of (Agreed t) = agreed t.0
outcome_of Split = split

-- some quorum is full of these votes
abbrev pub filled : ℕ → List ℕ → ℕ → Bool
filled nodes quorums have = any (λ q. all_in nodes q (bit have)) quorums

-- some quorum is full of a tube's votes in one ballot
unfoldable pub carried : ℕ → List ℕ → List ℕ → ℕ → Bool
carried nodes quorums votes v = any_below (λ b. filled nodes quorums (get_or votes (slot b v) 0)) 16

-- r is the first number from start on that passes, up to 64
pub record First (p : ℕ → Bool) (start r : ℕ) : Type 0 where
  pub low : start ≤ r
  pub high : r ≤ 64
  pub none : (w : ℕ) → start ≤ w → w < r → p w ≡ false
  pub here : p r ≡ true

-- the first number from start on that passes, up to 64, or none
abbrev pub Next : (ℕ → Bool) → ℕ → Option ℕ → Type 0
Next p start (Some r) = First p start r
Next p start None = (w : ℕ) → start ≤ w → w ≤ 64 → p w ≡ false
