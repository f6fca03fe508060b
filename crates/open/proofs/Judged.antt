-- What opening replies, by its tests in their order.
use mathlib.Core.Path.{◌≡◌, sym}
use mathlib.Core.Bool.{Bool}
use Prim.Native.Nat.{ℕ}
use Rattle.rules.specs.Tests.{pick, first}
use Rattle.rules.specs.Words.{Room}
use Rattle.rules.specs.Lent.{Memory, tables}
use Rattle.rules.specs.Replies.{room_counts, room_long, open_reply}

-- 1, 5, and what the lists say
pub judged : (ρ : Room) (m : Memory) (a b : Bool) (k : ℕ) → room_counts ρ ≡ a → room_long ρ m ≡ b → first (tables ρ) ≡ k → pick a (pick b k 5) 1 ≡ open_reply ρ m
unfolding open_reply
judged ρ m a b k p q r = λ i. pick (sym p i) (pick (sym q i) (sym r i) 5) 1
