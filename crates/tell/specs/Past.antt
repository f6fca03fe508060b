-- What a call is answered once memory passed the gate, and all that the book call does.
use Rattle.std.specs.Prelude.{◌≡◌, List, ℕ, eqb}
use Rattle.rules.specs.Tests.{pick, first}
use Rattle.rules.specs.Words.{Room, State}
use Rattle.rules.specs.Lent.{Memory}
use Rattle.rules.specs.Steps.{Call, book}
use Rattle.rules.specs.Book.{Outcome, unchosen, agreed, split}
use Rattle.rules.specs.Replies.{rules, tell, bare, valued, rows_after, waiting_after, Answer, Did}

unfoldable pub past : Room → State → Call → Answer
past ρ s c = pick (eqb (first (rules ρ s c)) 0) (tell ρ s c) (bare (first (rules ρ s c)))

-- what an asked row's outcome is told as
abbrev pub told : Outcome → Answer
told unchosen = valued 0
told (agreed v) = valued v
told split = bare 18

-- the book is lent p for rows and q for waiting tubes, and leaves p' and q' there
pub record BookDid (m : Memory) (p q p' q' : List ℕ) (a : Answer) : Type 0 where
  pub did : Did m (book p q) a m
  pub rows : p' ≡ rows_after m p q
  pub waiting : q' ≡ waiting_after m p q

-- the book's contract allows one outcome: its answer, and every byte of its two areas
abbrev pub BookSettled : Type 0
BookSettled = (m : Memory) (p q p₁ p₂ q₁ q₂ : List ℕ) (a a' : Answer) → BookDid m p q p₁ q₁ a → BookDid m p q p₂ q₂ a' → (a ≡ a') × ((p₁ ≡ p₂) × (q₁ ≡ q₂))
