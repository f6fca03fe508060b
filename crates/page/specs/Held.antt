-- How the code holds a sheet's headings, and what it promises of opening.
use Rattle.std.specs.Prelude.{◌≡◌, List, ℕ, ◌+◌, ◌≤◌, [], ◌∷◌, take}
use Rattle.rules.specs.Lent.{Memory}
use Rattle.rules.specs.Replies.{open_reply}
use Rattle.closing.specs.Printed.{answer_text}
use Rattle.page.specs.Sheet as sheet
use Rattle.page.specs.declared.Due.{Due}
use Rattle.page.specs.declared.Due.TheVariants.{Nodes, Faulty, Rows, Capacity, Quorum, Weak, Weaks, Step, Nothing, Later}
use Rattle.page.specs.declared.Listed.{Listed}
use Rattle.page.specs.declared.Heads.{Heads}

-- the definition's number for what is due
abbrev pub due_of : Due → ℕ
due_of Nodes = 0
due_of Faulty = 1
due_of Rows = 2
due_of Capacity = 3
due_of Quorum = 4
due_of Weak = 5
due_of Weaks = 6
due_of Step = 7
due_of Nothing = 8
due_of (Later n) = 9 + n

-- the sets of a list: all that are held, if its count is higher
abbrev pub sets_of : Listed → List ℕ
sets_of s = take s.count s.sets

abbrev pub heads_of : Heads → sheet.Heads
heads_of h = record {
  due = due_of h.due;
  counts = h.nodes ∷ h.faulty ∷ h.rows ∷ h.capacity ∷ [];
  quorums = sets_of h.quorums;
  weaks = sets_of h.weaks;
}

-- after opening: its number k, and the headings g, the memory m' and what is printed are those of the definition
pub record Started (h : sheet.Heads) (m : Memory) (g : sheet.Heads) (m' : Memory) (k : ℕ) : Type 0 where
  pub number : k ≡ open_reply (sheet.room_for h) m
  pub turn : sheet.turn g m' (answer_text k 0) ≡ sheet.opens h m
  pub small : k ≤ 5
