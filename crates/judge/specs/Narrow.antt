-- What a test that narrows numbers says: nothing where it fails, and where it passes the same numbers as the room's words.
use Rattle.std.specs.Prelude.{◌≡◌, Bool, true, false, ℕ, ◌≤◌, ◌<◌, Option, MatchOption}
use Rattle.rules.specs.declared.House.{House}
use Rattle.rules.specs.declared.Row.{Row}
use Rattle.rules.specs.declared.Ballot.{Ballot}
use Rattle.rules.specs.declared.Node.{Node}
use Rattle.rules.specs.declared.Bid.{Bid}

abbrev pub Tested : {A : Type 0} → Bool → (A → Type 0) → Option A → Type 0
Tested b P r = MatchOption r (b ≡ false) (λ x. (b ≡ true) × P x)

-- a node, and a message's number
abbrev pub Heard : ℕ → ℕ → Node × ℕ → Type 0
Heard n k x = (x.0.0 ≡ n) × (x.1 ≡ k)

-- a row and a ballot
abbrev pub Lead : ℕ → ℕ → Row × Ballot → Type 0
Lead r b x = (x.0.0 ≡ r) × (x.1.0 ≡ b)

-- a row, a ballot and a node
abbrev pub Seat : ℕ → ℕ → ℕ → Row × Ballot × Node → Type 0
Seat r b n x = (x.0.0 ≡ r) × (x.1.0 ≡ b) × (x.2.0 ≡ n)

-- The row is one of the house's rows, counted from one, and the node one of its nodes, counted from zero.
abbrev pub Seated : House → ℕ → ℕ → Type 0
Seated h r n = (1 ≤ r) × (r ≤ h.rows) × (n < h.nodes)

abbrev pub Offer : ℕ → ℕ → ℕ → Bid → Type 0
Offer r b v x = (x.row.0 ≡ r) × (x.ballot.0 ≡ b) × (x.tube.0 ≡ v)

-- a node, and a tube in a row's ballot
abbrev pub Cast : ℕ → ℕ → ℕ → ℕ → Node × Bid → Type 0
Cast r n b v x = (x.0.0 ≡ n) × Offer r b v x.1
