-- When a message is none of those before it, and a table of slots to look for it in.
use Rattle.std.specs.Prelude.{◌≡◌, Bool, false, not, List, ℕ, suc, ◌+◌, ◌-◌, ◌*◌, ◌%◌, ◌≤◌, ◌<◌, length, get_or}
use Rattle.rules.specs.Tests.{all_below, eqs}
use Rattle.rules.specs.Lent.{window}

-- the message numbered k is none of those before it, by its bytes
abbrev pub new_message : List ℕ → ℕ → Bool
new_message s k = all_below (λ j. not (eqs (window 40 j s) (window 40 k s))) k

-- a message's fields, without its pairs, to a number below 2,039
unfoldable pub mix : List ℕ → ℕ
mix s = (((get_or s 0 0 * 1 + get_or s 1 0 * 31) + (get_or s 2 0 * 961 + get_or s 3 0 * 1245)) + ((get_or s 4 0 * 1893 + get_or s 5 0 * 1591) + (get_or s 6 0 * 385 + get_or s 7 0 * 1740))) % 2039

-- where the message numbered k is looked for first
abbrev pub slot_of : List ℕ → ℕ → ℕ
slot_of s k = mix (window 40 k s)

-- message j stands in a slot before e, at or after the one where it is looked for first
abbrev pub Stands : List ℕ → List ℕ → ℕ → ℕ → Type 0
Stands s slots j e = (t : ℕ) × (slot_of s j ≤ t) × (t < e) × (get_or slots t 0 ≡ suc j)

-- Slots hold messages below k by number, plus 1; 0 is an empty one. Each such message stands before any empty slot at or
-- after the one where it is looked for first.
pub record Table (s slots : List ℕ) (k : ℕ) : Type 0 where
  pub long : length slots ≡ 3073
  pub low : (t : ℕ) → get_or slots t 0 ≤ k
  pub held : (j e : ℕ) → j < k → slot_of s j ≤ e → e < 3072 → get_or slots e 0 ≡ 0 → Stands s slots j e

-- a slot has another message than k
abbrev pub Other : List ℕ → List ℕ → ℕ → ℕ → Type 0
Other s slots k t = (1 ≤ get_or slots t 0) × (eqs (window 40 (get_or slots t 0 - 1) s) (window 40 k s) ≡ false)

-- what a probe from slot h finds for the message numbered k: it passed slots of other messages up to r, which is empty or
-- the end; or an equal message
pub record Probed (s slots : List ℕ) (k h r : ℕ) : Type 0 where
  pub from : h ≤ r
  pub passed : r ≤ 3072 → (t : ℕ) → h ≤ t → t < r → Other s slots k t
  pub empty : r < 3072 → get_or slots r 0 ≡ 0
  pub equal : 3072 < r → new_message s k ≡ false
