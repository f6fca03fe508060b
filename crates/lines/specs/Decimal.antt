-- Decimals as the sheet has them: without leading zeros, at most 4,294,967,295; how one is read and how one is written.
use Rattle.std.specs.Prelude.{Bool, ◌&&◌, List, [], ◌∷◌, ◌++◌, ℕ, zero, suc, ◌+◌, ◌-◌, ◌*◌, ◌/◌, ◌%◌, leb, ltb, drop, Option, None, Some}
use Rattle.rules.specs.Tests.{pick}

-- the largest number of a sheet
abbrev pub most : ℕ
most = 4294967295

-- the byte is a digit, 0 to 9
abbrev pub is_digit : ℕ → Bool
is_digit b = leb 48 b && leb b 57

-- the number v with one digit more
abbrev pub longer : ℕ → ℕ → ℕ
longer v b = v * 10 + (b - 48)

-- a digit may follow the number v: no leading zero, and no number above the largest
abbrev pub follows : ℕ → ℕ → Bool
follows v b = leb 1 v && leb (longer v b) most

-- the number that begins with v and goes on with the digits at the front of s, which has the place `at`; where it ends
abbrev pub onward : List ℕ → ℕ → ℕ → Option (ℕ × ℕ)
onward [] v at = Some (v, at)
onward (b ∷ s) v at = pick (is_digit b) (pick (follows v b) (onward s (longer v b) (suc at)) None) (Some (v, at))

-- the decimal at the front of s, which has the place `at`
abbrev pub decimal_in : List ℕ → ℕ → Option (ℕ × ℕ)
decimal_in [] at = None
decimal_in (b ∷ s) at = pick (is_digit b) (onward s (b - 48) (suc at)) None

-- the decimal at a place of a text, and where it ends
abbrev pub number_at : List ℕ → ℕ → Option (ℕ × ℕ)
number_at s at = decimal_in (drop at s) at

-- the digits of n, which has at most k + 1
abbrev pub spelt : ℕ → ℕ → List ℕ
spelt zero n = (48 + n) ∷ []
spelt (suc k) n = pick (ltb n 10) ((48 + n) ∷ []) (spelt k (n / 10) ++ ((48 + n % 10) ∷ []))

-- the digits of n, which is at most 4,294,967,295
unfoldable pub decimal : ℕ → List ℕ
decimal n = spelt 9 n
