-- What is asked of a pair, and how a list of pairs lies in 32 bytes.
use Rattle.std.specs.Prelude.{◌≡◌, Bool, not, ◌&&◌, List, ℕ, eqb, leb, ltb, length}
use Rattle.rules.specs.Words.{Pair, tube_in, bal_in}
use Rattle.rules.specs.Lent.{pairs_of, pair_bytes}
use Rattle.rules.specs.Steps.{reaches}
use Rattle.pairs.specs.declared.Ask.{Ask}
use Rattle.pairs.specs.declared.Ask.TheVariants.{Limits, Scanned, Below, Misses}

abbrev pub passes : Ask → Pair → Bool
passes Limits p = tube_in p.0 && bal_in p.1
passes (Scanned k) p = leb p.0 k
passes (Below b) p = ltb p.1 b
passes (Misses v c) p = not (eqb p.0 v && reaches c p.1)

-- a count and bytes that hold just this list
pub record Packed (l : List Pair) (n : ℕ) (s : List ℕ) : Type 0 where
  pub count : n ≡ length l
  pub bytes : s ≡ pair_bytes l
  pub back : pairs_of n s ≡ l
