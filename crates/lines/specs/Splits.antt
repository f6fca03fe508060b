-- Where a text is parted: the parts between the places of a byte.
use Rattle.std.specs.Prelude.{List, [], ◌∷◌, ℕ, eqb}
use Rattle.rules.specs.Tests.{pick}

abbrev pub onto : ℕ → List (List ℕ) → List (List ℕ)
onto b [] = (b ∷ []) ∷ []
onto b (p ∷ ps) = (b ∷ p) ∷ ps

-- the parts of a text between the bytes x
abbrev pub parts : ℕ → List ℕ → List (List ℕ)
parts x [] = [] ∷ []
parts x (b ∷ s) = pick (eqb b x) ([] ∷ parts x s) (onto b (parts x s))
