-- A number that is a byte.
use Rattle.std.specs.Prelude.{Bool, ℕ, leb}

abbrev pub byte : ℕ → Bool
byte x = leb x 255
