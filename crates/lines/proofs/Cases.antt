-- The table of lines is right: one claim that the checker computes.
use mathlib.Core.Path.{◌≡◌, refl}
use mathlib.Core.List.{map}
use Rattle.lines.specs.Grammar.{by_form, line_as, fields_of, line_of, parsed}
use Rattle.lines.specs.Cases.{cases, read, told}

pub all_read : map read cases ≡ map told cases
unfolding by_form line_as fields_of line_of parsed
all_read = refl
