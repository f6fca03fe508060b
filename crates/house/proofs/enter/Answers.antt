-- A scan is stored after the last, and the count of tubes raised.
use native.Mathlib.Numerals.{add-one}
use Rattle.house.proofs.enter.Goals as goal

pub returns : goal.returns
returns c = rw add-one
