-- Filling a list: the input has given the entries before this one.
use Rattle.std.proofs.Common.{flat_map, take}
use Rattle.std.specs.Int.{w32, to_le_bytes}
use Rattle.std.specs.Io.KnownBytes.{Consumes}
use Rattle.input.proofs.read_list.Given as goal

abbrev pub invariant-loop-entry : goal.invariant-loop-entry
invariant-loop-entry g l =
    Consumes (g.R.Read.remaining l.initial.input) (g.R.Read.remaining l.input) (flat_map (to_le_bytes w32) (take l.entry-index l.entry-items))
