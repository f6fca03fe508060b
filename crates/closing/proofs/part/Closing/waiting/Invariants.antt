-- `waiting` meets its contract: each turn counts one tube more.
use mathlib.Core.Path.{◌≡◌}
use Prim.Native.Nat.{◌≤◌}
use lib.ListN.{length}
use Rattle.rules.specs.Words.{Room, State}
use Rattle.closing.specs.Part.{Of}
use Rattle.closing.proofs.Rows.{waiting_to}
use Rattle.closing.proofs.part.Closing.waiting.Given as goal

abbrev pub invariant-loop-k : goal.invariant-loop-k
invariant-loop-k l = record { value : (ρ : Room) (s : State) → Of ρ s l.self → l.count ≡ length (waiting_to ρ s l.k); most : l.count ≤ l.k }
