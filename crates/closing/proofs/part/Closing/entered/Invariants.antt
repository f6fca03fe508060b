-- `entered` meets its contract: each turn counts one row more.
use mathlib.Core.Path.{◌≡◌}
use mathlib.Core.List.{map}
use Prim.Native.Nat.{◌≤◌}
use Rattle.rules.specs.Tests.{up_to}
use Rattle.rules.specs.Words.{Room, State}
use Rattle.rules.specs.Book.{entry}
use Rattle.rules.specs.Laws.{entered}
use Rattle.closing.specs.Part.{Of}
use Rattle.closing.proofs.part.Closing.entered.Given as goal

abbrev pub invariant-loop-k : goal.invariant-loop-k
invariant-loop-k l = record { value : (ρ : Room) (s : State) → Of ρ s l.self → l.count ≡ entered (map (entry ρ s) (up_to l.k)); most : l.count ≤ l.k }
