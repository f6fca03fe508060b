-- `write_waiting` meets its contract: each turn writes one tube's line more, if it waits.
use Prim.Native.Nat.{◌+◌, ◌*◌, ◌≤◌}
use Rattle.rules.specs.Words.{Room, State}
use Rattle.closing.specs.Given.{Wrote, waiting_text}
use Rattle.closing.specs.Part.{Of}
use Rattle.closing.proofs.Rows.{waiting_to}
use Rattle.closing.proofs.part.Closing.write_waiting.Given as goal

abbrev pub invariant-loop-k : goal.invariant-loop-k
invariant-loop-k l = record { wrote : (ρ : Room) (s : State) → Of ρ s l.self → Wrote l.initial.out l.from (waiting_text s (waiting_to ρ s l.k)) l.at l.out; most : l.at ≤ l.from + 56 * l.k }
