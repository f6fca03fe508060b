-- `write_rows` meets its contract: each turn writes one row's line more.
use Prim.Native.Nat.{◌*◌, ◌≤◌}
use Rattle.rules.specs.Words.{Room, State}
use Rattle.closing.specs.Given.{Wrote, rows_text}
use Rattle.closing.specs.Part.{Of}
use Rattle.closing.proofs.part.Closing.write_rows.Given as goal

abbrev pub invariant-loop-k : goal.invariant-loop-k
invariant-loop-k l = record { wrote : (ρ : Room) (s : State) → Of ρ s l.self → Wrote l.initial.out 0 (rows_text ρ s l.k) l.at l.out; most : l.at ≤ 68 * l.k }
