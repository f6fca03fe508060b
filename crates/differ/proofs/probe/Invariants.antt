-- Slot by slot: every slot passed has another message.
use Prim.Native.Nat.{ℕ, ◌≤◌, ◌<◌}
use Rattle.differ.specs.Differ.{Other}
use Rattle.differ.proofs.probe.Given as goal

abbrev pub invariant-loop-i : goal.invariant-loop-i
invariant-loop-i l = (t : ℕ) → l.h ≤ t → t < l.i → Other l.board l.slots l.k t
