-- The sets for each c: those passed have the message's node where it passes.
use Rattle.std.proofs.Common.{ℕ, ◌≡◌, ◌<◌, get_or, length}
use Rattle.safe.specs.Safe.{ask_at, with_teller}
use Rattle.safe.proofs.grown.Given as goal

abbrev pub invariant-loop-c : goal.invariant-loop-c
invariant-loop-c l = record {
  long : length l.out ≡ 16;
  done : (j : ℕ) → j < l.c → get_or l.out j 0 ≡ with_teller (get_or l.sets j 0) l.m (ask_at l.weak j l.tube);
}
