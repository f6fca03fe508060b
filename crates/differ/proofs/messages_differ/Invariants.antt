-- Messages pass one by one: each is none of those before it, and the table then has it too.
use mathlib.Core.Path.{◌≡◌}
use mathlib.Core.Bool.{true}
use Rattle.rules.specs.Tests.{all_below}
use Rattle.differ.specs.Differ.{new_message, Table}
use Rattle.differ.proofs.messages_differ.Given as goal

abbrev pub invariant-loop-k : goal.invariant-loop-k
invariant-loop-k l = record { new : all_below (new_message l.board) l.k ≡ true; table : Table l.board l.slots l.k }
