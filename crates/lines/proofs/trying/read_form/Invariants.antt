-- `read_form` meets its contract: each turn passes one byte of the form, and what the rest of the form says of the rest of the line is the same.
use Rattle.std.proofs.Common.{◌≡◌, ◌+◌, ◌≤◌, [], length, take, drop}
use Rattle.rules.specs.Tests.{fit}
use Rattle.lines.specs.Grammar.{by_form}
use Rattle.lines.specs.Held.{marks}
use Rattle.lines.proofs.trying.read_form.Given as goal

abbrev pub invariant-loop-x : goal.invariant-loop-x
invariant-loop-x l = record {
  same : by_form l.form l.s 0 [] ≡ by_form (drop l.x-index l.form) l.s l.at (take l.got l.numbers);
  held : fit 5 (take l.got l.numbers) ≡ l.numbers;
  room : l.got + marks (drop l.x-index l.form) ≤ 5;
  within : l.at ≤ length l.s;
}
