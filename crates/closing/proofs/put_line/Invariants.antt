-- `put_line` meets its contract: what the fields left would write after those written is the whole line.
use Rattle.std.proofs.Common.{List, ℕ, ◌+◌, ◌≤◌, drop}
use Rattle.closing.specs.Given.{Wrote}
use Rattle.closing.specs.Fields.{words_of, in_words, line_most}
use Rattle.closing.proofs.put_line.Given as goal

abbrev pub invariant-loop-word : goal.invariant-loop-word
invariant-loop-word l = record {
  rest : (end : ℕ) (s : List ℕ) → Wrote l.out l.end (in_words (words_of (drop l.word-index l.fields))) end s → Wrote l.initial.out l.at (in_words (words_of l.fields)) end s;
  room : l.end + line_most (words_of (drop l.word-index l.fields)) ≤ l.at + line_most (words_of l.fields);
}
