-- How the reader holds what the definitions find.
use Rattle.std.specs.Prelude.{List, [], ◌∷◌, ℕ, ◌+◌, ◌*◌, eqb, ltb, length, get_or, set, Option, option_map}
use Rattle.rules.specs.Tests.{pick, one}
use Rattle.rules.specs.Words.{Pair}
use Rattle.rules.specs.Lent.{pair_bytes}
use Rattle.step.specs.declared.Post.TheVariants.{OneB, Relay, Accept}
use Rattle.step.specs.declared.Step.TheVariants as step
use Rattle.lines.specs.declared.Heading.TheVariants as heading
use Rattle.lines.specs.declared.Line.{Line}
use Rattle.lines.specs.declared.Line.TheVariants.{Heading, Step}
use Rattle.lines.specs.declared.trying.Form.{Form}
use Rattle.lines.specs.declared.trying.Form.TheVariants.{Nodes, Faulty, Rows, Capacity, Quorum, Weak, Scan, Send1a, Send1b, Send1c, Send2av, Send2b, Hear, Foreign1b, Foreign2av, Foreign2b}

-- how many pairs, and the first sixteen
abbrev pub held_pairs : Option (List Pair) → Option (ℕ × List ℕ)
held_pairs o = option_map (λ ps. (length ps, pair_bytes ps)) o

-- the pair numbered k is kept if it is one of the first sixteen
abbrev pub kept : List ℕ → ℕ → ℕ → ℕ → List ℕ
kept ps k v b = pick (ltb k 16) (set (set ps (2 * k) v) (2 * k + 1) b) ps

-- how many numbers a form has
abbrev pub marks : List ℕ → ℕ
marks [] = 0
marks (x ∷ f) = one (eqb x 35) + marks f

-- the line that each form makes, by its name
abbrev pub line_by : Form → List ℕ → ℕ → Line
line_by Nodes n c = Heading (heading.Nodes (get_or n 0 0))
line_by Faulty n c = Heading (heading.Faulty (get_or n 0 0))
line_by Rows n c = Heading (heading.Rows (get_or n 0 0))
line_by Capacity n c = Heading (heading.Capacity (get_or n 0 0))
line_by Quorum n c = Heading (heading.Quorum (get_or n 0 0))
line_by Weak n c = Heading (heading.Weak (get_or n 0 0))
line_by Scan n c = Step (step.Scan (get_or n 0 0) (get_or n 1 0))
line_by Send1a n c = Step (step.Send1a (get_or n 0 0) (get_or n 1 0))
line_by Send1b n c = Step (step.Send1b (get_or n 0 0) (get_or n 1 0) (get_or n 2 0))
line_by Send1c n c = Step (step.Send1c (get_or n 0 0) (get_or n 1 0) (get_or n 2 0))
line_by Send2av n c = Step (step.Send2av (get_or n 0 0) (get_or n 1 0) (get_or n 2 0) (get_or n 3 0))
line_by Send2b n c = Step (step.Send2b (get_or n 0 0) (get_or n 1 0) (get_or n 2 0) (get_or n 3 0))
line_by Hear n c = Step (step.Hear (get_or n 0 0) (get_or n 1 0))
line_by Foreign1b n c = Step (step.Foreign (OneB (record { row = get_or n 0 0; ballot = get_or n 1 0; node = get_or n 2 0; mbal = get_or n 3 0; mval = get_or n 4 0; count = c })))
line_by Foreign2av n c = Step (step.Foreign (Relay (record { row = get_or n 0 0; ballot = get_or n 1 0; node = get_or n 2 0; tube = get_or n 3 0 })))
line_by Foreign2b n c = Step (step.Foreign (Accept (record { row = get_or n 0 0; ballot = get_or n 1 0; node = get_or n 2 0; tube = get_or n 3 0 })))
