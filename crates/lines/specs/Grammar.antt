-- "Chosen, book and sheet": which lines a sheet has, and what each of them says.
use Rattle.std.specs.Prelude.{Bool, ◌&&◌, List, [], ◌∷◌, ◌++◌, ℕ, ◌+◌, eqb, leb, ltb, length, get_or, drop, Option, Some, None, option_and_then, option_map, unwrap_or}
use Prim.Native.Char.{code}
use Prim.Native.String.{String, [] as no_more, ◌∷◌ as ◌and◌}
use Rattle.std.specs.Option.{option_or}
use Rattle.rules.specs.Tests.{pick, fit}
use Rattle.rules.specs.Words.{Pair}
use Rattle.rules.specs.Lent.{pair_bytes}
use Rattle.lines.specs.declared.Heading.TheVariants.{Nodes, Faulty, Rows, Capacity, Quorum, Weak}
use Rattle.step.specs.declared.Post.TheVariants.{OneB, Relay, Accept}
use Rattle.step.specs.declared.Step.TheVariants.{Scan, Send1a, Send1b, Send1c, Send2av, Send2b, Hear, Foreign}
use Rattle.lines.specs.declared.Line.{Line}
use Rattle.lines.specs.declared.Line.TheVariants.{Heading, Step, Bad}
use Rattle.lines.specs.declared.trying.Fields.{Fields}
use Rattle.lines.specs.declared.Parsed.{Parsed}
use Rattle.lines.specs.Splits.{parts}
use Rattle.lines.specs.Decimal.{number_at}

-- the bytes of a text
abbrev pub text : String → List ℕ
text no_more = []
text (c and s) = code c ∷ text s

-- the byte x stands at a place of s
abbrev pub stands : ℕ → List ℕ → ℕ → Bool
stands x s at = ltb at (length s) && eqb (get_or s at 0) x

-- the place is the end of s
abbrev pub ends : {A : Type 0} → List ℕ → ℕ → A → Option A
ends s at a = pick (eqb at (length s)) (Some a) None

-- what comes of what was found
abbrev pub given : {A B : Type 0} → Option A → (A → Option B) → Option B
given o f = option_and_then f o

-- ---- pairs, as 2:0,3:1 or nothing

abbrev pub pair_in : List ℕ → Option Pair
pair_in s = given (number_at s 0) (λ (v, at). pick (stands 58 s at) (given (number_at s (at + 1)) (λ (b, at'). ends s at' (v, b))) None)

-- the pairs that the parts are, after those in hand
abbrev pub pairs_in : List (List ℕ) → List Pair → Option (List Pair)
pairs_in [] ps = Some ps
pairs_in (s ∷ l) ps = given (pair_in s) (λ p. pairs_in l (ps ++ (p ∷ [])))

abbrev pub pairs_of : List ℕ → Option (List Pair)
pairs_of [] = Some []
pairs_of (b ∷ s) = pairs_in (parts 44 (b ∷ s)) []

-- ---- a form: # stands for a number, * for pairs up to the end, any other byte for itself

-- what a text has for a form's marks: its numbers, of the five that a form may have, how many pairs, and the first sixteen
abbrev pub held : List ℕ → List Pair → Fields
held ns ps = record { numbers = fit 5 ns; count = length ps; pairs = pair_bytes ps }

-- what the text s says by a form from a place on, after the numbers in hand
unfoldable pub by_form : List ℕ → List ℕ → ℕ → List ℕ → Option Fields
by_form [] s at ns = ends s at (held ns [])
by_form (x ∷ f) s at ns =
    let counted = given (number_at s at) (λ (n, at'). by_form f s at' (ns ++ (n ∷ []))) in
    let listed = option_map (held ns) (pairs_of (drop at s)) in
    let same = pick (stands x s at) (by_form f s (at + 1) ns) None in
    pick (eqb x 35) counted (pick (eqb x 42) listed same)

-- a form, and the line that its numbers and its count of pairs make
abbrev pub Form : Type 0
Form = List ℕ × (List ℕ → ℕ → Line)

abbrev pub forms : List Form
forms =
    (text "nodes=#", λ n c. Heading (Nodes (get_or n 0 0)))
    ∷ (text "faulty=#", λ n c. Heading (Faulty (get_or n 0 0)))
    ∷ (text "rows=#", λ n c. Heading (Rows (get_or n 0 0)))
    ∷ (text "capacity=#", λ n c. Heading (Capacity (get_or n 0 0)))
    ∷ (text "quorum=#", λ n c. Heading (Quorum (get_or n 0 0)))
    ∷ (text "weak=#", λ n c. Heading (Weak (get_or n 0 0)))
    ∷ (text "do=scan station=# serial=#", λ n c. Step (Scan (get_or n 0 0) (get_or n 1 0)))
    ∷ (text "do=1a row=# ballot=#", λ n c. Step (Send1a (get_or n 0 0) (get_or n 1 0)))
    ∷ (text "do=1b row=# ballot=# node=#", λ n c. Step (Send1b (get_or n 0 0) (get_or n 1 0) (get_or n 2 0)))
    ∷ (text "do=1c row=# ballot=# tube=#", λ n c. Step (Send1c (get_or n 0 0) (get_or n 1 0) (get_or n 2 0)))
    ∷ (text "do=2av row=# ballot=# node=# tube=#", λ n c. Step (Send2av (get_or n 0 0) (get_or n 1 0) (get_or n 2 0) (get_or n 3 0)))
    ∷ (text "do=2b row=# ballot=# node=# tube=#", λ n c. Step (Send2b (get_or n 0 0) (get_or n 1 0) (get_or n 2 0) (get_or n 3 0)))
    ∷ (text "do=hear node=# message=#", λ n c. Step (Hear (get_or n 0 0) (get_or n 1 0)))
    ∷ (text "do=foreign1b row=# ballot=# node=# mbal=# mval=# pairs=*", λ n c. Step (Foreign (OneB (record { row = get_or n 0 0; ballot = get_or n 1 0; node = get_or n 2 0; mbal = get_or n 3 0; mval = get_or n 4 0; count = c }))))
    ∷ (text "do=foreign2av row=# ballot=# node=# tube=#", λ n c. Step (Foreign (Relay (record { row = get_or n 0 0; ballot = get_or n 1 0; node = get_or n 2 0; tube = get_or n 3 0 }))))
    ∷ (text "do=foreign2b row=# ballot=# node=# tube=#", λ n c. Step (Foreign (Accept (record { row = get_or n 0 0; ballot = get_or n 1 0; node = get_or n 2 0; tube = get_or n 3 0 }))))
    ∷ []

-- ---- a line: what the first form that fits makes of it

-- the line that a form makes of what a text has for its marks, and beside it the pairs of a foreign 1b: the first sixteen, and zeros
unfoldable pub line_as : Form → Fields → Parsed
line_as f r = record { line = f.1 r.numbers r.count; pairs = r.pairs }

-- what a text says by the first form that fits
abbrev pub found : List Form → List ℕ → Option Parsed
found [] s = None
found (f ∷ l) s = option_or (option_map (line_as f) (by_form f.0 s 0 [])) (found l s)

-- what a line says, if a form fits: "a line has at most 200 bytes before its newline"
unfoldable pub fields_of : List ℕ → Option Parsed
fields_of s = pick (leb (length s) 200) (found forms s) None

-- what a line says: one that no form fits is bad
unfoldable pub parsed : List ℕ → Parsed
parsed s = unwrap_or (fields_of s) (record { line = Bad; pairs = pair_bytes [] })

-- what a line is
unfoldable pub line_of : List ℕ → Line
line_of s = (parsed s).line
