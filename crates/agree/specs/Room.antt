-- The room's run: what calls one after another make of a room, each obeyed or refused by its own tests.
use Rattle.std.specs.Prelude.{false, List, [], ◌∷◌, eqb}
use Rattle.rules.specs.Tests.{pick, first}
use Rattle.rules.specs.Words.{fresh, Room, State}
use Rattle.rules.specs.Steps.{Call, effect, put}
use Rattle.rules.specs.Replies.{rules}

-- "Opening leaves intake, marks and board empty", cells as at opening, and nothing heard
abbrev pub blank : State
blank = record { board = []; cells = λ r n. fresh; heard = λ n k. false; marks = λ n. false; intake = [] }

-- an accepted call has its effect, "a refusal changes nothing"
abbrev pub step : Room → State → Call → State
step ρ s c = pick (eqb (first (rules ρ s c)) 0) (put s (effect s c)) s

unfoldable pub run : Room → State → List Call → State
run ρ s [] = s
run ρ s (c ∷ cs) = run ρ (step ρ s c) cs
