-- At most one tube a row, in words.
use Rattle.std.specs.Prelude.{◌≡◌, List, ℕ, ◌≤◌, T}
use Rattle.rules.specs.Tests.{first, count}
use Rattle.rules.specs.Words.{Room, State}
use Rattle.rules.specs.Lent.{tables}
use Rattle.rules.specs.Steps.{Call, chosen}
use Rattle.agree.specs.Room.{blank, run}

-- After any calls from opening, and after any more, a row has no two chosen tubes if at most f nodes are marked in the end.
abbrev pub OneTube : Type 0
OneTube = (ρ : Room) → first (tables ρ) ≡ 0 → (cs ds : List Call)
    → count (run ρ (run ρ blank cs) ds).marks ρ.nodes ≤ ρ.faulty
    → (r b c v w : ℕ) → T (chosen ρ (run ρ blank cs) r b v) → T (chosen ρ (run ρ (run ρ blank cs) ds) r c w) → v ≡ w

-- Whatever stood before and whoever is marked: a chosen tube stays chosen.
abbrev pub Stays : Type 0
Stays = (ρ : Room) (s : State) (cs : List Call) (r b v : ℕ) → T (chosen ρ s r b v) → T (chosen ρ (run ρ s cs) r b v)

-- A marked node stays marked.
abbrev pub MarksGrow : Type 0
MarksGrow = (ρ : Room) (s : State) (cs : List Call) (n : ℕ) → T (s.marks n) → T ((run ρ s cs).marks n)
