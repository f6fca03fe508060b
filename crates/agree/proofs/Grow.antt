-- The board and the marks only grow, so what was chosen stays chosen.
use mathlib.Core.Bool.{Bool, true, false, not, ◌&&◌, ◌||◌}
use mathlib.Core.Logic.{◌⊎◌, inl, inr}
use mathlib.Core.List.{List, [], ◌∷◌}
use Prim.Native.Nat.{ℕ, zero, suc}
use lib.Dec.{T, eqb}
use Rattle.rules.specs.Tests.{pick, any, bit, all_in, first}
use Rattle.rules.specs.Words.{Msg, Room, State}
use Rattle.rules.specs.Steps.{Call, Effect, stays, scans, sends, acts, hears, posts, covers, is2b, effect, put}
use Rattle.rules.specs.Replies.{rules}
use Rattle.rules.proofs.Sound.{or_cases, or_l, or_r, any_sound, add-keep}
use Rattle.rules.proofs.Lists.{any_in}
use Rattle.agree.specs.Room.{step, run}
use Rattle.agree.specs.Agreement.{Stays, MarksGrow}
use Rattle.agree.proofs.Link.{Sub}

-- ---- tests that pass go on passing

both : (a b c d : Bool) → (T a → T c) → (T b → T d) → T (a && b) → T (c && d)
both true true true true f g t = tt
both true true true false f g t = g tt
both true true false d f g t = f tt
both true false c d f g t = absurd t
both false b c d f g t = absurd t

in_more : (n q : ℕ) (f g : ℕ → Bool) → ((a : ℕ) → T (f a) → T (g a)) → T (all_in n q f) → T (all_in n q g)
in_more zero q f g h t = tt
in_more (suc n) q f g h t = both (not (bit q n) || f n) (all_in n q f) (not (bit q n) || g n) (all_in n q g) (λ u. go (or_cases (not (bit q n)) (f n) u)) (in_more n q f g h) t
  where
    go : T (not (bit q n)) ⊎ T (f n) → T (not (bit q n) || g n)
    go (inl u) = or_l (not (bit q n)) (g n) u
    go (inr u) = or_r (not (bit q n)) (g n) (h n u)

covers_more : (ρ : Room) (qs : List ℕ) (p : ℕ → Msg → Bool) (l h : List Msg) → Sub l h → T (covers ρ qs p l) → T (covers ρ qs p h)
covers_more ρ qs p l h sub t =
    let z = any_sound (λ q. all_in ρ.nodes q (λ a. any (p a) l)) qs t in
    any_in (λ q. all_in ρ.nodes q (λ a. any (p a) h)) qs z.0 z.1
    (in_more ρ.nodes z.0 (λ a. any (p a) l) (λ a. any (p a) h)
    (λ a u. let y = any_sound (p a) l u in any_in (p a) h y.0 (sub y.0 y.1) y.2) z.2)

-- ---- the board and the marks after an effect, a call, and calls

-- what stood stands, who was marked is marked
pub record Grown (s t : State) : Type 0 where
  pub board : Sub s.board t.board
  pub marks : (n : ℕ) → T (s.marks n) → T (t.marks n)

same : (s : State) → Grown s s
same s = record { board = λ x o. o; marks = λ n t. t }

put_grows : (s : State) (e : Effect) → Grown s (put s e)
put_grows s stays = same s
put_grows s (scans a b) = record { board = λ x o. o; marks = λ n t. t }
put_grows s (sends m) = record { board = add-keep m s.board; marks = λ n t. t }
put_grows s (acts m r n c) = record { board = add-keep m s.board; marks = λ n t. t }
put_grows s (hears n k) = record { board = λ x o. o; marks = λ n t. t }
put_grows s (posts m n) = record { board = add-keep m s.board; marks = λ a t. or_r (eqb a n) (s.marks a) t }

step_grows : (ρ : Room) (s : State) (c : Call) → Grown s (step ρ s c)
step_grows ρ s c = go (eqb (first (rules ρ s c)) 0)
  where
    go : (b : Bool) → Grown s (pick b (put s (effect s c)) s)
    go true = put_grows s (effect s c)
    go false = same s

pub run_grows : (ρ : Room) (s : State) (cs : List Call) → Grown s (run ρ s cs)
unfolding run
run_grows ρ s [] = same s
run_grows ρ s (c ∷ cs) =
    let a = step_grows ρ s c in
    let b = run_grows ρ (step ρ s c) cs in
    record { board = λ x o. b.board x (a.board x o); marks = λ n t. b.marks n (a.marks n t) }

pub chosen_stays : Stays
chosen_stays ρ s cs r b v = covers_more ρ ρ.quorums (is2b r b v) s.board (run ρ s cs).board (run_grows ρ s cs).board

pub marks_grow : MarksGrow
marks_grow ρ s cs = (run_grows ρ s cs).marks
