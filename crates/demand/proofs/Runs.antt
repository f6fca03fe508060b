-- Runs on memory from an opening are runs of the room, so what agreement says of the room holds of memory.
use mathlib.Core.Path.{◌≡◌, refl, ap, sym, subst, ◌∙◌}
use mathlib.Core.Bool.{Bool, true, false, not}
use mathlib.Core.List.{List, [], ◌∷◌, ◌++◌}
use Prim.Native.Nat.{ℕ, ◌≤◌}
use native.Mathlib.Omega.{arith}
use lib.Dec.{T}
use Rattle.rules.specs.Tests.{pick, count, first}
use Rattle.rules.specs.Words.{Room, State}
use Rattle.rules.specs.Lent.{Memory, room_of, read, tables}
use Rattle.rules.specs.Steps.{Call, ask}
use Rattle.rules.specs.Book.{chosen_in, Outcome, unchosen, agreed, split, is_split, outcome, book_of}
use Rattle.rules.specs.Replies.{room_counts, room_long, fields, tubes, reply, runs, open_reply, opening}
use Rattle.rules.proofs.Sound.{clear}
use Rattle.rules.proofs.Outcome.{in_some_ballot, one-chosen, two-chosen}
use Rattle.rules.proofs.Book.{grows}
use Rattle.agree.specs.Room.{blank, run}
use Rattle.agree.proofs.OneTube.{one_tube}
use Rattle.agree.proofs.Grow.{chosen_stays}
use Rattle.kept.specs.Kept.{Whole}
use Rattle.kept.proofs.Ready.{drop_test}
use Rattle.kept.proofs.Alike.{left, runs_alike, runs-room, opened_whole, opened-room, opened-run}
use Rattle.demand.specs.Demand.{few, OneTube, Stays, BookGrows}
use Rattle.demand.specs.Demand as demand

-- an opening that was done passed the tables' tests
tables_pass : (ρ : Room) (m : Memory) → open_reply ρ m ≡ 0 → first (tables ρ) ≡ 0
unfolding open_reply
tables_pass ρ m e =
    let z = clear ((room_counts ρ, 1) ∷ (room_long ρ m, 5) ∷ tables ρ) tt e in
    drop_test (room_long ρ m) 5 z.1.0 (drop_test (room_counts ρ) 1 z.0 e)

module _ (ρ : Room) (m : Memory) (e : open_reply ρ m ≡ 0) (cs ds : List Call) where
  abbrev now : Memory
  now = runs (opening ρ m) cs

  abbrev later : Memory
  later = runs now ds

  later-room : room_of later.house ≡ ρ
  later-room = runs-room now ds ∙ opened-room ρ m e cs

  later-run : read later ≡ run ρ (run ρ blank cs) ds
  later-run =
      runs_alike now ds (opened_whole ρ m e cs) ∙ ap (λ (σ : Room). run σ (read now) ds) (opened-room ρ m e cs)
      ∙ ap (λ (s : State). run ρ s ds) (opened-run ρ m e cs)

  -- what is said of a room and its state is said of what was opened and run
  at-now : (P : Room → State → Type 0) → P (room_of now.house) (read now) → P ρ (run ρ blank cs)
  at-now P p = subst (λ (s : State). P ρ s) (opened-run ρ m e cs) (subst (λ (σ : Room). P σ (read now)) (opened-room ρ m e cs) p)

  at-later : (P : Room → State → Type 0) → P (room_of later.house) (read later) → P ρ (run ρ (run ρ blank cs) ds)
  at-later P p = subst (λ (s : State). P ρ s) later-run (subst (λ (σ : Room). P σ (read later)) later-room p)

  from_later : (P : Room → State → Type 0) → P ρ (run ρ (run ρ blank cs) ds) → P (room_of later.house) (read later)
  from_later P p = subst (λ (σ : Room). P σ (read later)) (sym later-room) (subst (λ (s : State). P ρ s) (sym later-run) p)

  few-later : few later → count (run ρ (run ρ blank cs) ds).marks ρ.nodes ≤ ρ.faulty
  few-later h = at-later (λ σ s. count s.marks σ.nodes ≤ σ.faulty) h

  -- a tube chosen now and a tube chosen later are the same
  pub same_tube : few later → (r v w : ℕ) → demand.Chosen now r v → demand.Chosen later r w → v ≡ w
  same_tube h r v w x y =
      let p = (in_some_ballot ρ (run ρ blank cs) r v).0 (at-now (λ σ s. T (chosen_in σ s r v)) x) in
      let q = (in_some_ballot ρ (run ρ (run ρ blank cs) ds) r w).0 (at-later (λ σ s. T (chosen_in σ s r w)) y) in
      one_tube ρ (tables_pass ρ m e) cs ds (few-later h) r p.0 q.0 v w p.2 q.2

  pub stays_chosen : (r v : ℕ) → demand.Chosen now r v → demand.Chosen later r v
  stays_chosen r v x =
      let p = (in_some_ballot ρ (run ρ blank cs) r v).0 (at-now (λ σ s. T (chosen_in σ s r v)) x) in
      from_later (λ σ s. T (chosen_in σ s r v))
      ((in_some_ballot ρ (run ρ (run ρ blank cs) ds) r v).1 (p.0, p.1, chosen_stays ρ (run ρ blank cs) ds r p.0 v p.2))

  rooms : room_of later.house ≡ room_of now.house
  rooms = runs-room now ds

  -- an agreed row stays agreed
  stays_agreed : few later → (r v : ℕ) → outcome (room_of now.house) (read now) r ≡ agreed v → outcome (room_of later.house) (read later) r ≡ agreed v
  stays_agreed h r v o =
      let x = (one-chosen (room_of now.house) (read now) r v).0 o in
      (one-chosen (room_of later.house) (read later) r v).1
      ((x.0.0, stays_chosen r v x.0.1), λ w y. sym (same_tube h r v w x.0.1 y.1))

  pub more_rows : few later → (more : List ℕ) × (demand.the_book later ≡ demand.the_book now ++ more)
  more_rows h =
      let g = grows (room_of now.house) (read now) (read later) (λ r v o. subst (λ (σ : Room). outcome σ (read later) r ≡ agreed v) rooms (stays_agreed h r v o)) in
      (g.0, ap (λ (σ : Room). book_of σ (read later)) rooms ∙ g.1)

pub stays : Stays
stays ρ m e cs ds h r v x = stays_chosen ρ m e cs ds r v x

pub book_grows : BookGrows
book_grows ρ m e cs ds h = more_rows ρ m e cs ds h

-- asking tells a split only where there is one
ask_18 : (a b c : Bool) → ◌≡◌ {A = ℕ} (pick a (pick b (pick (not c) 0 18) 7) 6) 18 → T c
ask_18 true true true z = tt
ask_18 true true false z = absurd (omega arith)
ask_18 true false c z = absurd (omega arith)
ask_18 false b c z = absurd (omega arith)

is_split_row : (o : Outcome) → T (is_split o) → o ≡ split
is_split_row unchosen t = absurd t
is_split_row (agreed v) t = absurd t
is_split_row split t = refl

asked : (m : Memory) (r : ℕ) → Whole m → reply m (ask r) ≡ 18 → outcome (room_of m.house) (read m) r ≡ split
asked m r w z = let ρ = room_of m.house in
    is_split_row (outcome ρ (read m) r) (ask_18 (fields ρ (read m) (ask r)) (tubes (read m) (ask r)) (is_split (outcome ρ (read m) r)) (sym (left m (ask r) w) ∙ z))

pub one : OneTube
unfolding runs
one ρ m e cs h = (λ r v w x y. same_tube ρ m e cs [] h r v w x y, never)
  where
    never : (r : ℕ) → ¬ (reply (runs (opening ρ m) cs) (ask r) ≡ 18)
    never r z =
        let n = runs (opening ρ m) cs in
        let t = (two-chosen (room_of n.house) (read n) r).0 (asked n r (opened_whole ρ m e cs) z) in
        t.4 (same_tube ρ m e cs [] h r t.0 t.1 t.2.1 t.3.1)
