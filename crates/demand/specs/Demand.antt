-- Demand 3 and what goes with it, of the memory, calls and replies that the contracts cite. Open a room ρ on any lent memory m
-- and make any calls cs, and then ds: ask and book among them, refusals included, rows mixed.
use Rattle.std.specs.Prelude.{◌≡◌, List, [], ◌++◌, ℕ, ◌+◌, ◌≤◌, T, length}
use Rattle.rules.specs.Tests.{bit, count}
use Rattle.rules.specs.Words.{Room}
use Rattle.rules.specs.Lent.{Memory, room_of, read, in_form}
use Rattle.rules.specs.Steps.{Call, ask}
use Rattle.rules.specs.Book.{chosen_in, book_of, waiting_of, clerk}
use Rattle.rules.specs.Replies.{reply, runs, open_reply, opening}
use Rattle.rules.specs.Laws.{occurs, entered}
use Rattle.agree.specs.Runs.{RunsEnd}

-- at most f stations are marked, that is, have had a foreign post accepted
abbrev pub few : Memory → Type 0
few m = count (bit m.house.marks) m.house.nodes ≤ m.house.faulty

-- the tube v is chosen in the row r; the book; the waiting tubes
abbrev pub Chosen : Memory → ℕ → ℕ → Type 0
Chosen m r v = T (chosen_in (room_of m.house) (read m) r v)

abbrev pub the_book : Memory → List ℕ
the_book m = book_of (room_of m.house) (read m)

abbrev pub the_waiting : Memory → List ℕ
the_waiting m = waiting_of (room_of m.house) (read m)

-- 1. One tube: no row has two chosen tubes, and asking never gives 18.
abbrev pub OneTube : Type 0
OneTube = (ρ : Room) (m : Memory) → open_reply ρ m ≡ 0 → (cs : List Call) → few (runs (opening ρ m) cs)
    → ((r v w : ℕ) → Chosen (runs (opening ρ m) cs) r v → Chosen (runs (opening ρ m) cs) r w → v ≡ w)
    × ((r : ℕ) → ¬ (reply (runs (opening ρ m) cs) (ask r) ≡ 18))

-- 2. Stays: a tube that was chosen before further calls is chosen after them, and it alone.
abbrev pub Stays : Type 0
Stays = (ρ : Room) (m : Memory) → open_reply ρ m ≡ 0 → (cs ds : List Call) → few (runs (runs (opening ρ m) cs) ds)
    → (r v : ℕ) → Chosen (runs (opening ρ m) cs) r v → Chosen (runs (runs (opening ρ m) cs) ds) r v

-- 3. Book grows: the later book begins with the earlier one, voids included.
abbrev pub BookGrows : Type 0
BookGrows = (ρ : Room) (m : Memory) → open_reply ρ m ≡ 0 → (cs ds : List Call) → few (runs (runs (opening ρ m) cs) ds)
    → (more : List ℕ) × (the_book (runs (runs (opening ρ m) cs) ds) ≡ the_book (runs (opening ρ m) cs) ++ more)

-- 4. Clerk: of any memory, the book is what one clerk writes who takes the rows one after another and voids repeats.
abbrev pub Clerk : Type 0
Clerk = (m : Memory) → the_book m ≡ clerk (room_of m.house) (read m) [] 1 m.house.rows

-- 5. Exactly one line: of any memory in form, with any marks, each scanned tube is in one book row or one waiting line.
abbrev pub OneLine : Type 0
OneLine = (m : Memory) → T (in_form m)
    → ((t : ℕ) → 1 ≤ t → t ≤ m.house.tubes → occurs t (the_book m) + occurs t (the_waiting m) ≡ 1)
    × (entered (the_book m) + length (the_waiting m) ≡ m.house.tubes)

-- 6. Form is kept: such a run never meets 17.
abbrev pub FormKept : Type 0
FormKept = (ρ : Room) (m : Memory) → open_reply ρ m ≡ 0 → (cs : List Call) (c : Call) → ¬ (reply (runs (opening ρ m) cs) c ≡ 17)

-- 7. Not empty: a run in which a row gets its tube with f foreign stations at work, and one with f + 1 in which a row splits.
abbrev pub NotEmpty : Type 0
NotEmpty = RunsEnd
