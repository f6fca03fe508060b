-- What ties memory to the room: each call does to memory what it does in the room, and memory stays in form.
use Rattle.std.specs.Prelude.{◌≡◌, ◌⊎◌, List, ℕ, T}
use Rattle.rules.specs.Tests.{first}
use Rattle.rules.specs.Words.{Room}
use Rattle.rules.specs.Lent.{Memory, Typed, room_of, read, counts, long, in_form}
use Rattle.rules.specs.Steps.{Call, book, put, effect}
use Rattle.rules.specs.Replies.{rules, areas, reply, after, runs, open_reply, opening}
use Rattle.agree.specs.Room.{blank, step, run}

-- memory that no call refuses for what stands in it: counts in limits, areas long enough, in form
pub record Whole (m : Memory) : Type 0 where
  pub typed : Typed m.house
  pub counts : T (counts m.house)
  pub long : T (long m)
  pub form : T (in_form m)

-- ---- one call

-- an accepted call changes memory as it changes the room
abbrev pub Obeyed : Type 0
Obeyed = (m : Memory) (c : Call) → Typed m.house → reply m c ≡ 0 → read (after m c) ≡ put (read m) (effect (read m) c)

-- "A refusal changes nothing."
abbrev pub Refused : Type 0
Refused = (m : Memory) (c : Call) → ¬ (reply m c ≡ 0) → after m c ≡ m

-- what memory accepts, the room accepts
abbrev pub Allowed : Type 0
Allowed = (m : Memory) (c : Call) → reply m c ≡ 0 → first (rules (room_of m.house) (read m) c) ≡ 0

-- no call changes the room
abbrev pub SameRoom : Type 0
SameRoom = (m : Memory) (c : Call) → room_of (after m c).house ≡ room_of m.house

abbrev pub StaysTyped : Type 0
StaysTyped = (m : Memory) (c : Call) → Typed m.house → Typed (after m c).house

-- every call keeps the form
abbrev pub StaysInForm : Type 0
StaysInForm = (m : Memory) (c : Call) → Typed m.house → T (counts m.house) → T (long m) → T (in_form m) → Whole (after m c)

-- one call on memory is one step of the room, or nothing
abbrev pub StepOrNot : Type 0
StepOrNot = (m : Memory) (c : Call) → Typed m.house
    → (read (after m c) ≡ read m) ⊎ ((first (rules (room_of m.house) (read m) c) ≡ 0) × (read (after m c) ≡ put (read m) (effect (read m) c)))

-- and in form it is the room's step
abbrev pub OneStep : Type 0
OneStep = (m : Memory) (c : Call) → Whole m → read (after m c) ≡ step (room_of m.house) (read m) c

-- ---- opening, and what follows it

-- an opening that was done leaves the room that was asked for, empty, in memory in form
pub record Begun (ρ : Room) (m : Memory) : Type 0 where
  pub whole : Whole m
  pub room : room_of m.house ≡ ρ
  pub empty : read m ≡ blank

abbrev pub Opens : Type 0
Opens = (ρ : Room) (m : Memory) → open_reply ρ m ≡ 0 → Begun ρ (opening ρ m)

-- whatever calls follow, memory stays in form
abbrev pub RunsInForm : Type 0
RunsInForm = (ρ : Room) (m : Memory) → open_reply ρ m ≡ 0 → (cs : List Call) → Whole (runs (opening ρ m) cs)

abbrev pub RunsInRoom : Type 0
RunsInRoom = (ρ : Room) (m : Memory) → open_reply ρ m ≡ 0 → (cs : List Call) → room_of (runs (opening ρ m) cs).house ≡ ρ

-- so that none of them replies 17, and 5 only for the book's own areas
abbrev pub Never17 : Type 0
Never17 = (ρ : Room) (m : Memory) → open_reply ρ m ≡ 0 → (cs : List Call) (c : Call) → ¬ (reply (runs (opening ρ m) cs) c ≡ 17)

abbrev pub Only5 : Type 0
Only5 = (ρ : Room) (m : Memory) → open_reply ρ m ≡ 0 → (cs : List Call) (c : Call) → reply (runs (opening ρ m) cs) c ≡ 5
    → (p q : List ℕ) × (c ≡ book p q) × ¬ (T (areas (runs (opening ρ m) cs).house c))

-- and what they leave in memory is what they leave in the room
abbrev pub SameRun : Type 0
SameRun = (ρ : Room) (m : Memory) → open_reply ρ m ≡ 0 → (cs : List Call) → read (runs (opening ρ m) cs) ≡ run ρ blank cs
