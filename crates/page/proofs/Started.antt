-- What opening replied and left is what the sheet's definition says of the headings' room.
use mathlib.Core.Path.{◌≡◌, refl, ap, ◌∙◌}
use mathlib.Core.List.{List}
use Prim.Native.Nat.{ℕ}
use native.Mathlib.Omega.{arith}
use lib.Dec.{eqb}
use lib.ListN.{get_or}
use Rattle.rules.specs.Tests.{pick}
use Rattle.rules.specs.Words.{Room}
use Rattle.rules.specs.Lent.{Memory}
use Rattle.rules.specs.Replies.{Answer, answer_of, number_of, open_reply, opening, Opened}
use Rattle.rules.specs.declared.Refusal.{Refusal}
use Rattle.rules.specs.declared.Reply.{Reply}
use Rattle.rules.specs.declared.Reply.TheVariants.{Done, Told, Booked}
use Rattle.rules.proofs.Named.{positive}
use borrow.Author.Tests.{ne_eqb}
use Rattle.std.specs.Prelude.{Ok, Err}
use Rattle.closing.specs.Printed.{answer_text}
use Rattle.open.specs.Room.{room}
use Rattle.open.proofs.Opened.{at_most}
use Rattle.page.specs.Sheet.{Heads, room_for, due_now, turn, opens}
use Rattle.page.specs.Held.{Started}

-- the room that opening was asked for, from lists q and w that are those of the headings
abbrev pub asked : Heads → (q w : List ℕ) → Room
asked h q w = room (get_or h.counts 0 0) (get_or h.counts 1 0) (get_or h.counts 2 0) (get_or h.counts 3 0) q w

asked-room : (h : Heads) (q w : List ℕ) → q ≡ h.quorums → w ≡ h.weaks → asked h q w ≡ room_for h
unfolding room_for
asked-room h q w e f i = asked h (e i) (f i)

-- what is due after opening replied a number: a step, or nothing more
abbrev pub due_after : ℕ → ℕ
due_after k = pick (eqb k 0) 7 8

pub due_opened : (r : Reply) → due_after (answer_of (Ok r)).number ≡ 7
due_opened Done = refl
due_opened (Told t) = refl
due_opened (Booked n w k) = refl

pub due_refused : (x : Refusal) → due_after (answer_of (Err x)).number ≡ 8
due_refused x = rw (ne_eqb (number_of x) 0 (positive x))

pub started : (h : Heads) (m : Memory) (q w : List ℕ) → q ≡ h.quorums → w ≡ h.weaks
    → (a : Answer) (m' : Memory) → Opened (asked h q w) m a m'
    → (k d : ℕ) → k ≡ a.number → d ≡ due_after a.number
    → Started h m (due_now h d) m' k
unfolding opens
started h m q w e f a m' o k d p due =
    let same = asked-room h q w e f in
    let number : a.number ≡ open_reply (room_for h) m = ap (λ (x : Answer). x.number) o.answer ∙ ap (λ (ρ : Room). open_reply ρ m) same in
    let after : d ≡ due_after (open_reply (room_for h) m) = due ∙ ap due_after number in
    let left : m' ≡ opening (room_for h) m = o.memory ∙ ap (λ (ρ : Room). opening ρ m) same in
    let most = at_most (room_for h) m in
    record {
      number = p ∙ number;
      turn = λ i. turn (due_now h (after i)) (left i) (answer_text ((p ∙ number) i) 0);
      small = omega arith;
    }
