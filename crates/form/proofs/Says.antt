-- What a house record's counts bound, and what each part of the gate says by the tests of its own parts.
use mathlib.Core.Path.{◌≡◌, refl}
use mathlib.Core.Bool.{true, ◌&&◌}
use mathlib.Core.List.{List, []}
use Prim.Native.Nat.{ℕ, ◌*◌, ◌≤◌}
use native.Mathlib.Omega.{arith}
use lib.ListN.{length}
use Rattle.rules.specs.Tests.{all, all_below, distinct}
use Rattle.rules.specs.Words.{same_msg}
use Rattle.rules.specs.Lent.{Memory, memory, counts, long, room_of, board_of, plain_msg, good_msg, cell_form, house_form, board_form, cells_form, heard_form, in_form}
use Rattle.rules.specs.declared.House.{House}
use Rattle.rules.proofs.Sound.{and_l}
use Rattle.rules.proofs.Each.{and_assoc}
use Rattle.board.specs.Asked.{Plain}
use Rattle.tables.specs.Tables.{lengths}
use Rattle.tables.proofs.Counted.{counted}

-- the messages stand in the board's area
pub board_fits : (h : House) (s : List ℕ) → counts h ≡ true → 40 * h.capacity ≤ length s → (h.count ≤ 1024) × (40 * h.count ≤ length s)
board_fits h s e l = let k = counted h e in (omega arith, omega arith)

-- what the board's form says, by the tests of its parts
pub board_are : (h : House) (s : List ℕ)
    → board_form (memory h s [] []) ≡ (all_below (plain_msg s) h.count && all (good_msg (room_of h) h.tubes) (board_of s h.count)) && distinct same_msg (board_of s h.count)
unfolding board_form
board_are h s = and_assoc (all_below (plain_msg s) h.count) (all (good_msg (room_of h) h.tubes) (board_of s h.count)) (distinct same_msg (board_of s h.count))

pub board_plain : (h : House) (s : List ℕ) → counts h ≡ true → 40 * h.capacity ≤ length s
    → all_below (plain_msg s) h.count && all (good_msg (room_of h) h.tubes) (board_of s h.count) ≡ true → Plain s h.count
board_plain h s e l q =
    let f = board_fits h s e l in
    record { count = f.0; long = f.1; plain = and_l (all_below (plain_msg s) h.count) (all (good_msg (room_of h) h.tubes) (board_of s h.count)) (rw q tt) }

-- what the form says, by the tests of its parts
pub form_are : (h : House) (s t u : List ℕ)
    → in_form (memory h s t u) ≡ house_form (memory h [] [] []) && (board_form (memory h s [] []) && (all_below (cell_form h.tubes t) (h.nodes * h.rows) && heard_form (memory h s [] u)))
unfolding in_form house_form board_form cells_form heard_form
form_are h s t u = refl

-- what the lengths say
pub long_are : (m : Memory) → long m ≡ lengths m.house.nodes m.house.rows m.house.capacity (length m.board) (length m.cells) (length m.heard)
unfolding long
long_are m = refl
