-- Each scanned tube of memory in form has one line.
use mathlib.Core.Path.{◌≡◌, sym, subst, ◌∙◌}
use Prim.Native.Nat.{ℕ}
use native.Mathlib.Omega.{arith}
use lib.Dec.{T, eqb→eq}
use Rattle.rules.specs.Tests.{all, first}
use Rattle.rules.specs.Lent.{Memory, room_of, read, tables, limits, scanned, good_msg, house_form, board_form}
use Rattle.rules.specs.Laws.{OnIntake}
use Rattle.rules.proofs.Sound.{and_l, and_r}
use Rattle.rules.proofs.OneLine.{one_line}
use Rattle.rules.proofs.Totals.{totals, from_form}
use Rattle.kept.proofs.Lists.{all_more}
use Rattle.kept.proofs.Ready.{Form, form, length_intake}
use Rattle.demand.specs.Demand.{OneLine}

tables_in_form : (m : Memory) → Form m → first (tables (room_of m.house)) ≡ 0
unfolding house_form
tables_in_form m f = eqb→eq (first (tables (room_of m.house))) 0 (search (and_l, f.house))

scanned_in_form : (m : Memory) → Form m → T (all (scanned m.house.tubes) (read m).board)
unfolding board_form good_msg
scanned_in_form m f =
    let ρ = room_of m.house in
    let k = m.house.tubes in
    let t : T (all (good_msg ρ k) (read m).board) = search (and_l, and_r, f.board) depth 9 in
    all_more (good_msg ρ k) (scanned k) (read m).board (λ x u. and_r (limits ρ x) (scanned k x) u) t

-- every agreed tube of memory in form is on intake
pub on_intake : (m : Memory) → Form m → OnIntake (room_of m.house) (read m)
on_intake m f = from_form (room_of m.house) (read m) (tables_in_form m f)
    (subst (λ (k : ℕ). T (all (scanned k) (read m).board)) (sym (length_intake m)) (scanned_in_form m f))

pub line : OneLine
line m t = (
  λ v a b. one_line (room_of m.house) (read m) v a (omega (arith, length_intake m)),
  totals (room_of m.house) (read m) (on_intake m (form m t)) ∙ length_intake m,
)
