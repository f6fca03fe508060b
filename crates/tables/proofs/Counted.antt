-- What a house record has whose counts pass, and what its tables and its form say by the tests of their parts.
use mathlib.Core.Path.{◌≡◌, refl, ap, ◌∙◌}
use mathlib.Core.Bool.{true, ◌&&◌}
use mathlib.Core.List.{List, []}
use Prim.Native.Nat.{ℕ, ◌^◌, ◌≤◌}
use lib.Dec.{T, eqb, ltb, leb→le}
use Rattle.rules.specs.Tests.{all_below, distinct, first}
use Rattle.rules.specs.Lent.{memory, counts, tables, room_of, intake_of, same_scan, house_form}
use Rattle.rules.specs.declared.House.{House}
use Rattle.rules.proofs.Sound.{and_l, and_r}
use Rattle.rules.proofs.Each.{intake_build, distinct-build}
use Rattle.tables.specs.Tables.{scan_at, new_scan}

pub record Counted (h : House) : Type 0 where
  pub node : 1 ≤ h.nodes
  pub nodes : h.nodes ≤ 8
  pub faulty : h.faulty ≤ 7
  pub row : 1 ≤ h.rows
  pub rows : h.rows ≤ 64
  pub capacity : h.capacity ≤ 1024
  pub listed : h.listed ≤ 64
  pub backers : h.backers ≤ 64
  pub tubes : h.tubes ≤ 64
  pub count : h.count ≤ h.capacity

pub counted : (h : House) → counts h ≡ true → Counted h
unfolding counts
counted h e =
    let t : T (counts h) = rw e tt in
    record {
      node = search (leb→le, and_l, and_r) depth 9;
      nodes = search (leb→le, and_l, and_r) depth 9;
      faulty = search (leb→le, and_l, and_r) depth 9;
      row = search (leb→le, and_l, and_r) depth 9;
      rows = search (leb→le, and_l, and_r) depth 9;
      capacity = search (leb→le, and_l, and_r) depth 9;
      listed = search (leb→le, and_l, and_r) depth 9;
      backers = search (leb→le, and_l, and_r) depth 9;
      tubes = search (leb→le, and_l, and_r) depth 9;
      count = search (leb→le, and_l, and_r) depth 9;
    }

-- what the house record's form says, by the tests of its parts
pub house_are : (h : House)
    → house_form (memory h [] [] []) ≡ eqb (first (tables (room_of h))) 0 && (distinct same_scan (intake_of h.stations h.serials h.tubes) && ltb h.marks (2 ^ h.nodes))
unfolding house_form
house_are h = refl

-- no scan is the same as an earlier one
pub intake_differs : (a b : List ℕ) (n : ℕ) → distinct same_scan (intake_of a b n) ≡ all_below (new_scan a b) n
intake_differs a b n = ap (distinct same_scan) (intake_build a b n) ∙ distinct-build same_scan (scan_at a b) n
