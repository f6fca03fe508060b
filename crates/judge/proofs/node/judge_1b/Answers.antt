-- A 1b: row, ballot and node within limits, the ballot above max_bal, its 1a sent, and room for what the cell tells.
use Rattle.std.proofs.Common.{◌≡◌, Bool, true, false, ◌&&◌, ◌||◌, [], ◌∷◌, refl, sym, ◌∙◌, ltb, leb, ℕ}
use Rattle.rules.specs.Tests.{first}
use Rattle.rules.specs.Words.{height_of, bal_in, m1a}
use Rattle.rules.specs.Lent.{Memory, lent, meaning, cell_at, place, board_of, room_of, row_in, read}
use Rattle.rules.specs.Steps.{has, c1b, told}
use Rattle.rules.specs.declared.Ballot.{Ballot}
use Rattle.rules.specs.declared.Cell as cell_as_stored
use Rattle.rules.specs.declared.Message.{Message}
use Rattle.rules.specs.declared.Node.{Node}
use Rattle.rules.specs.declared.Row.{Row}
use Rattle.rules.proofs.Codec.{At}
use Rattle.board.specs.Asked.{Own}
use Rattle.board.proofs.Bytes.{own-stored}
use Rattle.kept.specs.Kept.{Whole}
use Rattle.kept.proofs.Ready.{form}
use Rattle.judge.specs.Judged.{verdict}
use Rattle.judge.specs.Narrow.{Seat}
use Rattle.judge.proofs.Past.{plain, fits_means, seat_in, promise-says}
use Rattle.judge.proofs.Cells.{seated, promised, height_reads, told_reads, told_small}
use Rattle.judge.proofs.Says.{says_1b}
use Rattle.judge.proofs.node.judge_1b.Goals as goal

-- test 6 passed, and r, b and n are the given numbers, narrowed
module _ (m : Memory) {row node ballot : ℕ} {r : Row} {b : Ballot} {n : Node} (w : Whole m) (z : ((row_in (room_of m.house) row && bal_in ballot) && ltb node m.house.nodes) ≡ true)
    (e : Seat row ballot node (r, b, n)) where
  seat : At (room_of m.house) r.0 n.0
  seat = (promise-says (room_of m.house) r.0 n.0 b.0 (seat_in (room_of m.house) e z)).0

  -- the cell that was read, and the 1b made of it
  module _ {o : cell_as_stored.Cell} {k : Message} (q : o ≡ cell_at m.cells (place m.house.rows r.0 n.0)) (j : k ≡ promised r.0 b.0 n.0 o) where
    own : Own k
    own = own-stored (told (read m) r.0 n.0 b.0) k (told_small m (form m w.form) r.0 n.0 seat b.0) (told_reads m (form m w.form) r.0 n.0 seat b.0 q j)

    -- what the other tests answer together
    tests : (x y v : Bool) → leb (height_of o.maxbal) b.0 ≡ x → has (m1a r.0 b.0) (board_of m.board m.house.count) ≡ y
        → has (meaning k) (board_of m.board m.house.count) || ltb m.house.count m.house.capacity ≡ v
        → first ((x, 8) ∷ (y, 9) ∷ (v, 15) ∷ []) ≡ verdict m (c1b row node ballot)
    tests x y v f h a =
        says_1b m r.0 n.0 b.0 true x y v (seat_in (room_of m.house) e z) (sym (height_reads m (form m w.form) r.0 n.0 seat b.0 q refl) ∙ f) h
        (sym (fits_means m (told (read m) r.0 n.0 b.0) k (told_small m (form m w.form) r.0 n.0 seat b.0) (told_reads m (form m w.form) r.0 n.0 seat b.0 q j) refl) ∙ a)
        ∙ (λ i. verdict m (c1b (e.0 i) (e.2 i) (e.1 i)))

pub returns-in_default-clause-number : goal.returns-in_default-clause-number
returns-in_default-clause-number c = says_1b (lent c.args.m) c.args.row c.args.node c.args.ballot false _ _ _ c.in_default.ensures refl refl refl

pub own_cell-c-requires : goal.own_cell-c-requires
own_cell-c-requires c = record { whole = c.requires; seat = seated (lent c.args.m).house _ _ (seat (lent c.args.m) c.requires c.in-Some.ensures.0 c.in-Some.ensures.1) }

pub returns-then-not-height_at_most-clause-number : goal.returns-then-not-height_at_most-clause-number
returns-then-not-height_at_most-clause-number c =
    tests (lent c.args.m) c.requires c.in-Some.ensures.0 c.in-Some.ensures.1 c.own_cell-c.ensures refl false _ _ (sym c.height_at_most.ensures ∙ c.if-not-height_at_most.true) refl refl

pub has_1a-requires : goal.has_1a-requires
has_1a-requires c = plain (lent c.args.m) c.requires

pub returns-then-not-has_1a-clause-number : goal.returns-then-not-has_1a-clause-number
returns-then-not-has_1a-clause-number c =
    tests (lent c.args.m) c.requires c.in-Some.ensures.0 c.in-Some.ensures.1 c.own_cell-c.ensures refl true false _ (sym c.height_at_most.ensures ∙ c.if-not-height_at_most.false) (sym c.has_1a.ensures ∙ c.if-not-has_1a.true) refl

pub fits-requires : goal.fits-requires
fits-requires c =
    record { plain = plain (lent c.args.m) c.requires; own = own (lent c.args.m) c.requires c.in-Some.ensures.0 c.in-Some.ensures.1 c.own_cell-c.ensures c.promise.ensures }

pub returns-then-not-fits-clause-number : goal.returns-then-not-fits-clause-number
returns-then-not-fits-clause-number c =
    tests (lent c.args.m) c.requires c.in-Some.ensures.0 c.in-Some.ensures.1 c.own_cell-c.ensures c.promise.ensures true true false
    (sym c.height_at_most.ensures ∙ c.if-not-height_at_most.false) (sym c.has_1a.ensures ∙ c.if-not-has_1a.false) (sym c.fits.ensures ∙ c.if-not-fits.true)

pub returns-clause-number : goal.returns-clause-number
returns-clause-number c =
    tests (lent c.args.m) c.requires c.in-Some.ensures.0 c.in-Some.ensures.1 c.own_cell-c.ensures c.promise.ensures true true true
    (sym c.height_at_most.ensures ∙ c.if-not-height_at_most.false) (sym c.has_1a.ensures ∙ c.if-not-has_1a.false) (sym c.fits.ensures ∙ c.if-not-fits.false)
