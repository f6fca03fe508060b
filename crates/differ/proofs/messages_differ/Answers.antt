-- Messages pass one by one: each is none of those before it, and the table then has it too.
use mathlib.Core.Path.{◌≡◌, refl, sym, ◌∙◌}
use native.Mathlib.Omega.{arith}
use Rattle.rules.specs.Lent.{window}
use Rattle.rules.proofs.Each.{each_more, each_stop}
use Rattle.differ.specs.Differ.{new_message, slot_of, Probed}
use Rattle.differ.proofs.Differ.{board_differs}
use Rattle.differ.proofs.Slots.{mix-low, table_none, probed_new, table_more, ended}
use Rattle.differ.proofs.messages_differ.Goals as goal

pub loop-k-init : goal.loop-k-init
loop-k-init c = record { new = refl; table = table_none c.args.board.now }

pub probe-at-requires-clause-h_bound : goal.probe-at-requires-clause-h_bound
probe-at-requires-clause-h_bound c = omega (arith, c.first_slot-h.ensures, mix-low (window 40 c.loop-k.k c.args.board.now))

pub settled-requires-clause-k_value : goal.settled-requires-clause-k_value
settled-requires-clause-k_value c =
    let a = c.args in
    let q : Probed a.board.now c.loop-k.slots c.loop-k.k (slot_of a.board.now c.loop-k.k) c.probe-at.result = rw c.first_slot-h.ensures at c.probe-at.ensures in
    (probed_new a.board.now c.loop-k.slots c.loop-k.k c.probe-at.result c.loop-k.invariant.table q, q.equal)

pub returns-then-not-settled : goal.returns-then-not-settled
returns-then-not-settled c =
    let a = c.args in
    sym (board_differs a.board.now a.n c.requires.plain ∙ each_stop (new_message a.board.now) c.loop-k.k a.n (omega arith) (sym c.settled.ensures ∙ c.if-not-settled.true))

pub loop-k-preserved : goal.loop-k-preserved
loop-k-preserved c =
    let a = c.args in
    let e = sym c.settled.ensures ∙ c.if-not-settled.false in
    let q : Probed a.board.now c.loop-k.slots c.loop-k.k (slot_of a.board.now c.loop-k.k) c.probe-at.result = rw c.first_slot-h.ensures at c.probe-at.ensures in
    record {
      new = each_more (new_message a.board.now) c.loop-k.k c.loop-k.invariant.new e;
      table = table_more a.board.now c.loop-k.slots c.loop-k.k c.probe-at.result c.loop-k.invariant.table q (ended c.probe-at.result _ q.equal e);
    }

pub returns : goal.returns
returns c =
    let a = c.args in
    let e : c.loop-k.k ≡ a.n = omega arith in
    sym (board_differs a.board.now a.n c.requires.plain ∙ rw e at c.loop-k.invariant.new)
