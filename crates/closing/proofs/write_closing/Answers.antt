-- `write_closing` meets its contract: rows, waiting tubes, a split and totals, one after another, are the closing lines.
use mathlib.Core.Path.{◌∙◌}
use native.Mathlib.Nat.{zero-add}
use native.Mathlib.Omega.{arith}
use lib.ListN.{length}
use Rattle.closing.specs.Printed.{closing_of}
use Rattle.closing.specs.Given.{Wrote}
use Rattle.closing.proofs.Writing.{wrote_on}
use Rattle.closing.proofs.Rows.{rows_known, parts}
use Rattle.closing.proofs.write_closing.Goals as goal

pub invariant_of-closing : goal.invariant_of-closing
invariant_of-closing c =
    let k = c.requires.known in
    record { rows = rows_known k.0 k.1 c.args.tubes c.args.reach k.2.rows k.2.few; most = k.2.most }

pub returns : goal.returns
returns c =
    let a = c.args in
    let room = c.requires.in_bounds in
    let few = c.requires.known.2 in
    let rows = c.write_rows-rows in
    let waiting = c.write_waiting-waiting in
    let stop = c.write_split-at in
    let entered = c.entered-entered in
    let left = c.waiting in
    let last = c.totals_line in record {
      value = λ ρ s g.
          let whole = wrote_on (omega (arith, room)) (rows.ensures.wrote ρ s g)
          (wrote_on (omega (arith, room, rows.ensures.upper_bound, rows.auto.out, few.few)) (waiting.ensures.wrote ρ s g)
          (wrote_on (omega (arith, room, rows.ensures.upper_bound, rows.auto.out, waiting.ensures.upper_bound, waiting.auto.out, few.few, few.most)) stop.ensures.wrote last.ensures.wrote)) in
          let all : Wrote a.out.now 0 (closing_of ρ s) last.result last.new.out =
          rw (parts ρ s a.reach a.scanned entered.result left.result a.split g.rows.reached g.count g.stop (entered.ensures.value ρ s g) (left.ensures ρ s g)) at whole in
          (all.ends ∙ zero-add (length (closing_of ρ s)), all.area);
      upper_bound = omega (arith, rows.ensures.upper_bound, waiting.ensures.upper_bound, stop.ensures.upper_bound, last.ensures.upper_bound, few.few, few.most);
    }
