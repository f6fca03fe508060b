-- `put_field` meets its contract: the word is written, and the number after it.
use native.Mathlib.Omega.{arith}
use Rattle.lines.specs.Decimal.{decimal}
use Rattle.lines.proofs.Decimal.{decimal-long}
use Rattle.closing.specs.Given.{Wrote}
use Rattle.closing.proofs.Writing.{wrote_on}
use Rattle.closing.proofs.put_field.Goals as goal

pub put_decimal-requires : goal.put_decimal-requires
put_decimal-requires c =
    let t = c.put_text-end in
    omega (arith, decimal-long c.args.number, t.ensures.ends, t.auto.out)

pub returns : goal.returns
returns c =
    let a = c.args in
    let t = c.put_text-end in
    let d = c.put_decimal in
    let w : Wrote t.new.out t.result (decimal a.number) d.result d.new.buf = record { ends = d.ensures.0; area = d.ensures.1 } in
    record { wrote = wrote_on (omega arith) t.ensures w; upper_bound = omega (arith, decimal-long a.number, t.ensures.ends) }
