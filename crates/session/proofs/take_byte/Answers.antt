-- A newline ends the line, which is taken; any other byte is kept.
use Rattle.session.proofs.Turns.{ate_byte, ate_line}
use Rattle.session.proofs.take_byte.Goals as goal

pub returns-then-b-ne10-clause-ate : goal.returns-then-b-ne10-clause-ate
returns-then-b-ne10-clause-ate c = ate_byte _ _ c.args.b c.args.out.now c.if-b-ne10.true c.keep_byte-s.ensures

pub returns-clause-ate : goal.returns-clause-ate
returns-clause-ate c = rw (← c.from.ensures) (ate_line _ _ c.args.b c.if-b-ne10.false c.take_line.ensures.took)
