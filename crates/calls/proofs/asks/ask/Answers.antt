-- Asking a row is the gate, and then what is told.
use Rattle.std.proofs.Common.{sym}
use Rattle.std.proofs.lemmas.Result.{err_from_is_err_and}
use Rattle.rules.specs.Lent.{lent}
use Rattle.rules.specs.Steps.{ask}
use Rattle.judge.proofs.Call.{at_gate}
use Rattle.calls.proofs.asks.ask.Goals as goal

pub returns-in_err-gate : goal.returns-in_err-gate
returns-in_err-gate c =
    let p = err_from_is_err_and c.from_residual.result c.from_residual.ensures.1 in
    rw (p.1, p.2) (at_gate (lent c.args.m) (ask c.args.row) _ c.in_err-gate.ensures.number)
