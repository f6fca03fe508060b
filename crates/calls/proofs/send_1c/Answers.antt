-- A 1c: the exits.
use Rattle.judge.proofs.Call.{gate_exit, judge_exit}
use Rattle.calls.proofs.send_1c.Goals as goal

pub returns-in_err-gate : goal.returns-in_err-gate
returns-in_err-gate c = gate_exit _ _ _ _ c.in_err-gate.ensures.number c.from_residual.ensures

pub returns-in_err-bid : goal.returns-in_err-bid
returns-in_err-bid c = judge_exit _ _ _ _ c.in_ok-gate.ensures.number c.in_err-bid.ensures.number c.from_residual-in_err-bid.ensures
