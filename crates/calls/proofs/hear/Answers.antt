-- A message heard: the exits.
use Rattle.judge.proofs.Call.{gate_exit, judge_exit}
use Rattle.calls.proofs.hear.Goals as goal

pub returns-in_err-gate : goal.returns-in_err-gate
returns-in_err-gate c = gate_exit _ _ _ _ c.in_err-gate.ensures.number c.from_residual.ensures

pub returns-in_err-n : goal.returns-in_err-n
returns-in_err-n c = judge_exit _ _ _ _ c.in_ok-gate.ensures.number c.in_err-n.ensures.number c.from_residual-in_err-n.ensures
