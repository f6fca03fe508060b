-- A foreign post: the exits.
use Rattle.judge.proofs.Call.{gate_exit, judge_exit}
use Rattle.lent.proofs.post_in_place.Goals as goal

pub returns-in_err-gate : goal.returns-in_err-gate
returns-in_err-gate c = gate_exit _ _ _ _ c.in_err-gate.ensures.number c.from_residual.ensures

pub returns-in_err-judge_foreign : goal.returns-in_err-judge_foreign
returns-in_err-judge_foreign c = judge_exit _ _ _ _ c.in_ok-gate.ensures.number c.in_err-judge_foreign.ensures c.from_residual-in_err-judge_foreign.ensures
