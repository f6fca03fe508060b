-- A line that asks for no step is answered 19; a step's answer and memory are its call's, and its answer is printed.
use Rattle.turn.proofs.Turns.{took_none, took_step}
use Rattle.turn.proofs.take_step.Goals as goal

pub returns-in_default : goal.returns-in_default
returns-in_default c =
    let w = c.answer_line in
    let a = c.args in
    record { took = λ h. took_none h _ a.line a.pairs c.in_default.not-Step w.ensures.wrote; end_bound = w.ensures.upper_bound }

pub returns : goal.returns
returns c =
    let w = c.answer_line-2 in
    record { took = λ h. took_step h _ _ c.in-Step.is c.take.ensures c.from-answer.ensures w.ensures.wrote; end_bound = w.ensures.upper_bound }
