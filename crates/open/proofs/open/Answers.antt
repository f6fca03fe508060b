-- Refused: nothing is written. Done: cells, heard bits and the house record as opening leaves them.
use Rattle.std.proofs.Common.{◌≡◌, refl, sym, ◌∙◌, arith}
use Rattle.std.proofs.lemmas.Result.{err_from_is_err_and}
use Rattle.rules.specs.Lent.{Memory, memory}
use Rattle.rules.specs.Replies.{open_reply}
use Rattle.rules.specs.declared.House.{House}
use Rattle.rules.proofs.Named.{positive}
use Rattle.open.specs.declared.Plan.{Plan}
use Rattle.open.specs.Room.{planned}
use Rattle.open.proofs.Opened.{Passed, refused, passed, done}
use Rattle.open.proofs.open.Goals as goal

-- what the tests tell where none failed, whatever house record stood there
told : (p : Plan) (m : Memory) → ((h : House) → 0 ≡ open_reply (planned p) (memory h m.board m.cells m.heard)) → Passed (planned p) m
told p m e = passed (planned p) m (sym (e m.house))

pub returns-in_err-judge_open : goal.returns-in_err-judge_open
returns-in_err-judge_open c =
    let a = c.args in
    let m : Memory = memory a.house.now a.board.now a.cells.now a.heard.now in
    let p = err_from_is_err_and c.from_residual.result c.from_residual.ensures.1 in
    let e = c.in_err-judge_open.ensures m.house in
    rw (p.1, p.2) (refused (planned a.plan) m _ _ e (λ z. positive _ (e ∙ z)) refl)

pub overflow_mul-plan : goal.overflow_mul-plan
overflow_mul-plan c =
    let a = c.args in
    let m : Memory = memory a.house.now a.board.now a.cells.now a.heard.now in
    let t = told a.plan m c.in_ok-judge_open.ensures in
    let z = t.places in omega arith

pub fresh_cells-requires : goal.fresh_cells-requires
fresh_cells-requires c =
    let a = c.args in
    let m : Memory = memory a.house.now a.board.now a.cells.now a.heard.now in
    let t = told a.plan m c.in_ok-judge_open.ensures in
    record { n_bound = t.places; n_in_bounds = t.wide.cells }

pub zeros-requires : goal.zeros-requires
zeros-requires c =
    let a = c.args in
    let m : Memory = memory a.house.now a.board.now a.cells.now a.heard.now in
    let t = told a.plan m c.in_ok-judge_open.ensures in
    t.wide.heard

pub house_of-requires : goal.house_of-requires
house_of-requires c =
    let a = c.args in
    let m : Memory = memory a.house.now a.board.now a.cells.now a.heard.now in
    let t = told a.plan m c.in_ok-judge_open.ensures in
    t.housed

pub returns : goal.returns
returns c =
    let a = c.args in
    let m : Memory = memory a.house.now a.board.now a.cells.now a.heard.now in
    done (planned a.plan) m c.house_of.result _ _ (sym (c.in_ok-judge_open.ensures m.house)) c.house_of.ensures c.fresh_cells.ensures c.zeros.ensures
