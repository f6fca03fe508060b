-- Each number fits its field, and each list its table.
use native.Mathlib.Omega.{arith}
use Rattle.open.proofs.Housed.{sizes, bytes}
use Rattle.open.proofs.room.house_of.Goals as goal

pub narrowed-quorums-requires : goal.narrowed-quorums-requires
narrowed-quorums-requires c =
    (omega arith, ((sizes c.requires).quorums, bytes c.requires c.args.plan.quorums.now c.requires.quorums))

pub narrowed-weaks-requires : goal.narrowed-weaks-requires
narrowed-weaks-requires c =
    (omega arith, ((sizes c.requires).weaks, bytes c.requires c.args.plan.weaks.now c.requires.weaks))

pub overflow_cast-result : goal.overflow_cast-result
overflow_cast-result c = let z = sizes c.requires in omega arith

pub overflow_cast-result-2 : goal.overflow_cast-result-2
overflow_cast-result-2 c = let z = sizes c.requires in omega arith

pub overflow_cast-result-3 : goal.overflow_cast-result-3
overflow_cast-result-3 c = let z = sizes c.requires in omega arith

pub overflow_cast-result-4 : goal.overflow_cast-result-4
overflow_cast-result-4 c = let z = sizes c.requires in omega arith

pub overflow_cast-result-5 : goal.overflow_cast-result-5
overflow_cast-result-5 c = let z = sizes c.requires in omega arith

pub overflow_cast-result-6 : goal.overflow_cast-result-6
overflow_cast-result-6 c = let z = sizes c.requires in omega arith

pub returns : goal.returns
returns c = rw (c.narrowed-quorums.ensures, c.narrowed-weaks.ensures)
