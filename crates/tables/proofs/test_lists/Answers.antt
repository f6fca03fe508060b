-- The tests of the tables in their order, on lists whose sets are bytes.
use native.Mathlib.Omega.{arith}
use Rattle.rules.proofs.Codec.{take-fit}
use Rattle.tables.proofs.Lists.{set_bytes}
use Rattle.tables.proofs.test_lists.Goals as goal

pub narrowed-q-requires : goal.narrowed-q-requires
narrowed-q-requires c =
    (omega arith, (omega arith, set_bytes c.args.nodes c.args.quorums.now c.requires.nodes_bound (cc)))

pub narrowed-w-requires : goal.narrowed-w-requires
narrowed-w-requires c =
    (omega arith, (omega arith, set_bytes c.args.nodes c.args.weaks.now c.requires.nodes_bound (cc)))

pub returns-then-not-all_share : goal.returns-then-not-all_share
returns-then-not-all_share c =
    let q = rw (c.narrowed-q.ensures, take-fit 64 c.args.quorums.now (omega arith)) at c.all_share.ensures in
    grind arith

pub returns-then-not-all_pass : goal.returns-then-not-all_pass
returns-then-not-all_pass c =
    let q = rw (c.narrowed-q.ensures, take-fit 64 c.args.quorums.now (omega arith)) at c.all_share.ensures in
    let w = rw (c.narrowed-w.ensures, take-fit 64 c.args.weaks.now (omega arith)) at c.all_pass.ensures in
    grind arith

pub returns : goal.returns
returns c =
    let q = rw (c.narrowed-q.ensures, take-fit 64 c.args.quorums.now (omega arith)) at c.all_share.ensures in
    let w = rw (c.narrowed-w.ensures, take-fit 64 c.args.weaks.now (omega arith)) at c.all_pass.ensures in
    grind arith
