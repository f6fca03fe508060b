-- A scan: a tube on intake is known, any other is put there.
use mathlib.Core.Path.{ap, ◌∙◌}
use Rattle.rules.specs.Lent.{Memory, memory}
use Rattle.rules.specs.Steps.{scan}
use Rattle.rules.specs.declared.House.{House}
use Rattle.kept.proofs.Ready.{passed, ready}
use Rattle.judge.proofs.Past.{bounds}
use Rattle.write.proofs.Acts.{scan_old, scan_new, old_after, new_after}
use Rattle.write.proofs.act.act_scan.Goals as goal

pub tube_of-t-requires : goal.tube_of-t-requires
tube_of-t-requires c =
    let lent : Memory =
    let a = c.args in memory a.house.now a.board.now a.cells.now a.heard.now in
    (bounds lent c.requires.whole).tubes

pub returns-then-known : goal.returns-then-known
returns-then-known c =
    let lent : Memory =
    let a = c.args in memory a.house.now a.board.now a.cells.now a.heard.now in
    let x = c.args.station in
    let y = c.args.serial in
    old_after lent x y c.requires.serial_value (scan_old lent x y c.tube_of-t.result c.tube_of-t.ensures c.if-known.true)

pub enter-requires : goal.enter-requires
enter-requires c =
    let lent : Memory =
    let a = c.args in memory a.house.now a.board.now a.cells.now a.heard.now in
    let x = c.args.station in
    let y = c.args.serial in
    ready lent (scan x y) (passed lent (scan x y) c.requires.whole.typed c.requires.serial_value) (scan_new lent x y c.tube_of-t.result c.tube_of-t.ensures c.if-known.false)

pub returns : goal.returns
returns c =
    let lent : Memory =
    let a = c.args in memory a.house.now a.board.now a.cells.now a.heard.now in
    let a = c.args in
    let x = a.station in
    let y = a.serial in
    ap (λ (h : House). memory h a.board.now a.cells.now a.heard.now) c.enter.ensures
    ∙ new_after lent x y c.requires.serial_value (scan_new lent x y c.tube_of-t.result c.tube_of-t.ensures c.if-known.false)
