-- The first scan that is it, or none.
use borrow.Author.Rules.{rules}
use borrow.Author.Tests.{tests}
use Rattle.std.proofs.lemmas.Iterator.{YieldsList-from_slice, YieldsList-from_zip}
use Rattle.std.proofs.lemmas.Iterator.Search.{position_from_yields_List}
use Rattle.intake.proofs.Scans.{is, tube_at}
use Rattle.intake.proofs.tube_for.Goals as goal

pub returns : goal.returns
returns c =
    let a = c.args in
    let e = position_from_yields_List (is a.station a.serial) c.position-met.new.self _ _ c.position-met.ensures.ran (YieldsList-from_zip (YieldsList-from_slice a.stations.now cc) (YieldsList-from_slice a.serials.now cc)) (λ x b q k. search (rules, tests)) in
    rw c.unwrap_or.ensures (tube_at a.stations.now a.serials.now a.station a.serial c.position-met.result c.requires e)
