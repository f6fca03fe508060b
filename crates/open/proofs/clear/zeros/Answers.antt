-- A run of zeros is so many parts of one byte.
use mathlib.Core.Path.{◌≡◌}
use borrow.Author.Rules.{rules}
use lib.ListN.{length, take, replicate, length-replicate}
use lib.Seq.{length-take-le}
use Rattle.open.proofs.Filled.{many_one}
use Rattle.open.proofs.clear.zeros.Goals as goal

pub returns : goal.returns
returns c =
    let a = c.args in
    let k : length (take a.n a.s.now) ≡ a.n = length-take-le a.n a.s.now c.requires in
    let f : c.fill.new.self ≡ replicate a.n 0 = search rules in
    rw (f, many_one, length-replicate)
