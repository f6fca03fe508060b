-- The removal and append step: what was packed takes one pair more.
use Rattle.std.proofs.Common.{rules, ◌≡◌}
use Rattle.rules.specs.Lent.{pairs_of}
use Rattle.rules.specs.Steps.{without}
use Rattle.pairs.proofs.Arrays.{put_last}
use Rattle.pairs.proofs.moved.Goals as goal

pub returns : goal.returns
returns c =
    let r = c.removed-w in
    let a = c.args in
    let n : c.from-n.result ≡ r.result.count = search rules in
    rw n (put_last (without a.tube.0 (pairs_of a.count a.pairs)) r.result.count r.result.pairs a.tube.0 a.ballot.0
    c.requires.pairs_len_bound r.ensures.count r.ensures.bytes)
