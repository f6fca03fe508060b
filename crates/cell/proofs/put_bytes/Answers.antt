-- Writing an array's bytes: the part that is written and given back pastes them.
use Rattle.std.proofs.Common.{rules, ◌≡◌, ◌+◌, ◌-◌, length, arith}
use Rattle.std.proofs.lemmas.Slice.{put_mid-paste}
use Rattle.cell.proofs.put_bytes.Goals as goal

pub returns : goal.returns
returns g c =
    let a = c.args in
    let len : length a.bytes ≡ g.row.N = search rules in
    put_mid-paste a.at (a.at + g.row.N - a.at) a.s.now c.copy_from_slice.new.self a.bytes g.row.N c.copy_from_slice.ensures.after (omega arith) (omega arith)
