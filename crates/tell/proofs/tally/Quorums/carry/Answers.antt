-- A tube is chosen in some ballot: one without votes in none.
use mathlib.Core.Path.{◌≡◌, refl, sym, ◌∙◌}
use Prim.Native.Nat.{◌+◌, ◌-◌, ◌*◌}
use native.Mathlib.Omega.{arith}
use Rattle.tell.specs.Chosen.{filled, carried}
use Rattle.tell.proofs.Found.{found_from}
use Rattle.tell.proofs.Unvoted.{none_carried}
use Rattle.tell.proofs.tally.Quorums.carry.Goals as goal

pub returns-then-not-no_votes : goal.returns-then-not-no_votes
unfolding carried
returns-then-not-no_votes c =
    let q = c.args.self.now in
    let at = 16 * (c.args.tube - 1) in
    let n : at + 16 - at ≡ 16 = omega arith in
    rw n at c.fills.ensures ∙ found_from (filled q.nodes q.list.now) c.args.votes.now at 16 (omega arith)

pub returns-else-not-no_votes : goal.returns-else-not-no_votes
returns-else-not-no_votes c =
    let q = c.args.self.now in
    rw c.if-not-no_votes.false (sym (none_carried q.nodes q.list.now c.args.votes.now c.args.tube refl q.peopled (sym c.no_votes.ensures ∙ c.if-not-no_votes.false)))
