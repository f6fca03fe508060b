-- `form` promises what proofs/Stay shows of every call.
use Rattle.kept.proofs.Stay.{same_room, stays_typed, stays_whole}
use Rattle.kept.proofs.form.Goals as goal

pub returns : goal.returns
returns c = (same_room, stays_typed, λ m k t p l f. stays_whole m k (record { typed = t; counts = p; long = l; form = f }))
