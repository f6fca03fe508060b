-- The sizes and the lists' lengths.
use Rattle.open.proofs.room.counts_in.Goals as goal

pub returns : goal.returns
returns c = rw c.sizes_in-sizes.ensures
