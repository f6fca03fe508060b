-- A 2av and a 2b are stored by their kinds.
use Rattle.rules.specs.Lent.{stored, limits}
use Rattle.foreign.proofs.message.Goals as goal

pub returns-in-Relay : goal.returns-in-Relay
unfolding stored
returns-in-Relay c = rw c.in-Relay.is c.message_vote.ensures

pub returns-in-Accept : goal.returns-in-Accept
unfolding stored limits
returns-in-Accept c = rw c.in-Accept.is c.message_vote-in-Accept.ensures
