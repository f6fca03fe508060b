-- `settled` promises what the rules and the book's law show.
use Rattle.rules.proofs.Refusals.{call_settled, opening-settled}
use Rattle.tell.proofs.Past.{book_settled}
use Rattle.calls.proofs.settled.Goals as goal

pub returns : goal.returns
returns c = record { calls = call_settled; opening = opening-settled; book = book_settled }
