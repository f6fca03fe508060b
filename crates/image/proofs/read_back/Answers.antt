-- Reading back: what was written stands where it is read.
use mathlib.Core.Path.{ap, ◌∙◌}
use borrow.Author.Rules.{rules}
use Rattle.image.specs.Image.{house_at}
use Rattle.image.proofs.Back.{Sized, read_back}
use Rattle.image.proofs.read_back.Goals as goal

pub returns : goal.returns
returns c =
    let sized : Sized c.args.h = record { quorums = search rules; weaks = search rules; stations = search rules; serials = search rules } in
    c.read_house.ensures ∙ ap house_at c.write_house.ensures ∙ read_back c.args.h _ sized
