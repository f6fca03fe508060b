-- What a closing part is made of, as the code keeps it.
use Rattle.rules.specs.Words.{Room, State}
use Rattle.closing.specs.declared.part.Closing.{Closing}
use Rattle.closing.specs.Given.{Given}

-- all of it is that of the room ρ and what stands in it, s
abbrev pub Of : Room → State → Closing → Type 0
Of ρ s c = Given ρ s c.tubes c.reach c.split c.stations c.serials c.scanned
