-- What a desk knows of newest rentals.
use Rattle.std.specs.Prelude.{Bool, true, false}
use Rattle.bike_desk.specs.declared.newest.Newest.{Newest}
use Rattle.bike_desk.specs.declared.newest.Newest.TheVariants.{Unknown, Tells, Walks}

-- it found that each open rental is its rider's newest
abbrev pub knows_newest : Newest → Bool
knows_newest Unknown = false
knows_newest Tells = true
knows_newest Walks = false
