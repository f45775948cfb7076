use Rattle.bike_laws.proofs.RentalLaw.{rentals_law}
use Rattle.bike_laws.proofs.laws.keeps_rentals.Goals as goal

pub returns : goal.returns
returns c = rentals_law
