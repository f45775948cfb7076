use Rattle.bike_schema.proofs.MakesLemmas.{writes_told}
use Rattle.bike_writes.proofs.TextLemmas.{bindings}
use Rattle.bike_writes.proofs.RentalTexts.{closes_rental}
use Rattle.bike_writes.proofs.rentals.close_rental.Goals as goal

pub returns : goal.returns
returns g c = writes_told (closes_rental c.args.rental c.args.to_station c.args.finish c.args.fare) c.run.ensures (search bindings)
