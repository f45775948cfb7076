use Rattle.bike_schema.proofs.MakesLemmas.{writes_told}
use Rattle.bike_writes.proofs.TextLemmas.{bindings}
use Rattle.bike_writes.proofs.RentalTexts.{adds_rental}
use Rattle.bike_writes.proofs.rentals.add_rental.Goals as goal

pub returns : goal.returns
returns g c = writes_told (adds_rental c.args.rental c.args.rider c.args.bike c.args.plan c.args.from_station c.args.start) c.run.ensures (search bindings)
