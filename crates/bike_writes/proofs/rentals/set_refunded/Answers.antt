use Rattle.bike_schema.proofs.MakesLemmas.{writes_told}
use Rattle.bike_writes.proofs.TextLemmas.{bindings}
use Rattle.bike_writes.proofs.RentalTexts.{sets_refunded}
use Rattle.bike_writes.proofs.rentals.set_refunded.Goals as goal

pub returns : goal.returns
returns g c = writes_told (sets_refunded c.args.rental c.args.refunded) c.run.ensures (search bindings)
