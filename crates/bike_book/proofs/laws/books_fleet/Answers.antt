use Rattle.bike_book.proofs.FleetBooks.{add_bike, add_truck, add_rider, set_rider}
use Rattle.bike_book.proofs.laws.books_fleet.Goals as goal

pub returns-clause-add_bike : goal.returns-clause-add_bike
returns-clause-add_bike c = add_bike

pub returns-clause-add_truck : goal.returns-clause-add_truck
returns-clause-add_truck c = add_truck

pub returns-clause-add_rider : goal.returns-clause-add_rider
returns-clause-add_rider c = add_rider

pub returns-clause-set_rider : goal.returns-clause-set_rider
returns-clause-set_rider c = set_rider
