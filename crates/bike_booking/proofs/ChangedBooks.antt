-- One other record, as the rows that are written of it.
use Rattle.std.proofs.Common.{◌≡◌, ◌+◌, ◌<◌, ℕ, pos, None, arith}
use Rattle.std.specs.FinMap as fin
use Rattle.bike_ledger.specs.Ledger.{balance_of, refunded_of}
use Rattle.bike_operator.specs.Operator.{Operator, last_number}
use Rattle.bike_operator.specs.Sound.{AreNamesSound}
use Rattle.bike_book.specs.Stored.{Listed, IsListing}
use Rattle.bike_book.specs.ChangeLaws.{BooksChange}
use Rattle.bike_book.specs.NotThere.{NoTypesYet}
use Rattle.bike_book.proofs.CatalogueBooks.{set_system, add_type, set_plan, add_region, add_station, set_station, set_region, add_name, change_system, move_station}
use Rattle.bike_book.proofs.NameBooks.{set_own_name, set_further_name, remove_name}
use Rattle.bike_book.proofs.PlanBooks.{add_plan}
use Rattle.bike_book.proofs.FleetBooks.{add_bike, add_truck, add_rider, set_rider}
use Rattle.bike_book.proofs.RentalBooks.{add_rental, close_rental, add_order, set_order}
use Rattle.bike_accepted.specs.declared.change.Change.{Change}
use Rattle.bike_accepted.specs.declared.change.Change.TheVariants as change
use Rattle.bike_accepted.specs.Found.{IsFound}

-- What is known of an operator beside the record: names stand under three texts, and what isn't there has no balance, no refunds and no bicycles.
pub record IsReady (s : Operator) : Type 0 where
  pub names : AreNamesSound s
  pub refunds : (rental : ℕ) → last_number s.rentals < rental → refunded_of rental s.entries.items ≡ pos 0
  pub balance : (rider : ℕ) → fin.get s.riders rider ≡ None → balance_of rider s.entries.items ≡ pos 0
  pub types : NoTypesYet s

module _ (s : Operator) (m : Listed) (listing : IsListing s m) (ready : IsReady s) where
  pub books_change : (c : Change) → IsFound s c → BooksChange s m c
  books_change (change.SetSystem x) found = set_system s m listing x
  books_change (change.AddPlan p) found = add_plan s m listing p found
  books_change (change.AddType t) found = add_type s m listing t
  books_change (change.SetPlan type_id plan) found = set_plan s m listing type_id plan
  books_change (change.AddStation x reported) found = add_station s m listing x reported found.absent found.none_docked found.none_broken (ready.types x.now.station_id found.absent)
  books_change (change.SetStation station installed renting returning reported) found = set_station s m listing station installed renting returning reported
  books_change (change.AddRegion r) found = add_region s m listing r
  books_change (change.SetRegion station region) found = set_region s m listing station region
  books_change (change.AddName kind id language name) found = add_name s m listing kind id language name ready.names
  books_change (change.SetOwnName kind id name) found = set_own_name s m listing kind id name
  books_change (change.SetFurtherName kind id language name) found = set_further_name s m listing kind id language name ready.names found
  books_change (change.RemoveName kind id language) found = remove_name s m listing kind id language ready.names
  books_change (change.ChangeSystem x) found = change_system s m listing x
  books_change (change.MoveStation station p) found = move_station s m listing station p
  books_change (change.AddBike bike type_id) found = add_bike s m listing bike type_id found
  books_change (change.AddTruck truck capacity) found = add_truck s m listing truck capacity
  books_change (change.AddRider rider) found = add_rider s m listing rider (ready.balance rider found)
  books_change (change.SetRider rider blocked) found = set_rider s m listing rider blocked found
  books_change (change.AddRental rental rider bike plan from_station start) found =
      let is : rental ≡ last_number s.rentals + 1 = found in add_rental s m listing rental rider bike plan from_station start found (ready.refunds rental (omega (arith, is)))
  books_change (change.CloseRental rental to_station finish fare) found = close_rental s m listing rental to_station finish fare
  books_change (change.AddOrder order truck from_end to_end type_id count) found = add_order s m listing order truck from_end to_end type_id count found
  books_change (change.SetOrder order delivered is_open) found = set_order s m listing order delivered is_open
