-- What a decision and its effect are told by: a place, a text, an entry and a refusal, where there is one.
use Rattle.std.specs.Prelude.{ℕ, List, Option, Some, None, Result, Ok, Err}
use Rattle.std.specs.Borrow.{Bor}
use Rattle.bike_ledger.specs.Entries.{Entry}
use Rattle.bike_commands.specs.declared.refusal.Refusal.{Refusal}
use Rattle.bike_operator.specs.declared.records.Place.{Place}
use Rattle.bike_operator.specs.declared.records.Place.TheVariants as place
use Rattle.bike_operator.specs.declared.change.NewPlace.{NewPlace}
use Rattle.bike_operator.specs.declared.change.NewPlace.TheVariants as new
use Rattle.bike_operator.specs.Operator.{Operator, with_item}

abbrev pub place_of : NewPlace → Place
place_of (new.Dock station dock) = place.Dock station.now dock
place_of (new.Rental rental) = place.Rental rental
place_of (new.Truck truck order) = place.Truck truck order
place_of new.Depot = place.Depot

abbrev pub text_in : Option (Bor (List ℕ)) → Option (List ℕ)
text_in None = None
text_in (Some text) = Some text.now

-- an entry added, where there is one
abbrev pub entry_added : Option Entry → Operator → Operator
entry_added None s = s
entry_added (Some e) s = record s { entries = with_item e s.entries }

-- the refusal of a test, where it refuses
abbrev pub refusal_in : {A : Type 0} → Result A Refusal → Option Refusal
refusal_in (Ok x) = None
refusal_in (Err r) = Some r
