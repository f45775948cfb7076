-- A bicycle's record changed, in no dock before and after, as row changes: its own row alone.
use Rattle.std.proofs.Common.{◌≡◌, ℕ, [], ◌∷◌, Some, refl}
use Rattle.std.specs.FinMap as fin
use Rattle.bike_operator.specs.declared.records.BikeState.{BikeState}
use Rattle.bike_operator.specs.declared.records.Bike.{Bike}
use Rattle.bike_operator.specs.declared.change.NewPlace.{NewPlace}
use Rattle.bike_operator.specs.Operator.{Operator}
use Rattle.bike_operator.specs.Changes.{place_of}
use Rattle.bike_laws.specs.SingleSteps.Laws.{IsAway}
use Rattle.bike_laws.proofs.SingleSteps.CatalogueLemmas.{same_docks}
use Rattle.bike_book.specs.declared.row_change.RowChange.TheVariants as row
use Rattle.bike_book.specs.Stored.{Listed, IsListing}
use Rattle.bike_book.specs.Between.{tables_between, Books}
use Rattle.bike_book.proofs.ListingLemmas.{listing_same}
use Rattle.bike_book.proofs.TypeLaws.{types_same}
use Rattle.bike_booking.proofs.TotalsRows.{stations_same}
use Rattle.bike_booking.proofs.BikeMoves.{bike_changed, moves_by, bikes_set, docks_away, bikes_away}

module _ (s : Operator) (m : Listed) (listing : IsListing s m) (bike : ℕ) (f : Bike → Bike) where
  abbrev next : Operator
  next = bike_changed bike f s

  pub away : (b : Bike) (state : BikeState) (p : NewPlace) → fin.get s.bikes bike ≡ Some b → record b { state = state; place = place_of p } ≡ f b → IsAway b.place → IsAway (f b).place
      → Books (row.SetBike bike state p ∷ []) s m next m
  away b state p found is from_away to_away =
      let moves = moves_by s bike b f found in
      let bikes = bikes_set s.bikes bike f b state (place_of p) found is in
      let stations = stations_same s next (docks_away moves from_away to_away) (λ station. types_same s next station (bikes_away moves from_away to_away station)) in
      record {
        leads = λ i. record (tables_between s m) { bikes = bikes i; stations = stations i };
        listing = listing_same s next m (same_docks s next refl) refl refl refl listing;
      }
