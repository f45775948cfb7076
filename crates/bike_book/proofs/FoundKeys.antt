-- The rows found by their keys.
use Rattle.std.proofs.Common.{◌≡◌, pos, ℕ, List, [], ◌∷◌, Bool, true, false, Option, Some, None, is_some, refl, ap, ◌∙◌}
use Rattle.std.specs.Prelude.{◌+◌, ◌==◌, if◌then◌else◌, option_map, slice_get}
use Rattle.std.specs.FinMap as fin
use Rattle.sqlite_value.specs.declared.value.Value.TheVariants.{Text}
use Rattle.bike_sql.specs.View.{row_with}
use Rattle.bike_catalogue.specs.Rows.{SystemRow}
use Rattle.bike_operator.specs.Operator.{Operator, DockKey, name_key, dock_key}
use Rattle.bike_operator.specs.Counts.{is_broken}
use Rattle.bike_book.specs.declared.version.TheConstants.{NEWEST}
use Rattle.bike_book.specs.Tables.{Docks}
use Rattle.bike_book.specs.Rows.{number_value, system_row, dock_row, books_row}
use Rattle.bike_book.specs.Stored.{Listed, IsListing, system_rows, stored_plan, stored_type, stored_region, stored_station, stored_dock, stored_bike, stored_truck, stored_rider, stored_rental}
use Rattle.bike_book.specs.Stored.{stored_order, stored_entry, stored_name, books_rows}
use Rattle.bike_book.specs.Found.{row_under, WhereListed, FoundByKey, FoundListed}
use Rattle.bike_book.proofs.MapRows.{found_entries}
use Rattle.bike_book.proofs.Keys.{number_key, numbers, texts, triples, name_triple, docks, IsDockPair}
use Rattle.bike_book.proofs.NumberRows.{found_number}
use Rattle.bike_book.proofs.CatalogueBooks.{one_key, named_triple}
use Rattle.bike_book.proofs.LedgerRows.{meta_found}

system_found : (o : Option SystemRow) → row_with 1 (number_key 1) (system_rows o) ≡ option_map system_row o
system_found None = refl
system_found (Some x) = rw one_key refl

books_found : (requests entries rentals : ℕ) → row_with 1 (number_key 1) (books_rows requests entries rentals) ≡ slice_get (books_rows requests entries rentals) 0
books_found requests entries rentals = go (requests + entries + rentals == 0) where
  go : (none : Bool) → row_with 1 (number_key 1) (if none then [] else books_row requests entries rentals ∷ []) ≡ slice_get (if none then [] else books_row requests entries rentals ∷ []) 0
  go true = refl
  go false = rw one_key refl

pub found_by_key : WhereListed FoundByKey
found_by_key s m sound listing = record {
  meta = meta_found NEWEST m.since s.past.cash s.past.revenue;
  system = system_found s.system;
  plans = λ id. found_entries texts stored_plan (λ e. refl) id tt s.plans (λ q y found. tt);
  types = λ id. found_entries texts stored_type (λ e. refl) id tt s.types (λ q y found. tt);
  regions = λ id. found_entries texts stored_region (λ e. refl) id tt s.regions (λ q y found. tt);
  stations = λ id. found_entries texts (stored_station s) (λ e. refl) id tt s.stations (λ q y found. tt);
  bikes = λ bike. found_entries numbers stored_bike (λ e. refl) bike tt s.bikes (λ q y found. tt);
  trucks = λ truck. found_entries numbers stored_truck (λ e. refl) truck tt s.trucks (λ q y found. tt);
  riders = λ rider. found_entries numbers (stored_rider s.entries.items) (λ e. refl) rider tt s.riders (λ q y found. tt);
  rentals = λ rental. found_number (stored_rental s.entries.items) (λ e. refl) rental s.rentals;
  orders = λ order. found_number stored_order (λ e. refl) order s.orders;
  entries = λ entry. found_number stored_entry (λ e. refl) entry s.entries;
  books = books_found s.history.archived s.entries.archived s.rentals.archived;
  more_names = λ kind id language.
      found_entries triples stored_name (λ e. refl) (name_key kind id language) (name_triple kind id language) s.more_names (λ k y found. named_triple s sound.names k y found);
}

-- ---- docks

module _ (s : Operator) (m : Listed) (listing : IsListing s m) where
  pub dock_pair : (key : DockKey) (y : Unit {0}) → fin.get m.docks key ≡ Some y → IsDockPair key
  dock_pair key y found = let it = listing.docks key (ap is_some found) in record { station = it.station; dock = it.dock; is = it.key_is }

  -- a broken dock is listed
  unlisted_works : (station : List ℕ) (dock : ℕ) → fin.get m.docks (dock_key station dock) ≡ None → (b : Bool) → is_broken s station dock ≡ b → b ≡ false
  unlisted_works station dock none true marked =
      let there = listing.marked (dock_key station dock) marked in
      let not_there : is_some (fin.get m.docks (dock_key station dock)) ≡ false = ap is_some none in
      absurd cc
  unlisted_works station dock none false marked = refl

  dock_found : (station : List ℕ) (dock : ℕ) → row_under s m Docks (Text station ∷ number_value dock ∷ [])
      ≡ option_map (λ listed. dock_row station dock (is_broken s station dock)) (fin.get m.docks (dock_key station dock))
  dock_found station dock = found_entries docks (stored_dock s.broken) (λ e. refl) (dock_key station dock) (record { station = station; dock = dock; is = refl }) m.docks dock_pair

pub mapped_some : {A B : Type 0} (f : A → B) (o : Option A) → is_some (option_map f o) ≡ is_some o
mapped_some f None = refl
mapped_some f (Some x) = refl

pub found_listed : WhereListed FoundListed
found_listed s m sound listing = record {
  docks = dock_found s m listing;
  dock_listed = λ station dock. ap is_some (dock_found s m listing station dock) ∙ mapped_some _ (fin.get m.docks (dock_key station dock));
  works = λ station dock none. unlisted_works s m listing station dock none (is_broken s station dock) refl;
}
