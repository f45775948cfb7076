-- The row changes that book a system set, a type, region, station or further name added, and a type's default plan or a station's flags or region set.
use Rattle.std.proofs.Common.{◌≡◌, ℕ, pos, List, [], ◌∷◌, Option, Some, None, refl, sym, ◌∙◌, arith}
use Rattle.std.specs.Prelude.{map, option_map}
use Rattle.std.specs.Ordering.{nat_cmp}
use Rattle.std.specs.declared.cmp.Ordering.TheVariants.{Equal}
use Rattle.std.specs.Cmp.{eq_by_cmp_equiv, Equal-is}
use Rattle.std.specs.FinMap as fin
use Rattle.std.proofs.lemmas.Int.{ints}
use Rattle.sqlite_value.specs.declared.value.Value.TheVariants.{Int, Text}
use Rattle.sqlite_value.specs.Order.{row_cmp}
use Rattle.bike_sql.specs.View.{put_row_by, row_with, rows_after_update, with_values}
use Rattle.bike_sql.proofs.SetLaw.{updated_there}
use Rattle.bike_catalogue.specs.Rows.{SystemRow, SettingsRow, moved_to, system_with}
use Rattle.bike_operator.specs.Operator.{Operator, Station, NameKey, name_key}
use Rattle.bike_operator.specs.Steps.{new_station}
use Rattle.bike_operator.specs.Changes.{text_in}
use Rattle.bike_operator.specs.Sound.{AreNamesSound}
use Rattle.bike_laws.proofs.SingleSteps.MapLemmas.{number_order}
use Rattle.bike_laws.proofs.SingleSteps.CatalogueLemmas.{same_docks, docks_changed, docks_added}
use Rattle.bike_accepted.specs.declared.change.Change.TheVariants as change
use Rattle.bike_accepted.specs.Effects.{after_change}
use Rattle.bike_book.specs.Rows.{number_value, system_row, station_row}
use Rattle.bike_book.specs.Stored.{system_rows, stored_type, stored_region, stored_name}
use Rattle.bike_book.specs.ByType.{by_type_text}
use Rattle.bike_book.specs.Between.{docks_left, counted_station, tables_between}
use Rattle.bike_book.specs.ChangeLaws.{Everywhere, SetSystemLaw, AddTypeLaw, SetPlanLaw, AddRegionLaw, AddStationLaw, SetStationLaw, SetRegionLaw, AddNameLaw, ChangeSystemLaw, MoveStationLaw}
use Rattle.bike_book.proofs.MapRows.{put_entries, changed_entries}
use Rattle.bike_book.proofs.Keys.{numbers, number_key, texts, triples, name_triple, IsTriple}
use Rattle.bike_book.proofs.ListingLemmas.{listing_same}

-- the one key of `system` and `meta`
pub one_key : row_cmp (number_key 1) (number_key 1) ≡ Equal
one_key = numbers.compares 1 1 tt tt ∙ (Equal-is (nat_cmp 1 1)).0 ((eq_by_cmp_equiv number_order.total).refl 1)

-- ---- the system

pub system_put : (x : SystemRow) (o : Option SystemRow) → put_row_by 1 (system_row x) (system_rows o) ≡ system_row x ∷ []
system_put x None = refl
system_put x (Some y) = rw one_key refl

pub set_system : Everywhere SetSystemLaw
set_system s m listing x = record {
  leads = λ i. record (tables_between s m) { system = system_put x.now s.system i };
  listing = listing_same s (after_change (change.SetSystem x) s) m (same_docks s (after_change (change.SetSystem x) s) refl) refl refl refl listing;
}

settings_put : (x : SettingsRow) (o : Option SystemRow)
    → rows_after_update 1 (Int (pos 1) ∷ []) (with_values ((3, Text x.name) ∷ (4, Text x.opening_hours) ∷ (5, Text x.feed_contact_email) ∷ (6, Text x.timezone)
    ∷ (8, Text x.base_url) ∷ (9, number_value x.ttl) ∷ [])) (system_rows o) ≡ system_rows (option_map (system_with x) o)
settings_put x None = refl
settings_put x (Some y) =
    let found : row_with 1 (Int (pos 1) ∷ []) (system_rows (Some y)) ≡ Some (system_row y) = rw one_key refl in
    updated_there 1 (Int (pos 1) ∷ []) _ (system_rows (Some y)) (system_row y) found ∙ system_put (system_with x y) (Some y)

pub change_system : Everywhere ChangeSystemLaw
change_system s m listing x = record {
  leads = λ i. record (tables_between s m) { system = settings_put x.now s.system i };
  listing = listing_same s (after_change (change.ChangeSystem x) s) m (same_docks s (after_change (change.ChangeSystem x) s) refl) refl refl refl listing;
}

-- ---- types

pub add_type : Everywhere AddTypeLaw
add_type s m listing t =
    let n = after_change (change.AddType t) s in
    let types = put_entries texts stored_type stored_type (λ e. refl) (λ e. refl) s.types t.now.type_id t.now tt (λ q y found. (tt, λ apart. refl)) in
    record {
      leads = λ i. record (tables_between s m) { types = types i };
      listing = listing_same s n m (same_docks s n refl) refl refl refl listing;
    }

pub set_plan : Everywhere SetPlanLaw
set_plan s m listing type_id plan =
    let n = after_change (change.SetPlan type_id plan) s in
    let types = changed_entries texts stored_type stored_type (λ e. refl) (λ e. refl) s.types type_id.now tt _ (λ t. record t { plan_id = plan.now }) (λ v found. refl) (λ q y found. (tt, λ apart. refl)) in
    record {
      leads = λ i. record (tables_between s m) { types = types i };
      listing = listing_same s n m (same_docks s n refl) refl refl refl listing;
    }

-- ---- regions

pub add_region : Everywhere AddRegionLaw
add_region s m listing r =
    let n = after_change (change.AddRegion r) s in
    let regions = put_entries texts stored_region stored_region (λ e. refl) (λ e. refl) s.regions r.now.region_id r.now tt (λ q y found. (tt, λ apart. refl)) in
    record { leads = λ i. record (tables_between s m) { regions = regions i }; listing = listing_same s n m (same_docks s n refl) refl refl refl listing }

-- ---- stations

pub add_station : Everywhere AddStationLaw
add_station s m listing x reported free none_taken none_broken no_types =
    let n = after_change (change.AddStation x reported) s in
    let left : pos x.now.docks ≡ docks_left s x.now.station_id x.now.docks = omega (arith, ints, none_taken, none_broken) in
    let stations =
    (λ i. put_row_by 1 (station_row x.now.station_id (new_station x.now reported) (left i) (sym none_broken i) (by_type_text (sym no_types i))) (map (counted_station s) (fin.entries s.stations)))
    ∙ put_entries texts (counted_station s) (counted_station s) (λ e. refl) (λ e. refl) s.stations x.now.station_id (new_station x.now reported) tt (λ q y found. (tt, λ apart. refl)) in
    record {
      leads = λ i. record (tables_between s m) { stations = stations i };
      listing = listing_same s n m (docks_added s n x.now.station_id (new_station x.now reported) free refl) refl refl refl listing;
    }

pub set_station : Everywhere SetStationLaw
set_station s m listing station installed renting returning reported =
    let n = after_change (change.SetStation station installed renting returning reported) s in
    let f = λ (x : Station). record x { is_installed = installed; is_renting = renting; is_returning = returning; reported = reported } in
    let stations = changed_entries texts (counted_station s) (counted_station s) (λ e. refl) (λ e. refl) s.stations station.now tt _ f (λ v found. refl) (λ q y found. (tt, λ apart. refl)) in
    record {
      leads = λ i. record (tables_between s m) { stations = stations i };
      listing = listing_same s n m (docks_changed s n station.now f (λ x. omega arith) refl) refl refl refl listing;
    }

pub set_region : Everywhere SetRegionLaw
set_region s m listing station region =
    let n = after_change (change.SetRegion station region) s in
    let f = λ (x : Station). record x { region = text_in region } in
    let stations = changed_entries texts (counted_station s) (counted_station s) (λ e. refl) (λ e. refl) s.stations station.now tt _ f (λ v found. refl) (λ q y found. (tt, λ apart. refl)) in
    record {
      leads = λ i. record (tables_between s m) { stations = stations i };
      listing = listing_same s n m (docks_changed s n station.now f (λ x. omega arith) refl) refl refl refl listing;
    }

pub move_station : Everywhere MoveStationLaw
move_station s m listing station p =
    let n = after_change (change.MoveStation station p) s in
    let f = λ (x : Station). record x { row = moved_to p.now x.row } in
    let stations = changed_entries texts (counted_station s) (counted_station s) (λ e. refl) (λ e. refl) s.stations station.now tt _ f (λ v found. refl) (λ q y found. (tt, λ apart. refl)) in
    record {
      leads = λ i. record (tables_between s m) { stations = stations i };
      listing = listing_same s n m (docks_changed s n station.now f (λ x. omega arith) refl) refl refl refl listing;
    }

-- ---- names in further languages

pub named_triple : (s : Operator) → AreNamesSound s → (key : NameKey) (name : List ℕ) → fin.get s.more_names key ≡ Some name → IsTriple key
named_triple s are key name found = let it = are.names key name found in record { first = _; second = it.id; third = it.language; is = it.key_is }

pub add_name : Everywhere AddNameLaw
add_name s m listing kind id language name are =
    let n = after_change (change.AddName kind id language name) s in
    let names =
    put_entries triples stored_name stored_name (λ e. refl) (λ e. refl) s.more_names (name_key kind id.now language.now) name.now (name_triple kind id.now language.now)
    (λ q y found. (named_triple s are q y found, λ apart. refl)) in
    record { leads = λ i. record (tables_between s m) { more_names = names i }; listing = listing_same s n m (same_docks s n refl) refl refl refl listing }
