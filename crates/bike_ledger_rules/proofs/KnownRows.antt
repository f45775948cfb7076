-- What is read into memory of tables in order is what they have.
use Rattle.std.proofs.Common.{◌≡◌, ℕ, ℤ, List, [], ◌∷◌, true, false, take, Option, Some, None, refl, ap, ◌∙◌}
use Rattle.std.specs.Prelude.{is_some, option_map, option_and_then, nat_eq}
use Rattle.std.specs.FinSet as set
use Rattle.std.specs.Ordering.{nat_cmp}
use Rattle.std.specs.Cmp.Lexicographic.{slice_cmp}
use Rattle.std.specs.Str.{bytes_eq}
use Rattle.std.specs.List.{fold}
use Rattle.std.proofs.lemmas.Bool.Decides.{Decides-eqb}
use Rattle.std.proofs.lemmas.List.{take_at}
use Rattle.std.proofs.lemmas.Slice.Eq.{bytes_eq-Decides}
use Rattle.sqlite_value.specs.Order.{Row, column}
use Rattle.sqlite_rules.specs.Lists.{Has}
use Rattle.bike_sql.specs.View.{partner}
use Rattle.bike_operator.specs.declared.records.Bike.{Bike}
use Rattle.bike_operator.specs.Operator.{Rider, Station}
use Rattle.bike_book.specs.Tables.{Tables, Riders, Bikes, Plans, Stations}
use Rattle.bike_book.specs.declared.columns.regions.TheConstants as regions
use Rattle.bike_book.specs.declared.columns.riders.TheConstants as riders
use Rattle.bike_book.specs.declared.columns.stations.TheConstants as stations
use Rattle.bike_book.specs.declared.columns.bikes.TheConstants as bikes
use Rattle.bike_book.specs.declared.columns.trucks.TheConstants as trucks
use Rattle.bike_book.proofs.Keys.{numbers, number_key, texts, text_key}
use Rattle.bike_readings.specs.Readings.{rider_read, bike_read, plan_read, station_read}
use Rattle.bike_readings.proofs.CatalogueRows.{plan_reading, station_reading}
use Rattle.bike_readings.proofs.FleetRows.{bike_reading}
use Rattle.bike_readings.proofs.LedgerRows.{rider_reading}
use Rattle.bike_readings.specs.Rules.{AreInOrder, row_under}
use Rattle.bike_judges.specs.declared.query.Query.TheVariants as query
use Rattle.bike_judges.specs.Lines.{or_nulls, with_one, lines_of}
use Rattle.bike_ledger_rules.specs.declared.known.RiderSet.{RiderSet}
use Rattle.bike_ledger_rules.specs.declared.known.BikeSet.{BikeSet}
use Rattle.bike_ledger_rules.specs.declared.known.PlanSet.{PlanSet}
use Rattle.bike_ledger_rules.specs.declared.known.StationSet.{StationSet}
use Rattle.bike_ledger_rules.specs.Known.{value_at, with_value, has_rider, is_listed, with_rider, rental_at, bike_rental, with_bike, has_plan, with_plan, has_station, with_station}
use Rattle.bike_ledger_rules.proofs.KnownFolds.{Keeps, step, said, fold_shown, known}
use Rattle.bike_ledger_rules.proofs.IdentSets.{Ids, ident-same, ident-other}
use Rattle.bike_ledger_rules.specs.Riders.{rider_line}
use Rattle.bike_ledger_rules.proofs.RiderFolds.{AreWide}
use Rattle.bike_ledger_rules.proofs.RiderLines.{own_row}
use Rattle.bike_ledger_rules.proofs.SumLemmas.{fold_held}
use Rattle.bike_ledger_rules.proofs.Values.{value_at-same, value_at-other}

-- a set of numbers
abbrev with_listed : List (Option (Unit {0})) → ℕ × Rider × ℤ → List (Option (Unit {0}))
with_listed ns e = with_value ns e.0 tt

listed_keeps : Keeps is_listed with_listed (λ e. e.0) (λ e. true)
listed_keeps = record {
  same = λ ns e. ap is_some (value_at-same ns e.0 tt);
  other = λ ns e k apart. ap is_some (value_at-other ns e.0 tt k apart);
}

-- the rentals in which bicycles are
abbrev with_rental : List (Option (Option ℕ)) → ℕ × Bike → List (Option (Option ℕ))
with_rental rentals b = with_value rentals b.0 (rental_at b.1.place)

abbrev rental_of : ℕ × Bike → Option (Option ℕ)
rental_of b = Some (rental_at b.1.place)

rentals_keep : Keeps value_at with_rental (λ b. b.0) rental_of
rentals_keep = record {
  same = λ rentals b. value_at-same rentals b.0 (rental_at b.1.place);
  other = λ rentals b k apart. value_at-other rentals b.0 (rental_at b.1.place) k apart;
}

-- a set of identifiers
module _ {E : Type 0} (key : E → List ℕ) where
  abbrev with_key : Ids → E → Ids
  with_key ids e = set.insert ids (key e)

  idents_keep : Keeps set.contains with_key key (λ e. true)
  idents_keep = record { same = λ ids e. ident-same ids (key e); other = λ ids e id apart. ident-other ids (key e) id apart }

-- from no identifiers on
as_ident : {E : Type 0} (id : List ℕ) (o : Option E) → said (λ (e : E). true) (set.contains (set.empty {R = slice_cmp nat_cmp}) id) o ≡ is_some o
as_ident id None = set.contains-empty (slice_cmp nat_cmp) id
as_ident id (Some e) = refl

abbrev plan_id : {X : Type 0} → List ℕ × X → List ℕ
plan_id e = e.0

abbrev station_id : List ℕ × Station × ℤ × ℕ × List ℕ → List ℕ
station_id e = e.0

-- a key is in a set where its row spells something
as_set : {E : Type 0} (o : Option E) → said (λ (e : E). true) false o ≡ is_some o
as_set None = refl
as_set (Some e) = refl

module _ (t : Tables) (up : AreInOrder t) where
  -- ---- riders, of lines with their plans

  module _ (wide : AreWide riders.COLUMNS t.riders) where
    abbrev no_riders : RiderSet
    no_riders = record { numbers = [] }

    -- of a rider's row by itself
    abbrev more_riders : RiderSet → Row → RiderSet
    more_riders a row = record a { numbers = step with_listed rider_read a.numbers row }

    pub riders_known : is_listed (fold with_rider no_riders (lines_of query.RiderRows t)).numbers ≡ has_rider t
    riders_known = λ i n. each n i where
      front : (a : RiderSet) (r : Row) → Has t.riders r → with_rider a (rider_line t r) ≡ more_riders a r
      front a r has = ap (more_riders a) (own_row t wide r has)

      each : (n : ℕ) → is_listed (fold with_rider no_riders (lines_of query.RiderRows t)).numbers n ≡ has_rider t n
      each n =
          ap (λ (a : RiderSet). is_listed a.numbers n) (fold_shown (rider_line t) with_rider more_riders t.riders front no_riders)
          ∙ ap (λ (ns : List (Option (Unit {0}))). is_listed ns n)
          (fold_held (λ (a : RiderSet). a.numbers) more_riders (step with_listed rider_read) (λ a r. refl) t.riders no_riders)
          ∙ known is_listed with_listed (λ e. e.0) (λ e. true) listed_keeps nat_eq Decides-eqb rider_read numbers
          (λ r e is. ap (take 1) (rider_reading.sound r e is).0) t.riders (up Riders) [] n
          ∙ as_set (option_and_then rider_read (row_under t Riders (number_key n)))

  -- ---- bicycles, of lines with their trucks

  module _ (wide : AreWide bikes.COLUMNS t.bikes) where
    abbrev no_bikes : BikeSet
    no_bikes = record { rentals = [] }

    abbrev bike_line : Row → Row
    bike_line row = with_one trucks.COLUMNS row (partner 1 (column row 6 ∷ []) t.trucks)

    -- of a bicycle's row by itself
    abbrev more_bikes : BikeSet → Row → BikeSet
    more_bikes a row = record a { rentals = step with_rental bike_read a.rentals row }

    pub bikes_known : value_at (fold with_bike no_bikes (lines_of query.BikeTrucks t)).rentals ≡ bike_rental t
    bikes_known = λ i n. each n i where
      as_rental : (o : Option (ℕ × Bike)) → said rental_of None o ≡ option_map (λ b. rental_at b.1.place) o
      as_rental None = refl
      as_rental (Some b) = refl

      front : (a : BikeSet) (r : Row) → Has t.bikes r → with_bike a (bike_line r) ≡ more_bikes a r
      front a r has = ap (more_bikes a) (take_at r (or_nulls trucks.COLUMNS (partner 1 (column r 6 ∷ []) t.trucks)) bikes.COLUMNS (wide r has))

      each : (n : ℕ) → value_at (fold with_bike no_bikes (lines_of query.BikeTrucks t)).rentals n ≡ bike_rental t n
      each n =
          ap (λ (a : BikeSet). value_at a.rentals n) (fold_shown bike_line with_bike more_bikes t.bikes front no_bikes)
          ∙ ap (λ (vs : List (Option (Option ℕ))). value_at vs n)
          (fold_held (λ (a : BikeSet). a.rentals) more_bikes (step with_rental bike_read) (λ a r. refl) t.bikes no_bikes)
          ∙ known value_at with_rental (λ b. b.0) rental_of rentals_keep nat_eq Decides-eqb bike_read numbers
          (λ r e is. ap (take 1) (bike_reading.sound r e is).0) t.bikes (up Bikes) [] n
          ∙ as_rental (option_and_then bike_read (row_under t Bikes (number_key n)))

  -- ---- plans

  pub plans_known : set.contains (fold with_plan (record { idents = set.empty }) t.plans).idents ≡ has_plan t
  plans_known = λ i id. each id i where
    each : (id : List ℕ) → set.contains (fold with_plan (record { idents = set.empty }) t.plans).idents id ≡ has_plan t id
    each id =
        ap (λ (ids : Ids). set.contains ids id)
        (fold_held (λ (a : PlanSet). a.idents) with_plan (step (with_key plan_id) plan_read) (λ a r. refl) t.plans (record { idents = set.empty }))
        ∙ known set.contains (with_key plan_id) plan_id (λ e. true) (idents_keep plan_id) bytes_eq bytes_eq-Decides plan_read texts
        (λ r e is. ap (take 1) (plan_reading.sound r e is).0) t.plans (up Plans) set.empty id
        ∙ as_ident id (option_and_then plan_read (row_under t Plans (text_key id)))

  -- ---- stations, of lines with their regions

  module _ (wide : AreWide stations.COLUMNS t.stations) where
    abbrev no_stations : StationSet
    no_stations = record { idents = set.empty }

    abbrev station_line : Row → Row
    station_line row = with_one regions.COLUMNS row (partner 1 (column row 11 ∷ []) t.regions)

    -- of a station's row by itself
    abbrev more_stations : StationSet → Row → StationSet
    more_stations a row = record a { idents = step (with_key station_id) station_read a.idents row }

    pub stations_known : set.contains (fold with_station no_stations (lines_of query.StationRows t)).idents ≡ has_station t
    stations_known = λ i id. each id i where
      front : (a : StationSet) (r : Row) → Has t.stations r → with_station a (station_line r) ≡ more_stations a r
      front a r has = ap (more_stations a) (take_at r (or_nulls regions.COLUMNS (partner 1 (column r 11 ∷ []) t.regions)) stations.COLUMNS (wide r has))

      each : (id : List ℕ) → set.contains (fold with_station no_stations (lines_of query.StationRows t)).idents id ≡ has_station t id
      each id =
          ap (λ (a : StationSet). set.contains a.idents id) (fold_shown station_line with_station more_stations t.stations front no_stations)
          ∙ ap (λ (ids : Ids). set.contains ids id)
          (fold_held (λ (a : StationSet). a.idents) more_stations (step (with_key station_id) station_read) (λ a r. refl) t.stations no_stations)
          ∙ known set.contains (with_key station_id) station_id (λ e. true) (idents_keep station_id) bytes_eq bytes_eq-Decides station_read texts
          (λ r e is. ap (take 1) (station_reading.sound r e is).0) t.stations (up Stations) set.empty id
          ∙ as_ident id (option_and_then station_read (row_under t Stations (text_key id)))
