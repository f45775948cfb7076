-- Tables that are judged before: all their rows are good, so what they have under a key is what the operator has.
use Rattle.std.proofs.Common.{◌≡◌, ℕ, ◌<◌, List, take, Option, Some, None, refl, sym, ap, subst, ◌∙◌}
use Rattle.std.specs.Prelude.{option_map, option_and_then, is_some}
use Rattle.std.specs.FinMap as fin
use Rattle.std.specs.List.{filter_map}
use Rattle.sqlite_value.specs.Order.{Row}
use Rattle.sqlite_rules.specs.Lists.{Has}
use Rattle.bike_sql.specs.View.{row_with}
use Rattle.bike_operator.specs.declared.records.Bike.{Bike}
use Rattle.bike_operator.specs.Operator.{Operator}
use Rattle.bike_book.specs.Tables.{TableName, Tables, rows_in, keys_of, table_place, Plans, Stations, Bikes, Riders}
use Rattle.bike_book.specs.Rows.{rider_row, station_row}
use Rattle.bike_book.specs.Stored.{stored_plan, stored_station, stored_bike, stored_rider}
use Rattle.bike_book.proofs.Keys.{numbers, texts, number_key, text_key}
use Rattle.bike_readings.specs.Readings.{plan_read, station_read, bike_read, rider_read}
use Rattle.bike_readings.proofs.CatalogueRows.{plan_reading, station_reading}
use Rattle.bike_readings.proofs.FleetRows.{bike_reading}
use Rattle.bike_readings.proofs.LedgerRows.{rider_reading}
use Rattle.bike_readings.specs.ReadOff.{operator_of, plan_in, station_in, bike_in, rider_in, with_segments, first_of, misplaced_bike}
use Rattle.bike_readings.specs.Demands.{IsGoodPlan, IsGoodStation, IsGoodBike, IsGoodRider}
use Rattle.bike_readings.specs.Rules.{AreInOrder, IsGoodRow, IsGoodAt, rows_below}
use Rattle.bike_readings.proofs.Places.{has_under}
use Rattle.bike_readings.proofs.ReadLists.{IsStored, AreRowsOf, read_map}
use Rattle.bike_readings.proofs.ReadRows.{stored_plain, stored_part}
use Rattle.bike_readings.proofs.RowRules.{some_with}
use Rattle.bike_judges.specs.Verdicts.{EarlierGood}
use Rattle.bike_ledger_rules.specs.Known.{has_rider, rental_at, bike_rental, has_plan, has_station}
use Rattle.bike_ledger_rules.proofs.Lookups.{reads_under}

mapped_some : {A B : Type 0} (f : A → B) (o : Option A) → is_some (option_map f o) ≡ is_some o
mapped_some f None = refl
mapped_some f (Some x) = refl

-- a row spells something where it spells a part of that
there_under : {X Y : Type 0} (read : Row → Option X) (f : X → Y) (o : Option Row)
    → is_some (option_and_then read o) ≡ is_some (option_and_then (λ r. option_map f (read r)) o)
there_under read f None = refl
there_under read f (Some r) = sym (mapped_some f (read r))

module _ (t : Tables) (up : AreInOrder t) where
  abbrev s : Operator
  s = operator_of t

  abbrev pub AreGood : TableName → Type 0
  AreGood name = (r : Row) → Has (rows_in t name) r → IsGoodRow t s (rows_below t name (take (keys_of name) r)) name r

  pub earlier_good : (judged : TableName) → EarlierGood t judged → (name : TableName) → table_place name < table_place judged → AreGood name
  earlier_good judged earlier name low r has =
      subst (IsGoodAt t s name (take (keys_of name) r) (rows_below t name (take (keys_of name) r))) (has_under (keys_of name) (rows_in t name) r (up name) has)
      (earlier name (take (keys_of name) r) low)

  abbrev below_of : TableName → Row → ℕ
  below_of name r = rows_below t name (take (keys_of name) r)

  -- ---- riders

  module _ (good : AreGood Riders) where
    stored_riders : (r : Row) → Has t.riders r → IsStored rider_in (stored_rider s.entries.items) r
    stored_riders r has =
        stored_part rider_reading (λ e. (e.0, e.1)) (stored_rider s.entries.items) (IsGoodRider s (below_of Riders r)) r (good r has)
        (λ a is fact. ap (rider_row a.0 a.1) fact.balance_is)

    riders_are : AreRowsOf numbers (stored_rider s.entries.items) (λ e. refl) rider_in t.riders s.riders
    riders_are = read_map numbers (stored_rider s.entries.items) (λ e. refl) rider_in t.riders (up Riders) stored_riders (λ r e has is. tt)

    -- the riders of the operator are those of the rows
    pub riders_listed : fin.entries s.riders ≡ filter_map rider_in t.riders
    riders_listed = riders_are.entries_are

    pub rider_under : (k : ℕ) → has_rider t k ≡ fin.contains_key s.riders k
    rider_under k =
        there_under rider_read (λ e. (e.0, e.1)) (row_with 1 (number_key k) t.riders)
        ∙ ap (λ (o : Option _). is_some o) (reads_under numbers (λ q. tt) (stored_rider s.entries.items) (λ e. refl) rider_in t.riders s.riders riders_are stored_riders rider_in (λ r has. refl) k)
        ∙ mapped_some (λ v. (k, v)) (fin.get s.riders k)

  -- ---- bicycles

  module _ (good : AreGood Bikes) where
    one_bike : (r : Row) → Has t.bikes r → bike_read r ≡ bike_in r
    one_bike r has =
        let it = some_with (IsGoodBike t s (below_of Bikes r)) (bike_read r) (good r has) in
        it.value_is ∙ sym (ap (λ (o : Option (ℕ × Bike)). first_of o (misplaced_bike r)) it.value_is)

    stored_bikes : (r : Row) → Has t.bikes r → IsStored bike_in stored_bike r
    stored_bikes r has =
        let it = stored_plain bike_reading (IsGoodBike t s (below_of Bikes r)) r (good r has) in
        record { value = it.value; read_is = ap (λ (o : Option (ℕ × Bike)). first_of o (misplaced_bike r)) it.read_is; store_is = it.store_is }

    bikes_are : AreRowsOf numbers stored_bike (λ e. refl) bike_in t.bikes s.bikes
    bikes_are = read_map numbers stored_bike (λ e. refl) bike_in t.bikes (up Bikes) stored_bikes (λ r e has is. tt)

    pub bike_under : (k : ℕ) → bike_rental t k ≡ option_map (λ b. rental_at b.place) (fin.get s.bikes k)
    bike_under k =
        ap (option_map (λ (b : ℕ × Bike). rental_at b.1.place))
        (reads_under numbers (λ q. tt) stored_bike (λ e. refl) bike_in t.bikes s.bikes bikes_are stored_bikes bike_read one_bike k)
        ∙ go (fin.get s.bikes k)
      where
        go : (o : Option Bike) → option_map (λ (b : ℕ × Bike). rental_at b.1.place) (option_map (λ v. (k, v)) o) ≡ option_map (λ b. rental_at b.place) o
        go None = refl
        go (Some b) = refl

  -- ---- plans

  module _ (good : AreGood Plans) where
    stored_plans : (r : Row) → Has t.plans r → IsStored (plan_in t.segments) stored_plan r
    stored_plans r has = stored_part plan_reading (with_segments t.segments) stored_plan (IsGoodPlan s (below_of Plans r)) r (good r has) (λ a is fact. refl)

    plans_are : AreRowsOf texts stored_plan (λ e. refl) (plan_in t.segments) t.plans s.plans
    plans_are = read_map texts stored_plan (λ e. refl) (plan_in t.segments) t.plans (up Plans) stored_plans (λ r e has is. tt)

    pub plan_under : (id : List ℕ) → has_plan t id ≡ fin.contains_key s.plans id
    plan_under id =
        there_under plan_read (with_segments t.segments) (row_with 1 (text_key id) t.plans)
        ∙ ap (λ (o : Option _). is_some o) (reads_under texts (λ q. tt) stored_plan (λ e. refl) (plan_in t.segments) t.plans s.plans plans_are stored_plans (plan_in t.segments) (λ r has. refl) id)
        ∙ mapped_some (λ v. (id, v)) (fin.get s.plans id)

  -- ---- stations

  module _ (good : AreGood Stations) where
    stored_stations : (r : Row) → Has t.stations r → IsStored station_in (stored_station s) r
    stored_stations r has =
        stored_part station_reading (λ e. (e.0, e.1)) (stored_station s) (IsGoodStation s (below_of Stations r)) r (good r has)
        (λ a is fact. let free = fact.free_is in let broken = fact.broken_is in let by_type = fact.by_type_is in λ i. station_row a.0 a.1 (free i) (broken i) (by_type i))

    stations_are : AreRowsOf texts (stored_station s) (λ e. refl) station_in t.stations s.stations
    stations_are = read_map texts (stored_station s) (λ e. refl) station_in t.stations (up Stations) stored_stations (λ r e has is. tt)

    pub station_under : (id : List ℕ) → has_station t id ≡ fin.contains_key s.stations id
    station_under id =
        there_under station_read (λ e. (e.0, e.1)) (row_with 1 (text_key id) t.stations)
        ∙ ap (λ (o : Option _). is_some o) (reads_under texts (λ q. tt) (stored_station s) (λ e. refl) station_in t.stations s.stations stations_are stored_stations station_in (λ r has. refl) id)
        ∙ mapped_some (λ v. (id, v)) (fin.get s.stations id)
