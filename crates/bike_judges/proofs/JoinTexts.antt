-- The queries that answer each row of a table with its partner in another.
use Rattle.std.proofs.Common.{ℕ, List, [], ◌∷◌, ◌++◌, refl}
use Rattle.bike_sql.proofs.SelectLaws.{rows_joined}
use Rattle.bike_book.specs.Tables.{Plans, Segments, Types, Regions, Stations, Docks, Bikes, Trucks, Riders, Rentals, Entries}
use Rattle.bike_book.specs.declared.columns.plans.TheConstants as plans
use Rattle.bike_book.specs.declared.columns.regions.TheConstants as regions
use Rattle.bike_book.specs.declared.columns.stations.TheConstants as stations
use Rattle.bike_book.specs.declared.columns.trucks.TheConstants as trucks
use Rattle.bike_book.specs.declared.columns.rentals.TheConstants as rentals
use Rattle.bike_schema.proofs.KeyLemmas.{table_key}
use Rattle.bike_judges.specs.Lines.{with_one}
use Rattle.bike_judges.specs.declared.query.Query.TheVariants as query
use Rattle.bike_judges.specs.Texts.{AsksLines}
use Rattle.bike_judges.proofs.Forms.{columns_in, IsJoinOf}

pub segments_lines : {text : List ℕ} → IsJoinOf Segments Plans (0 ∷ []) text → AsksLines text query.Segments
segments_lines is db has =
    rows_joined (table_key Segments) (table_key Plans) (has Segments) (has Plans) (0 ∷ []) (columns_in 1 Segments ++ columns_in 2 Plans) (with_one plans.COLUMNS) is refl (λ r. refl) (λ r. refl)
    (λ r s. refl)

pub types_lines : {text : List ℕ} → IsJoinOf Types Plans (5 ∷ []) text → AsksLines text query.Types
types_lines is db has =
    rows_joined (table_key Types) (table_key Plans) (has Types) (has Plans) (5 ∷ []) (columns_in 1 Types ++ columns_in 2 Plans) (with_one plans.COLUMNS) is refl (λ r. refl) (λ r. refl) (λ r s. refl)

pub station_rows_lines : {text : List ℕ} → IsJoinOf Stations Regions (11 ∷ []) text → AsksLines text query.StationRows
station_rows_lines is db has =
    rows_joined (table_key Stations) (table_key Regions) (has Stations) (has Regions) (11 ∷ []) (columns_in 1 Stations ++ columns_in 2 Regions) (with_one regions.COLUMNS) is refl (λ r. refl)
    (λ r. refl) (λ r s. refl)

pub docks_lines : {text : List ℕ} → IsJoinOf Docks Stations (0 ∷ []) text → AsksLines text query.Docks
docks_lines is db has =
    rows_joined (table_key Docks) (table_key Stations) (has Docks) (has Stations) (0 ∷ []) (columns_in 1 Docks ++ columns_in 2 Stations) (with_one stations.COLUMNS) is refl (λ r. refl) (λ r. refl)
    (λ r s. refl)

pub bike_trucks_lines : {text : List ℕ} → IsJoinOf Bikes Trucks (6 ∷ []) text → AsksLines text query.BikeTrucks
bike_trucks_lines is db has =
    rows_joined (table_key Bikes) (table_key Trucks) (has Bikes) (has Trucks) (6 ∷ []) (columns_in 1 Bikes ++ columns_in 2 Trucks) (with_one trucks.COLUMNS) is refl (λ r. refl) (λ r. refl)
    (λ r s. refl)

pub rider_rows_lines : {text : List ℕ} → IsJoinOf Riders Plans (4 ∷ []) text → AsksLines text query.RiderRows
rider_rows_lines is db has =
    rows_joined (table_key Riders) (table_key Plans) (has Riders) (has Plans) (4 ∷ []) (columns_in 1 Riders ++ columns_in 2 Plans) (with_one plans.COLUMNS) is refl (λ r. refl) (λ r. refl)
    (λ r s. refl)

pub entry_rentals_lines : {text : List ℕ} → IsJoinOf Entries Rentals (3 ∷ []) text → AsksLines text query.EntryRentals
entry_rentals_lines is db has =
    rows_joined (table_key Entries) (table_key Rentals) (has Entries) (has Rentals) (3 ∷ []) (columns_in 1 Entries ++ columns_in 2 Rentals) (with_one rentals.COLUMNS) is refl (λ r. refl) (λ r. refl)
    (λ r s. refl)
