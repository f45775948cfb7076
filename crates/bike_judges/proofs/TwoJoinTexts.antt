-- The queries that answer each row of a table with its partners in two others.
use Rattle.std.proofs.Common.{ℕ, List, [], ◌∷◌, ◌++◌, refl}
use Rattle.bike_sql.proofs.SelectLaws.{rows_joined_twice}
use Rattle.bike_book.specs.Tables.{Plans, Types, Regions, Stations, Bikes, Trucks, Rentals, Orders, MoreNames}
use Rattle.bike_book.specs.declared.columns.plans.TheConstants as plans
use Rattle.bike_book.specs.declared.columns.types.TheConstants as types
use Rattle.bike_book.specs.declared.columns.regions.TheConstants as regions
use Rattle.bike_book.specs.declared.columns.stations.TheConstants as stations
use Rattle.bike_book.specs.declared.columns.trucks.TheConstants as trucks
use Rattle.bike_book.specs.declared.columns.rentals.TheConstants as rentals
use Rattle.bike_book.specs.declared.columns.orders.TheConstants as orders
use Rattle.bike_schema.proofs.KeyLemmas.{table_key}
use Rattle.bike_judges.specs.Lines.{with_two}
use Rattle.bike_judges.specs.declared.query.Query.TheVariants as query
use Rattle.bike_judges.specs.Texts.{AsksLines}
use Rattle.bike_judges.proofs.SelfJoinLaw.{rows_joined_with_one}
use Rattle.bike_judges.proofs.Forms.{columns_in, AreJoinsOf, AreSelfJoinsOf}

pub bike_names_lines : {text : List ℕ} → AreJoinsOf Bikes Types (1 ∷ []) Stations (3 ∷ []) text → AsksLines text query.BikeNames
bike_names_lines is db has =
    rows_joined_twice (table_key Bikes) (table_key Types) (table_key Stations) (has Bikes) (has Types) (has Stations) (1 ∷ []) (3 ∷ [])
    (columns_in 1 Bikes ++ columns_in 2 Types ++ columns_in 3 Stations) (with_two types.COLUMNS stations.COLUMNS)
    is refl refl (λ r. refl) (λ r. refl) (λ r. refl) (λ r s. refl) (λ r t. refl) (λ r s t. refl)

pub bike_uses_lines : {text : List ℕ} → AreJoinsOf Bikes Rentals (5 ∷ []) Orders (7 ∷ []) text → AsksLines text query.BikeUses
bike_uses_lines is db has =
    rows_joined_twice (table_key Bikes) (table_key Rentals) (table_key Orders) (has Bikes) (has Rentals) (has Orders) (5 ∷ []) (7 ∷ [])
    (columns_in 1 Bikes ++ columns_in 2 Rentals ++ columns_in 3 Orders) (with_two rentals.COLUMNS orders.COLUMNS)
    is refl refl (λ r. refl) (λ r. refl) (λ r. refl) (λ r s. refl) (λ r t. refl) (λ r s t. refl)

pub order_names_lines : {text : List ℕ} → AreJoinsOf Orders Trucks (1 ∷ []) Types (4 ∷ []) text → AsksLines text query.OrderNames
order_names_lines is db has =
    rows_joined_twice (table_key Orders) (table_key Trucks) (table_key Types) (has Orders) (has Trucks) (has Types) (1 ∷ []) (4 ∷ []) (columns_in 1 Orders ++ columns_in 2 Trucks ++ columns_in 3 Types)
    (with_two trucks.COLUMNS types.COLUMNS)
    is refl refl (λ r. refl) (λ r. refl) (λ r. refl) (λ r s. refl) (λ r t. refl) (λ r s t. refl)

-- what has a name in a further language: a station or a region of this identifier, a vehicle type or a plan
pub name_places_lines : {text : List ℕ} → AreJoinsOf MoreNames Stations (1 ∷ []) Regions (1 ∷ []) text → AsksLines text query.NamePlaces
name_places_lines is db has =
    rows_joined_twice (table_key MoreNames) (table_key Stations) (table_key Regions) (has MoreNames) (has Stations) (has Regions) (1 ∷ []) (1 ∷ [])
    (columns_in 1 MoreNames ++ columns_in 2 Stations ++ columns_in 3 Regions) (with_two stations.COLUMNS regions.COLUMNS)
    is refl refl (λ r. refl) (λ r. refl) (λ r. refl) (λ r s. refl) (λ r t. refl) (λ r s t. refl)

pub name_offers_lines : {text : List ℕ} → AreJoinsOf MoreNames Types (1 ∷ []) Plans (1 ∷ []) text → AsksLines text query.NameOffers
name_offers_lines is db has =
    rows_joined_twice (table_key MoreNames) (table_key Types) (table_key Plans) (has MoreNames) (has Types) (has Plans) (1 ∷ []) (1 ∷ [])
    (columns_in 1 MoreNames ++ columns_in 2 Types ++ columns_in 3 Plans) (with_two types.COLUMNS plans.COLUMNS)
    is refl refl (λ r. refl) (λ r. refl) (λ r. refl) (λ r s. refl) (λ r t. refl) (λ r s t. refl)

-- both partners are stations
pub order_ends_lines : {text : List ℕ} → AreSelfJoinsOf Orders Stations (2 ∷ []) (3 ∷ []) text → AsksLines text query.OrderEnds
order_ends_lines is db has =
    rows_joined_with_one (table_key Orders) (table_key Stations) (has Orders) (has Stations) (2 ∷ []) (3 ∷ []) (columns_in 1 Orders ++ columns_in 2 Stations ++ columns_in 3 Stations)
    (with_two stations.COLUMNS stations.COLUMNS)
    is refl refl (λ r. refl) (λ r. refl) (λ r. refl) (λ r s. refl) (λ r t. refl) (λ r s t. refl)
