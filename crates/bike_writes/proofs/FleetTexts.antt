-- The statements on bikes and trucks.
use Rattle.std.proofs.Common.{◌≡◌, List, ℕ, option_map, subst, [], ◌∷◌, codes, refl}
use Rattle.std.specs.Borrow.{Bor}
use Rattle.sqlite_value.specs.declared.value.Value.TheVariants.{Int}
use Rattle.sqlite_value.specs.Order.{Row}
use Rattle.bike_sql.proofs.CallLaws.{Does}
use Rattle.bike_sql.proofs.ParamLemmas.{text_suits}
use Rattle.bike_operator.specs.declared.records.BikeState.{BikeState}
use Rattle.bike_operator.specs.declared.records.BikeState.TheVariants.{Fit}
use Rattle.bike_operator.specs.declared.records.Place.TheVariants.{Depot}
use Rattle.bike_operator.specs.declared.change.NewPlace.{NewPlace}
use Rattle.bike_operator.specs.Changes.{place_of}
use Rattle.bike_book.specs.Tables.{Bikes, Trucks}
use Rattle.bike_book.specs.Rows.{number_value, state_number, place_columns, bike_row, truck_row}
use Rattle.bike_schema.proofs.InsertTexts.{insert_text}
use Rattle.bike_schema.specs.Tables.{IsOurs, tables_of}
use Rattle.bike_schema.specs.Makes.{Puts}
use Rattle.bike_schema.specs.Calls.{WasFree}
use Rattle.bike_writes.specs.declared.fleet.PlaceColumns.{PlaceColumns}
use Rattle.bike_writes.specs.Columns.{columns_of}
use Rattle.bike_writes.proofs.TextLemmas.{Makes, number_suits}
use Rattle.sqlite_tied.specs.Compute.{everything}
use Rattle.bike_sql.proofs.WriteLaws.{row_put, row_updated}
use Rattle.bike_accepted.specs.declared.change.Change.TheVariants as change
use Rattle.bike_book.specs.declared.row_change.RowChange.TheVariants as row
use Rattle.bike_book.specs.Writes.{Set, columns_from, record_write, write_of}
use Rattle.bike_schema.proofs.KeyLemmas.{unique_key}
use Rattle.bike_schema.proofs.MakesLemmas.{adds_row, sets_columns}

pub adds_bike : (bike : ℕ) (type_id : Bor (List ℕ)) → Makes (insert_text Bikes) (bike_row bike (record { type_id = type_id.now; state = Fit; place = Depot }))
    (record_write (change.AddBike bike type_id))
unfolding everything
adds_bike bike type_id = adds_row Bikes (row_put (unique_key Bikes) (λ s tree. (refl, refl, refl, λ base. refl)) refl refl (λ rows. refl))

abbrev MakesPlace : ℕ → BikeState → PlaceColumns → Row → Type 1
MakesPlace bike state c columns = let w = Set Bikes (number_value bike ∷ []) ((2, Int (state_number state)) ∷ columns_from 3 columns) in
    Does IsOurs (λ db. WasFree w (tables_of db)) (Puts (w ∷ [])) (codes "UPDATE bikes SET state = ?2, station_id = ?3, dock = ?4, rental = ?5, truck = ?6, ord = ?7 WHERE bike = ?1")
    (number_value bike ∷ Int (state_number state) ∷ columns_of c)

sets_place : (bike : ℕ) (state : BikeState) (c : PlaceColumns) → MakesPlace bike state c (columns_of c)
unfolding everything
sets_place bike state c =
    sets_columns Bikes _ _ (row_updated (unique_key Bikes) 0 ((2, 1) ∷ (3, 2) ∷ (4, 3) ∷ (5, 4) ∷ (6, 5) ∷ (7, 6) ∷ []) _ (λ tree. (refl, refl, refl), refl) refl refl
    (rw (text_suits (option_map (λ text. text.now) c.station), number_suits c.dock, number_suits c.rental, number_suits c.truck, number_suits c.order)) (λ r. refl) (λ r. refl))

pub sets_bike : (bike : ℕ) (state : BikeState) (place : NewPlace) (c : PlaceColumns) → columns_of c ≡ place_columns (place_of place)
    → Makes (codes "UPDATE bikes SET state = ?2, station_id = ?3, dock = ?4, rental = ?5, truck = ?6, ord = ?7 WHERE bike = ?1") (number_value bike ∷ Int (state_number state) ∷ columns_of c)
    (write_of (row.SetBike bike state place))
sets_bike bike state place c same = subst (λ columns. MakesPlace bike state c columns) same (sets_place bike state c)

pub adds_truck : (truck capacity : ℕ) → Makes (insert_text Trucks) (truck_row truck capacity) (record_write (change.AddTruck truck capacity))
unfolding everything
adds_truck truck capacity = adds_row Trucks (row_put (unique_key Trucks) (λ s tree. (refl, refl, refl, λ base. refl)) refl refl (λ rows. refl))
