-- Each table's first columns are its key.
use Rattle.std.proofs.Common.{List, ℕ, if◌then◌else◌, is_none, ◌∷◌, [], refl}
use Rattle.std.specs.List.{range_with_len}
use Rattle.bike_sql.proofs.KeyLemmas.{IsKeyAt, IsUniqueAt, number_unique_at, columns_unique_at}
use Rattle.bike_book.specs.Tables.{TableName, keys_of, Meta, System, Plans, Segments, Types, Regions, Stations, Docks, Bikes, Trucks, Riders, Rentals, Orders, Entries, History, MoreNames, Books}
use Rattle.bike_schema.specs.Layouts.{layout_of}

-- where the columns of the key stand in a stored row
abbrev pub key_places : TableName → List ℕ
key_places t = if is_none (layout_of t).key then range_with_len 1 (keys_of t) else 0 ∷ []

-- the table's own rules keep its key
pub unique_key : (t : TableName) → IsUniqueAt (keys_of t) (layout_of t) (key_places t)
unique_key Meta = number_unique_at (layout_of Meta) (λ row. refl)
unique_key System = number_unique_at (layout_of System) (λ row. refl)
unique_key Plans = columns_unique_at 1 (layout_of Plans) 0 (key_places Plans) refl refl refl (λ row. refl)
unique_key Segments = columns_unique_at 2 (layout_of Segments) 0 (key_places Segments) refl refl refl (λ row. refl)
unique_key Types = columns_unique_at 1 (layout_of Types) 0 (key_places Types) refl refl refl (λ row. refl)
unique_key Regions = columns_unique_at 1 (layout_of Regions) 0 (key_places Regions) refl refl refl (λ row. refl)
unique_key Stations = columns_unique_at 1 (layout_of Stations) 0 (key_places Stations) refl refl refl (λ row. refl)
unique_key Docks = columns_unique_at 2 (layout_of Docks) 0 (key_places Docks) refl refl refl (λ row. refl)
unique_key Bikes = number_unique_at (layout_of Bikes) (λ row. refl)
unique_key Trucks = number_unique_at (layout_of Trucks) (λ row. refl)
unique_key Riders = number_unique_at (layout_of Riders) (λ row. refl)
unique_key Rentals = number_unique_at (layout_of Rentals) (λ row. refl)
unique_key Orders = number_unique_at (layout_of Orders) (λ row. refl)
unique_key Entries = number_unique_at (layout_of Entries) (λ row. refl)
unique_key History = number_unique_at (layout_of History) (λ row. refl)
unique_key Books = number_unique_at (layout_of Books) (λ row. refl)
unique_key MoreNames = columns_unique_at 3 (layout_of MoreNames) 0 (key_places MoreNames) refl refl refl (λ row. refl)

-- where the key's columns stand, whatever keeps it
pub table_key : (t : TableName) → IsKeyAt (keys_of t) (layout_of t) (key_places t)
table_key t = record { first = (unique_key t).at.first }
