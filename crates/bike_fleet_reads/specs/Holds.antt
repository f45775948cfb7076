-- When the columns of a stored row hold a record.
use Rattle.std.specs.Prelude.{◌≡◌, ℕ, pos, List, [], ◌∷◌, Bool, false, Option, Some, None, map}
use Rattle.std.specs.List.{range_with_len}
use Rattle.std.specs.Ordering.{int_eq}
use Rattle.sqlite_value.specs.declared.value.Value.{Value}
use Rattle.sqlite_value.specs.declared.value.Value.TheVariants.{Int, Text}
use Rattle.sqlite_value.specs.Order.{Row, column}
use Rattle.bike_texts.specs.declared.ends.OrderEnd.{OrderEnd}
use Rattle.bike_texts.specs.Fields.{IsEnd}
use Rattle.bike_operator.specs.declared.records.Place.{Place}
use Rattle.bike_operator.specs.declared.records.Bike.{Bike}
use Rattle.bike_operator.specs.declared.records.Order.{Order}
use Rattle.bike_operator.specs.declared.view.StationView.{StationView}
use Rattle.bike_operator.specs.declared.view.TruckView.{TruckView}
use Rattle.bike_book.specs.Rows.{truth, number_value, state_number, place_columns, end_text}
use Rattle.bike_book.specs.declared.by_type.CountedType.{CountedType}
use Rattle.bike_book.specs.ByType.{AreIdents, by_type_text}
use Rattle.bike_fleet_reads.specs.declared.stations.DockNumbers.{DockNumbers}
use Rattle.bike_fleet_reads.specs.declared.stations.StationNumbers.{StationNumbers}
use Rattle.bike_fleet_reads.specs.declared.bikes.NumberedBike.{NumberedBike}
use Rattle.bike_fleet_reads.specs.declared.orders.OrderNumbers.{OrderNumbers}

-- A row and what it holds are both there, or neither is.
abbrev pub HoldsAny : {X : Type 0} → (Row → X → Type 0) → Option Row → Option X → Type 0
HoldsAny Holds None None = Unit {0}
HoldsAny Holds (Some row) (Some x) = Holds row x
HoldsAny Holds None (Some x) = ⊥
HoldsAny Holds (Some row) None = ⊥

-- so many columns of the row, from a place on
abbrev pub columns_at : ℕ → ℕ → Row → Row
columns_at from many row = map (column row) (range_with_len from many)

-- ---- stations and docks

abbrev pub HoldsStation : Row → StationView → Type 0
HoldsStation row x =
    columns_at 4 4 row
    ≡ number_value x.docks ∷ Int (truth x.is_installed) ∷ Int (truth x.is_renting) ∷ Int (truth x.is_returning) ∷ []

abbrev pub HoldsDockNumbers : Row → DockNumbers → Type 0
HoldsDockNumbers row n = columns_at 9 2 row ≡ number_value n.free ∷ number_value n.broken ∷ []

-- these are the types of which the column is the text
abbrev pub AreTypesIn : Value → List CountedType → Type 0
AreTypesIn v list = (cs : List CountedType) → AreIdents cs → v ≡ Text (by_type_text cs) → list ≡ cs

-- the numbers of a station's docks, and its bicycles by type
pub record HoldsNumbers (row : Row) (n : StationNumbers) : Type 0 where
  pub docks : HoldsDockNumbers row n.docks
  pub by_type : AreTypesIn (column row 12) n.by_type.items

abbrev pub HoldsMark : Row → Bool → Type 0
HoldsMark row broken = column row 2 ≡ Int (truth broken)

-- the default plan in the row of a type
abbrev pub HoldsPlan : Row → List ℕ → Type 0
HoldsPlan row plan = column row 5 ≡ Text plan

-- ---- trucks, bicycles and orders

abbrev pub HoldsTruck : Row → TruckView → Type 0
HoldsTruck row t = column row 1 ≡ number_value t.capacity

abbrev pub HoldsPlace : Row → Place → Type 0
HoldsPlace row p = columns_at 3 5 row ≡ place_columns p

-- A row of `bikes` holds the bicycle, but for its number.
pub record HoldsBike (row : Row) (b : Bike) : Type 0 where
  pub type_id : column row 1 ≡ Text b.type_id
  pub state : column row 2 ≡ Int (state_number b.state)
  pub place : HoldsPlace row b.place

pub record HoldsNumbered (row : Row) (x : NumberedBike) : Type 0 where
  pub number : column row 0 ≡ number_value x.number
  pub bike : HoldsBike row x.bike

-- The column holds an end of an order: * or an identifier.
pub record HoldsEnd (v : Value) (end : OrderEnd) : Type 0 where
  pub is : v ≡ Text (end_text end)
  pub good : IsEnd end

-- the columns of an order that are numbers or a flag
pub record HoldsOrderNumbers (row : Row) (n : OrderNumbers) : Type 0 where
  pub truck : column row 1 ≡ number_value n.truck
  pub count : column row 5 ≡ number_value n.count
  pub delivered : column row 6 ≡ number_value n.delivered
  pub is_open : column row 7 ≡ Int (truth n.is_open)

-- the order of a bicycle that is on a truck, alone
abbrev pub order_column : Row → Row
order_column row = column row 7 ∷ []

abbrev pub is_number : ℕ → Value → Bool
is_number n (Int z) = int_eq z (pos n)
is_number n _ = false

-- a row that holds the order alone
abbrev pub is_for : ℕ → Row → Bool
is_for order row = is_number order (column row 0)

-- A row of `orders` holds the order, but for its number.
pub record HoldsOrder (row : Row) (o : Order) : Type 0 where
  pub truck : column row 1 ≡ number_value o.truck
  pub from_end : HoldsEnd (column row 2) o.from_end
  pub to_end : HoldsEnd (column row 3) o.to_end
  pub type_id : column row 4 ≡ Text o.type_id
  pub count : column row 5 ≡ number_value o.count
  pub delivered : column row 6 ≡ number_value o.delivered
  pub is_open : column row 7 ≡ Int (truth o.is_open)
