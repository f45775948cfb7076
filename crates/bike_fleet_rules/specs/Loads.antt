-- What the lines of trucks, and of orders, come to: each with the bicycles on it, or on trucks for it.
use Rattle.std.specs.Prelude.{ℕ, ◌==◌, ◌&&◌, ◌+◌, [], ◌∷◌, Bool, false, if◌then◌else◌, nat_lt, nat_le, Option, Some}
use Rattle.std.specs.Prelude.{None, is_some}
use Rattle.sqlite_value.specs.Order.{Row, column}
use Rattle.bike_book.specs.declared.columns.bikes.TheConstants as bikes
use Rattle.bike_book.specs.declared.columns.trucks.TheConstants as trucks
use Rattle.bike_book.specs.declared.columns.orders.TheConstants as orders
use Rattle.bike_operator.specs.declared.limits.TheConstants.{MOST_TRUCKS}
use Rattle.bike_operator.specs.declared.records.Place.{Place}
use Rattle.bike_operator.specs.declared.records.Bike.{Bike}
use Rattle.bike_operator.specs.declared.records.Order.{Order}
use Rattle.bike_operator.specs.Operator.{Truck}
use Rattle.bike_operator.specs.Counts.{is_on_truck, is_for_order}
use Rattle.bike_book.specs.Rows.{number_value}
use Rattle.bike_schema.specs.Columns.{number_in}
use Rattle.bike_readings.specs.ColumnReaders.{serial_in}
use Rattle.bike_readings.specs.Readings.{truck_read, order_read}
use Rattle.bike_fleet_rules.specs.Counted.{counted_in}
use Rattle.bike_judges.specs.declared.pass.Opening.{Opening}
use Rattle.bike_judges.specs.declared.pass.Opening.TheVariants.{Head, Unread, Item}
use Rattle.bike_judges.specs.Lines.{part}
use Rattle.bike_fleet_rules.specs.declared.trucks.TruckAccount.{TruckAccount}
use Rattle.bike_fleet_rules.specs.declared.orders.OrderAccount.{OrderAccount}

-- ---- lines

-- the line is a head's: 0 stands in its second column
abbrev pub is_head : Row → Bool
is_head line = is_some (number_in 0 0 (column line 1))

-- this number was read
abbrev pub is_number : ℕ → Option ℕ → Bool
is_number n None = false
is_number n (Some m) = m == n

-- the line is of the owner with this number
abbrev pub is_of : ℕ → Row → Bool
is_of owner line = is_number owner (serial_in (column line 0))

-- the place of a bicycle that was counted passes the test
abbrev pub is_placed : (Place → Bool) → Option (ℕ × Bike) → Bool
is_placed test None = false
is_placed test (Some e) = test e.1.place

-- the owner's line of a bicycle at such a place
abbrev pub loads : (Place → Bool) → ℕ → Row → Bool
loads test owner line = is_of owner line && is_placed test (counted_in (part 3 bikes.COLUMNS line))

-- ---- trucks

abbrev pub truck_opened : Option (ℕ × Truck) → Opening TruckAccount
truck_opened None = Unread
truck_opened (Some e) = Head (record { truck = e.0; capacity = e.1.capacity; load = 0 })

abbrev pub truck_begins : Row → Opening TruckAccount
truck_begins line = if is_head line then truck_opened (truck_read (part 3 trucks.COLUMNS line)) else Item

abbrev pub truck_more : TruckAccount → Row → TruckAccount
truck_more a line = if loads (is_on_truck a.truck) a.truck line then record a { load = a.load + 1 } else a

abbrev pub truck_good : ℕ → TruckAccount → Bool
truck_good n a = nat_lt n MOST_TRUCKS && nat_le a.load a.capacity

abbrev pub truck_key : TruckAccount → Row
truck_key a = number_value a.truck ∷ []

-- ---- orders

abbrev pub order_opened : Option (ℕ × Order) → Opening OrderAccount
order_opened None = Unread
order_opened (Some e) = Head (record { order = e.0; count = e.1.count; load = e.1.delivered })

abbrev pub order_begins : Row → Opening OrderAccount
order_begins line = if is_head line then order_opened (order_read (part 3 orders.COLUMNS line)) else Item

abbrev pub order_more : OrderAccount → Row → OrderAccount
order_more a line = if loads (is_for_order a.order) a.order line then record a { load = a.load + 1 } else a

abbrev pub order_good : ℕ → OrderAccount → Bool
order_good n a = nat_le a.load a.count

abbrev pub order_key : OrderAccount → Row
order_key a = number_value a.order ∷ []
