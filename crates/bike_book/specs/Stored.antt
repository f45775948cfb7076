-- The tables of an operator: for each one the row of each record,
-- in the order of its key, stored numbers by their definitions.
use Rattle.std.specs.Prelude.{◌≡◌, ◌==◌, if◌then◌else◌, ℕ, suc, max, ◌+◌, ◌+ℤ◌, pos, List, [], ◌∷◌, ◌++◌, map, Option, Some, None, true}
use Rattle.std.specs.FinMap as fin
use Rattle.std.specs.FinMap.{FinMap}
use Rattle.std.specs.FinSet.{FinSet, contains}
use Rattle.sqlite_value.specs.Order.{Row}
use Rattle.bike_fields.specs.Values.{SegmentRow}
use Rattle.bike_catalogue.specs.Rows.{PlanRow, TypeRow, RegionRow, SystemRow}
use Rattle.bike_fields.specs.Caller.{caller_text}
use Rattle.bike_commands.specs.Commands.{text_of}
use Rattle.bike_commands.specs.Replies.{reply_text}
use Rattle.bike_ledger.specs.Entries.{Entry}
use Rattle.bike_ledger.specs.Ledger.{balance_of, refunded_of}
use Rattle.bike_operator.specs.declared.records.Bike.{Bike}
use Rattle.bike_operator.specs.declared.records.Rental.{Rental}
use Rattle.bike_operator.specs.declared.records.Order.{Order}
use Rattle.bike_operator.specs.Operator.{Operator, Station, Truck, Rider, NameKey, DockKey, texts_cmp}
use Rattle.bike_operator.specs.Operator.{AcceptedRequest, Numbered, Past, dock_key}
use Rattle.bike_operator.specs.Counts.{docks_available, docks_broken}
use Rattle.bike_operator.specs.Sound.{HasDock}
use Rattle.bike_laws.specs.History.{last_moment_of}
use Rattle.bike_book.specs.declared.version.TheConstants.{NEWEST}
use Rattle.bike_book.specs.ByType.{types_at, by_type_text}
use Rattle.bike_book.specs.Tables.{Tables}
use Rattle.bike_book.specs.Rows.{meta_row, system_row, plan_row, segment_row, type_row, region_row, station_row}
use Rattle.bike_book.specs.Rows.{dock_row, bike_row, truck_row, rider_row, rental_row, order_row, entry_row}
use Rattle.bike_book.specs.Rows.{history_row, name_row, books_row, first_text, second_number}

-- ---- numbered records with their numbers

abbrev pub numbers_from : {A : Type 0} → ℕ → List A → List (ℕ × A)
numbers_from n [] = []
numbers_from n (x ∷ xs) = (n, x) ∷ numbers_from (suc n) xs

-- behind those that were archived
abbrev pub with_numbers : {A : Type 0} → Numbered A → List (ℕ × A)
with_numbers l = numbers_from (suc l.archived) l.items

-- ---- the row of each record

abbrev pub stored_plan : List ℕ × PlanRow → Row
stored_plan e = plan_row e.0 e.1

abbrev pub stored_type : List ℕ × TypeRow → Row
stored_type e = type_row e.0 e.1

abbrev pub stored_region : List ℕ × RegionRow → Row
stored_region e = region_row e.0 e.1

-- with its docks that are available and those that are broken, and its bicycles by type, as GBFS counts them
abbrev pub stored_station : Operator → List ℕ × Station → Row
stored_station s e =
    station_row e.0 e.1 (pos (docks_available s e.0 e.1.row.docks)) (docks_broken s e.0 e.1.row.docks)
    (by_type_text (types_at s e.0))

abbrev pub stored_dock : FinSet texts_cmp → DockKey × Unit {0} → Row
stored_dock broken e = dock_row (first_text e.0) (second_number e.0) (contains broken e.0)

abbrev pub stored_bike : ℕ × Bike → Row
stored_bike e = bike_row e.0 e.1

abbrev pub stored_truck : ℕ × Truck → Row
stored_truck e = truck_row e.0 e.1.capacity

-- with the rider's balance, which is a sum over all entries, archived ones included
abbrev pub stored_rider : List Entry → ℕ × Rider → Row
stored_rider entries e = rider_row e.0 e.1 (e.1.before +ℤ balance_of e.0 entries)

-- with the sum of the rental's refunds
abbrev pub stored_rental : List Entry → ℕ × Rental → Row
stored_rental entries e = rental_row e.0 e.1 (refunded_of e.0 entries)

abbrev pub stored_order : ℕ × Order → Row
stored_order e = order_row e.0 e.1

abbrev pub stored_entry : ℕ × Entry → Row
stored_entry e = entry_row e.0 e.1

abbrev pub stored_request : ℕ × AcceptedRequest → Row
stored_request e =
    history_row e.0 e.1.moment (caller_text e.1.request.caller) e.1.request.key (text_of e.1.request.command)
    (reply_text e.1.reply)

abbrev pub stored_name : NameKey × List ℕ → Row
stored_name e = name_row e.0 e.1

-- ---- the rows of each table

-- the moment of the last request of an earlier version, and the sums of archived entries
abbrev pub meta_rows : ℕ → Past → List Row
meta_rows since past = meta_row NEWEST since past.cash past.revenue ∷ []

-- how many requests, entries and rentals were archived: no row where none was
abbrev pub books_rows : ℕ → ℕ → ℕ → List Row
books_rows requests entries rentals =
    if requests + entries + rentals == 0 then [] else books_row requests entries rentals ∷ []

abbrev pub system_rows : Option SystemRow → List Row
system_rows None = []
system_rows (Some x) = system_row x ∷ []

abbrev pub segment_rows : List ℕ → ℕ → List SegmentRow → List Row
segment_rows plan seq [] = []
segment_rows plan seq (g ∷ gs) = segment_row plan seq g ∷ segment_rows plan (suc seq) gs

abbrev pub plans_segments : List (List ℕ × PlanRow) → List Row
plans_segments [] = []
plans_segments (e ∷ es) = segment_rows e.0 1 e.1.segments ++ plans_segments es

-- What the tables hold beside the operator. Which docks have a row: a dock that works needs none, and none of these
-- rows is ever deleted. And the moment in `meta`, which no request writes: 0 where the city was made at this version;
-- where it was raised from an earlier one, whose requests have no moments, the moment that it had then.
pub record Listed : Type 0 where
  pub docks : FinMap texts_cmp (Unit {0})
  pub since : ℕ

abbrev pub none_listed : Listed
none_listed = record { docks = fin.empty; since = 0 }

-- the moment of the last request, and at least that in `meta`
abbrev pub moment_since : ℕ → List AcceptedRequest → ℕ
moment_since since history = max since (last_moment_of 0 history)

-- THE TABLES OF AN OPERATOR, with a row for each of these docks
abbrev pub tables_for : Operator → Listed → Tables
tables_for s m = record {
  meta = meta_rows m.since s.past;
  system = system_rows s.system;
  plans = map stored_plan (fin.entries s.plans);
  segments = plans_segments (fin.entries s.plans);
  types = map stored_type (fin.entries s.types);
  regions = map stored_region (fin.entries s.regions);
  stations = map (stored_station s) (fin.entries s.stations);
  docks = map (stored_dock s.broken) (fin.entries m.docks);
  bikes = map stored_bike (fin.entries s.bikes);
  trucks = map stored_truck (fin.entries s.trucks);
  riders = map (stored_rider s.entries.items) (fin.entries s.riders);
  rentals = map (stored_rental s.entries.items) (with_numbers s.rentals);
  orders = map stored_order (with_numbers s.orders);
  entries = map stored_entry (with_numbers s.entries);
  history = map stored_request (with_numbers s.history);
  more_names = map stored_name (fin.entries s.more_names);
  books = books_rows s.history.archived s.entries.archived s.rentals.archived;
}

-- the key is that of a dock of a station
pub record IsDockKey (s : Operator) (key : DockKey) : Type 0 where
  pub station : List ℕ
  pub dock : ℕ
  pub key_is : key ≡ dock_key station dock
  pub has : HasDock s station dock

-- What is listed is there, what isn't listed works, and the moment is the operator's.
pub record IsListing (s : Operator) (m : Listed) : Type 0 where
  pub docks : (key : DockKey) → fin.contains_key m.docks key ≡ true → IsDockKey s key
  pub marked : (key : DockKey) → contains s.broken key ≡ true → fin.contains_key m.docks key ≡ true
  pub now_is : s.now ≡ moment_since m.since s.history.items
