-- Rows: how records of the operator stand in the tables, column by column. The columns of the key come first.
use Rattle.std.specs.Prelude.{ℕ, ℤ, pos, List, [], ◌∷◌, ◌++◌, Bool, codes, if◌then◌else◌, Option, Some, None}
use Rattle.std.specs.Prelude.{slice_index_or}
use Rattle.sqlite_value.specs.declared.value.Value.{Value}
use Rattle.sqlite_value.specs.declared.value.Value.TheVariants.{Null, Int, Text}
use Rattle.sqlite_value.specs.Order.{Row}
use Rattle.sqlite.specs.Values.{or_null}
use Rattle.bike_fields.specs.Values.{SegmentRow}
use Rattle.bike_catalogue.specs.Rows.{PlanRow, TypeRow, RegionRow, SystemRow}
use Rattle.bike_fields.specs.Vehicle.{form_text, propulsion_text}
use Rattle.bike_ledger.specs.Entries.{Entry}
use Rattle.bike_ledger.specs.declared.entry.EntryKind.{EntryKind}
use Rattle.bike_ledger.specs.declared.entry.EntryKind.TheVariants.{TopUp, Fare, Refund, Withdrawal, Charge, Credit}
use Rattle.bike_texts.specs.declared.ends.OrderEnd.{OrderEnd}
use Rattle.bike_texts.specs.declared.ends.OrderEnd.TheVariants as end
use Rattle.bike_operator.specs.declared.records.BikeState.{BikeState}
use Rattle.bike_operator.specs.declared.records.BikeState.TheVariants.{Fit, Disabled, Retired}
use Rattle.bike_operator.specs.declared.records.Place.{Place}
use Rattle.bike_operator.specs.declared.records.Place.TheVariants as place
use Rattle.bike_operator.specs.declared.records.Bike.{Bike}
use Rattle.bike_operator.specs.declared.records.Rental.{Rental}
use Rattle.bike_operator.specs.declared.records.Closing.{Closing}
use Rattle.bike_operator.specs.declared.records.Order.{Order}
use Rattle.bike_operator.specs.Operator.{Station, Rider, NameKey}

-- a truth value as its column holds it
abbrev pub truth : Bool → ℤ
truth b = if b then pos 1 else pos 0

abbrev pub number_value : ℕ → Value
number_value n = Int (pos n)

-- one, app, version, now (seconds), cash, revenue (hundredths: by archived entries)
abbrev pub meta_row : ℕ → ℕ → ℤ → ℤ → Row
meta_row version now cash revenue =
    Int (pos 1) ∷ Text (codes "bikeshare") ∷ number_value version ∷ number_value now ∷ Int cash ∷ Int revenue ∷ []

-- one, system_id, language, name, hours, contact, zone, currency, base_url, ttl (seconds)
abbrev pub system_row : SystemRow → Row
system_row x =
    Int (pos 1) ∷ Text x.system_id ∷ Text x.language ∷ Text x.name ∷ Text x.opening_hours ∷ Text x.feed_contact_email
    ∷ Text x.timezone ∷ Text x.currency ∷ Text x.base_url
    ∷ number_value x.ttl ∷ []

-- plan_id, name, price (hundredths), taxable, description
abbrev pub plan_row : List ℕ → PlanRow → Row
plan_row id p = Text id ∷ Text p.name ∷ number_value p.price ∷ Int (truth p.taxable) ∷ Text p.description ∷ []

-- plan_id, seq, start (minutes), rate (hundredths), every (minutes), finish (minutes, or NULL)
abbrev pub segment_row : List ℕ → ℕ → SegmentRow → Row
segment_row id seq g =
    Text id ∷ number_value seq ∷ number_value g.start ∷ Int g.rate ∷ number_value g.interval
    ∷ or_null number_value g.end ∷ []

-- type_id, name, form, propulsion, range_m (metres), plan_id
abbrev pub type_row : List ℕ → TypeRow → Row
type_row id t =
    Text id ∷ Text t.name ∷ Text (form_text t.form) ∷ Text (propulsion_text t.propulsion) ∷ number_value t.max_range
    ∷ Text t.plan_id ∷ []

-- region_id, name
abbrev pub region_row : List ℕ → RegionRow → Row
region_row id r = Text id ∷ Text r.name ∷ []

-- station_id, name, lat, lon (microdegrees), docks, installed, renting,
-- returning, reported (seconds), free, broken, region_id (or NULL), by_type (the text of its bicycles by type)
abbrev pub station_row : List ℕ → Station → ℤ → ℕ → List ℕ → Row
station_row id x free broken by_type =
    Text id ∷ Text x.row.name ∷ Int x.row.lat ∷ Int x.row.lon ∷ number_value x.row.docks ∷ Int (truth x.is_installed)
    ∷ Int (truth x.is_renting) ∷ Int (truth x.is_returning)
    ∷ number_value x.reported ∷ Int free ∷ number_value broken ∷ or_null Text x.region
    ∷ Text by_type ∷ []

-- station_id, dock, broken
abbrev pub dock_row : List ℕ → ℕ → Bool → Row
dock_row station dock broken = Text station ∷ number_value dock ∷ Int (truth broken) ∷ []

-- 0 fit, 1 disabled, 2 retired
abbrev pub state_number : BikeState → ℤ
state_number Fit = pos 0
state_number Disabled = pos 1
state_number Retired = pos 2

-- station_id, dock, rental, truck, ord: the one place, and NULL in place of the others; all NULL in the depot
abbrev pub place_columns : Place → Row
place_columns (place.Dock station dock) = Text station ∷ number_value dock ∷ Null ∷ Null ∷ Null ∷ []
place_columns (place.Rental rental) = Null ∷ Null ∷ number_value rental ∷ Null ∷ Null ∷ []
place_columns (place.Truck truck order) = Null ∷ Null ∷ Null ∷ number_value truck ∷ number_value order ∷ []
place_columns place.Depot = Null ∷ Null ∷ Null ∷ Null ∷ Null ∷ []

-- bike, type_id, state, and the columns of its place
abbrev pub bike_row : ℕ → Bike → Row
bike_row bike b = number_value bike ∷ Text b.type_id ∷ Int (state_number b.state) ∷ place_columns b.place

-- truck, capacity
abbrev pub truck_row : ℕ → ℕ → Row
truck_row truck capacity = number_value truck ∷ number_value capacity ∷ []

-- rider, blocked, balance, before (hundredths: its balance by archived entries), plan_id (the rider's own, or NULL)
abbrev pub rider_row : ℕ → Rider → ℤ → Row
rider_row rider r balance =
    number_value rider ∷ Int (truth r.is_blocked) ∷ Int balance ∷ Int r.before ∷ or_null Text r.plan ∷ []

-- to_station (NULL where the bicycle was recovered), finish (seconds), fare (hundredths); all NULL while it is open
abbrev pub closing_columns : Option Closing → Row
closing_columns None = Null ∷ Null ∷ Null ∷ []
closing_columns (Some c) = or_null Text c.to_station ∷ number_value c.finish ∷ Int c.fare ∷ []

-- rental, rider, bike, plan_id, from_station, start (seconds), the columns of its closing, refunded (hundredths)
abbrev pub rental_row : ℕ → Rental → ℤ → Row
rental_row rental r refunded =
    number_value rental ∷ number_value r.rider ∷ number_value r.bike ∷ Text r.plan ∷ Text r.from_station
    ∷ number_value r.start ∷ (closing_columns r.closing ++ Int refunded ∷ [])

-- a station's id, and * for the depot
abbrev pub end_text : OrderEnd → List ℕ
end_text end.Depot = codes "*"
end_text (end.Station station) = station

-- ord, truck, from_end, to_end, type_id, quantity, delivered, is_open
abbrev pub order_row : ℕ → Order → Row
order_row ord o =
    number_value ord ∷ number_value o.truck ∷ Text (end_text o.from_end) ∷ Text (end_text o.to_end) ∷ Text o.type_id
    ∷ number_value o.count ∷ number_value o.delivered
    ∷ Int (truth o.is_open) ∷ []

-- 1 topup, 2 fare, 3 refund, 4 withdrawal, 5 charge, 6 credit
abbrev pub kind_number : EntryKind → ℤ
kind_number TopUp = pos 1
kind_number Fare = pos 2
kind_number Refund = pos 3
kind_number Withdrawal = pos 4
kind_number Charge = pos 5
kind_number Credit = pos 6

-- entry, kind, rider, rental (0 but for a fare and a refund), amount (hundredths), at (seconds)
abbrev pub entry_row : ℕ → Entry → Row
entry_row entry e =
    number_value entry ∷ Int (kind_number e.kind) ∷ number_value e.rider ∷ number_value e.rental ∷ Int e.amount
    ∷ number_value e.at ∷ []

-- number, moment (seconds), and caller, req_key, command and reply, each as its text
abbrev pub history_row : ℕ → ℕ → List ℕ → List ℕ → List ℕ → List ℕ → Row
history_row number moment caller key command reply =
    number_value number ∷ number_value moment ∷ Text caller ∷ Text key ∷ Text command ∷ Text reply ∷ []

-- one, requests, entries, rentals: how many were archived
abbrev pub books_row : ℕ → ℕ → ℕ → Row
books_row requests entries rentals =
    Int (pos 1) ∷ number_value requests ∷ number_value entries ∷ number_value rentals ∷ []

-- ---- the parts of a key of two, or of three

abbrev pub first_text : List (List ℕ) → List ℕ
first_text k = slice_index_or k 0 []

abbrev pub second_text : List (List ℕ) → List ℕ
second_text k = slice_index_or k 1 []

abbrev pub third_text : List (List ℕ) → List ℕ
third_text k = slice_index_or k 2 []

-- the number of a dock in the key of a dock
abbrev pub second_number : List (List ℕ) → ℕ
second_number k = slice_index_or (second_text k) 0 0

-- ---- names in further languages

-- kind (its word), id, language, name
abbrev pub name_row : NameKey → List ℕ → Row
name_row key name = Text (first_text key) ∷ Text (second_text key) ∷ Text (third_text key) ∷ Text name ∷ []
