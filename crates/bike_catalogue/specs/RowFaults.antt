-- The first bad field of a record, in the order of the commands' fields, and the first bound that it breaks.
use Rattle.std.specs.Prelude.{ℕ, List, [], ◌∷◌, length, nat_le, if◌then◌else◌, Option, Some, None, Result}
use Rattle.bike_fixed.specs.declared.micro.TheConstants.{GREATEST_COORDINATE}
use Rattle.bike_fields.specs.declared.fault.Bound.{Bound}
use Rattle.bike_fields.specs.declared.fault.Bound.TheVariants.{Length}
use Rattle.bike_fields.specs.declared.fault.Field.{Field}
use Rattle.bike_fields.specs.declared.fault.Field.TheVariants.{SystemId, Language, Name, OpeningHours, FeedContactEmail}
use Rattle.bike_fields.specs.declared.fault.Field.TheVariants.{Timezone, Currency, BaseUrl, Ttl, Plan, Price}
use Rattle.bike_fields.specs.declared.fault.Field.TheVariants.{Description, Segments, TypeId, MaxRange, Station, Lat}
use Rattle.bike_fields.specs.declared.fault.Field.TheVariants.{Lon, Docks, Region}
use Rattle.bike_fields.specs.declared.fault.FieldFault.{FieldFault}
use Rattle.bike_fields.specs.declared.vehicle.Propulsion.{Propulsion}
use Rattle.bike_fields.specs.declared.vehicle.Propulsion.TheVariants.{Human, ElectricAssist}
use Rattle.bike_fields.specs.declared.numbers.TheConstants.{MOST_DOCKS, GREATEST_PRICE, GREATEST_RANGE}
use Rattle.bike_fields.specs.declared.numbers.TheConstants.{LONGEST_TIME_TO_LIVE}
use Rattle.bike_fields.specs.declared.limits.TheConstants.{MOST_SEGMENTS, GREATEST_LATITUDE}
use Rattle.bike_fields.specs.Fault.{Makes, ident_fault, name_fault, ascii_fault, language_fault, currency_fault}
use Rattle.bike_fields.specs.Values.{SegmentRow}
use Rattle.bike_fields.specs.Faults.{first_fault, range_fault, signed_fault}
use Rattle.bike_catalogue.specs.Rows.{PlanRow, TypeRow, StationRow, RegionRow, SystemRow}

abbrev pub segments_fault : List SegmentRow → Option Bound
segments_fault segments = if nat_le (length segments) MOST_SEGMENTS then None else Some Length

unfoldable pub plan_fault : PlanRow → Option (Field × Bound)
plan_fault p = first_fault (
    (Plan, ident_fault p.plan_id) ∷ (Name, name_fault p.name) ∷ (Price, range_fault 0 GREATEST_PRICE p.price)
    ∷ (Description, name_fault p.description) ∷ (Segments, segments_fault p.segments) ∷ [])

abbrev pub max_range_fault : Propulsion → ℕ → Option Bound
max_range_fault Human n = range_fault 0 0 n
max_range_fault ElectricAssist n = range_fault 1 GREATEST_RANGE n

unfoldable pub type_fault : TypeRow → Option (Field × Bound)
type_fault t = first_fault (
    (TypeId, ident_fault t.type_id) ∷ (Name, name_fault t.name) ∷ (MaxRange, max_range_fault t.propulsion t.max_range)
    ∷ (Plan, ident_fault t.plan_id) ∷ [])

unfoldable pub station_fault : StationRow → Option (Field × Bound)
station_fault s = first_fault (
    (Station, ident_fault s.station_id) ∷ (Name, name_fault s.name) ∷ (Lat, signed_fault GREATEST_LATITUDE s.lat)
    ∷ (Lon, signed_fault GREATEST_COORDINATE s.lon) ∷ (Docks, range_fault 1 MOST_DOCKS s.docks) ∷ [])

unfoldable pub region_fault : RegionRow → Option (Field × Bound)
region_fault r = first_fault ((Region, ident_fault r.region_id) ∷ (Name, name_fault r.name) ∷ [])

unfoldable pub system_fault : SystemRow → Option (Field × Bound)
system_fault s = first_fault (
    (SystemId, ident_fault s.system_id) ∷ (Language, language_fault s.language) ∷ (Name, name_fault s.name)
    ∷ (OpeningHours, ascii_fault s.opening_hours) ∷ (FeedContactEmail, ascii_fault s.feed_contact_email)
    ∷ (Timezone, ascii_fault s.timezone) ∷ (Currency, currency_fault s.currency) ∷ (BaseUrl, ascii_fault s.base_url)
    ∷ (Ttl, range_fault 0 LONGEST_TIME_TO_LIVE s.ttl) ∷ [])

-- a constructor answers the record, or a want of memory, where no field has a fault, else the first fault

abbrev pub MakesPlan : PlanRow → Result PlanRow FieldFault → Type 0
MakesPlan row result = Makes row (plan_fault row) result

abbrev pub MakesType : TypeRow → Result TypeRow FieldFault → Type 0
MakesType row result = Makes row (type_fault row) result

abbrev pub MakesStation : StationRow → Result StationRow FieldFault → Type 0
MakesStation row result = Makes row (station_fault row) result

abbrev pub MakesRegion : RegionRow → Result RegionRow FieldFault → Type 0
MakesRegion row result = Makes row (region_fault row) result

abbrev pub MakesSystem : SystemRow → Result SystemRow FieldFault → Type 0
MakesSystem row result = Makes row (system_fault row) result
