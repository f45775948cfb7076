-- The records of the catalogue, as contracts see them.
use Rattle.std.specs.Prelude.{◌≡◌, ℕ, ℤ, ◌+◌, ◌≤◌, List, length, Bool, true, Option, None, Some, nat_le, if◌then◌else◌}
use Rattle.bike_fixed.specs.Coordinate.{IsMicro}
use Rattle.bike_fields.specs.declared.vehicle.Form.{Form}
use Rattle.bike_fields.specs.declared.vehicle.Propulsion.{Propulsion}
use Rattle.bike_fields.specs.declared.numbers.TheConstants.{MOST_DOCKS, GREATEST_PRICE, LONGEST_TIME_TO_LIVE}
use Rattle.bike_fields.specs.declared.limits.TheConstants.{MOST_SEGMENTS}
use Rattle.bike_fields.specs.Values.{SegmentRow, PositionRow, IsRange, is_range, IsLatitude, is_latitude}
use Rattle.bike_fields.specs.Bytes.{is_ident, is_name, is_ascii_field, is_language, is_currency}

pub record PlanRow : Type 0 where
  pub plan_id : List ℕ
  pub name : List ℕ
  pub price : ℕ
  pub taxable : Bool
  pub description : List ℕ
  pub segments : List SegmentRow

pub record TypeRow : Type 0 where
  pub type_id : List ℕ
  pub name : List ℕ
  pub form : Form
  pub propulsion : Propulsion
  pub max_range : ℕ
  pub plan_id : List ℕ

pub record StationRow : Type 0 where
  pub station_id : List ℕ
  pub name : List ℕ
  pub lat : ℤ
  pub lon : ℤ
  pub docks : ℕ

pub record RegionRow : Type 0 where
  pub region_id : List ℕ
  pub name : List ℕ

-- a text in a further language
pub record MoreNameRow : Type 0 where
  pub language : List ℕ
  pub name : List ℕ

pub record SystemRow : Type 0 where
  pub system_id : List ℕ
  pub language : List ℕ
  pub name : List ℕ
  pub opening_hours : List ℕ
  pub feed_contact_email : List ℕ
  pub timezone : List ℕ
  pub currency : List ℕ
  pub base_url : List ℕ
  pub ttl : ℕ

-- what of a system may change
pub record SettingsRow : Type 0 where
  pub name : List ℕ
  pub opening_hours : List ℕ
  pub feed_contact_email : List ℕ
  pub timezone : List ℕ
  pub base_url : List ℕ
  pub ttl : ℕ

-- each record from its fields, in order

abbrev pub plan_of_fields : List ℕ → List ℕ → ℕ → Bool → List ℕ → List SegmentRow → PlanRow
plan_of_fields plan_id name price taxable description segments =
    record {
      plan_id = plan_id;
      name = name;
      price = price;
      taxable = taxable;
      description = description;
      segments = segments;
    }

abbrev pub type_of_fields : List ℕ → List ℕ → Form → Propulsion → ℕ → List ℕ → TypeRow
type_of_fields type_id name form propulsion max_range plan_id =
    record {
      type_id = type_id;
      name = name;
      form = form;
      propulsion = propulsion;
      max_range = max_range;
      plan_id = plan_id;
    }

abbrev pub station_of_fields : List ℕ → List ℕ → ℤ → ℤ → ℕ → StationRow
station_of_fields station_id name lat lon docks =
    record { station_id = station_id; name = name; lat = lat; lon = lon; docks = docks }

abbrev pub region_of_fields : List ℕ → List ℕ → RegionRow
region_of_fields region_id name = record { region_id = region_id; name = name }

abbrev pub more_name_of_fields : List ℕ → List ℕ → MoreNameRow
more_name_of_fields language name = record { language = language; name = name }

abbrev pub system_of_fields : List ℕ → List ℕ → List ℕ → List ℕ → List ℕ → List ℕ → List ℕ → List ℕ → ℕ → SystemRow
system_of_fields system_id language name opening_hours feed_contact_email timezone currency base_url ttl = record {
  system_id = system_id;
  language = language;
  name = name;
  opening_hours = opening_hours;
  feed_contact_email = feed_contact_email;
  timezone = timezone;
  currency = currency;
  base_url = base_url;
  ttl = ttl;
}

abbrev pub settings_of_fields : List ℕ → List ℕ → List ℕ → List ℕ → List ℕ → ℕ → SettingsRow
settings_of_fields name opening_hours feed_contact_email timezone base_url ttl = record {
  name = name;
  opening_hours = opening_hours;
  feed_contact_email = feed_contact_email;
  timezone = timezone;
  base_url = base_url;
  ttl = ttl;
}

-- the station at another position
abbrev pub moved_to : PositionRow → StationRow → StationRow
moved_to p s = record s { lat = p.lat; lon = p.lon }

-- the station with so many docks more
abbrev pub more_docks : ℕ → StationRow → StationRow
more_docks count s = record s { docks = s.docks + count }

-- the system with other settings
abbrev pub system_with : SettingsRow → SystemRow → SystemRow
system_with x s = record s {
  name = x.name;
  opening_hours = x.opening_hours;
  feed_contact_email = x.feed_contact_email;
  timezone = x.timezone;
  base_url = x.base_url;
  ttl = x.ttl;
}

-- the bounds of each record

pub record IsPlan (p : PlanRow) : Type 0 where
  pub plan_id : is_ident p.plan_id ≡ true
  pub name : is_name p.name ≡ true
  pub price : p.price ≤ GREATEST_PRICE
  pub description : is_name p.description ≡ true
  pub segments : length p.segments ≤ MOST_SEGMENTS

-- the plan, where it has few segments
abbrev pub plan_within : PlanRow → Option PlanRow
plan_within p = if nat_le (length p.segments) MOST_SEGMENTS then Some p else None

-- the vehicle type, where its range goes with its propulsion
abbrev pub type_within : TypeRow → Option TypeRow
type_within t = if is_range t.propulsion t.max_range then Some t else None

pub record IsType (t : TypeRow) : Type 0 where
  pub type_id : is_ident t.type_id ≡ true
  pub name : is_name t.name ≡ true
  pub max_range : IsRange t.propulsion t.max_range
  pub plan_id : is_ident t.plan_id ≡ true

-- the station, where its latitude is one
abbrev pub station_within : StationRow → Option StationRow
station_within s = if is_latitude s.lat then Some s else None

pub record IsStation (s : StationRow) : Type 0 where
  pub station_id : is_ident s.station_id ≡ true
  pub name : is_name s.name ≡ true
  pub lat : IsLatitude s.lat
  pub lon : IsMicro s.lon
  pub some_docks : 1 ≤ s.docks
  pub few_docks : s.docks ≤ MOST_DOCKS

pub record IsRegion (r : RegionRow) : Type 0 where
  pub region_id : is_ident r.region_id ≡ true
  pub name : is_name r.name ≡ true

pub record IsMoreName (m : MoreNameRow) : Type 0 where
  pub language : is_language m.language ≡ true
  pub name : is_name m.name ≡ true

pub record IsSystem (s : SystemRow) : Type 0 where
  pub system_id : is_ident s.system_id ≡ true
  pub language : is_language s.language ≡ true
  pub name : is_name s.name ≡ true
  pub opening_hours : is_ascii_field s.opening_hours ≡ true
  pub feed_contact_email : is_ascii_field s.feed_contact_email ≡ true
  pub timezone : is_ascii_field s.timezone ≡ true
  pub currency : is_currency s.currency ≡ true
  pub base_url : is_ascii_field s.base_url ≡ true
  pub ttl : s.ttl ≤ LONGEST_TIME_TO_LIVE

-- each of the six keeps the bound that the system's own field has
pub record IsSettings (s : SettingsRow) : Type 0 where
  pub name : is_name s.name ≡ true
  pub opening_hours : is_ascii_field s.opening_hours ≡ true
  pub feed_contact_email : is_ascii_field s.feed_contact_email ≡ true
  pub timezone : is_ascii_field s.timezone ≡ true
  pub base_url : is_ascii_field s.base_url ≡ true
  pub ttl : s.ttl ≤ LONGEST_TIME_TO_LIVE
