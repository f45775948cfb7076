-- The elements of the feeds' lists as JSON values, their members in the order in which they are written.
use Rattle.std.specs.Prelude.{ℕ, pos, List, [], ◌∷◌, ◌++◌, Bool, ◌&&◌, Option, Some, None, codes}
use Rattle.bike_fixed.specs.Text.{moment_text}
use Rattle.bike_fields.specs.declared.vehicle.Propulsion.{Propulsion}
use Rattle.bike_fields.specs.declared.vehicle.Propulsion.TheVariants.{Human, ElectricAssist}
use Rattle.bike_fields.specs.Vehicle.{form_text, propulsion_text}
use Rattle.bike_fields.specs.Values.{SegmentRow}
use Rattle.bike_catalogue.specs.Rows.{PlanRow, TypeRow, StationRow, RegionRow, MoreNameRow, more_name_of_fields}
use Rattle.bike_catalogue.specs.Rows.{SystemRow}
use Rattle.bike_json.specs.Tree.{Tree, object, array, text, whole, cents, micro, flag, Members, no_members, member}
use Rattle.bike_json.specs.Rows.{items}
use Rattle.bike_feed_texts.specs.declared.feed.Feed.{Feed}
use Rattle.bike_operator.specs.declared.station_info.TypeCount.{TypeCount}
use Rattle.bike_feed_texts.specs.Feeds.{feed_name, feed_url}

-- names with their values
abbrev pub NamedTree : Type 0
NamedTree = List ℕ × Tree

abbrev pub members : List NamedTree → Members
members [] = no_members
members (m ∷ ms) = member m.0 m.1 (members ms)

abbrev pub object_of : List NamedTree → Tree
object_of ms = object (members ms)

-- a moment, as RFC 3339 writes it
abbrev pub moment_tree : ℕ → Tree
moment_tree seconds = text (moment_text seconds)

-- a text with its language
abbrev pub translation : MoreNameRow → Tree
translation m = object_of ((codes "text", text m.name) ∷ (codes "language", text m.language) ∷ [])

-- a localized text: in the system's language, and then in each further one
abbrev pub localized_text : SystemRow → List ℕ → List MoreNameRow → Tree
localized_text x bytes names = array (items translation (more_name_of_fields x.language bytes ∷ names))

-- ---- gbfs

abbrev pub link_tree : SystemRow → Feed → Tree
link_tree x f = object_of ((codes "name", text (feed_name f)) ∷ (codes "url", text (feed_url x.base_url f)) ∷ [])

-- ---- vehicle_types

-- a range is told of what has a motor
abbrev pub range_members : Propulsion → ℕ → List NamedTree
range_members Human metres = []
range_members ElectricAssist metres = (codes "max_range_meters", whole (pos metres)) ∷ []

abbrev pub type_tree : SystemRow → TypeRow → List MoreNameRow → Tree
type_tree x t names = object_of (
    (codes "vehicle_type_id", text t.type_id)
    ∷ (codes "form_factor", text (form_text t.form))
    ∷ (codes "propulsion_type", text (propulsion_text t.propulsion))
    ∷ (range_members t.propulsion t.max_range
    ++ (codes "name", localized_text x t.name names)
    ∷ (codes "default_pricing_plan_id", text t.plan_id)
    ∷ []))

-- ---- station_information

-- a region is told where the station stands in one
abbrev pub region_members : Option (List ℕ) → List NamedTree
region_members None = []
region_members (Some region) = (codes "region_id", text region) ∷ []

-- a station, and the region in which it stands
abbrev pub station_tree : SystemRow → StationRow → Option (List ℕ) → List MoreNameRow → Tree
station_tree x s region names = object_of (
    (codes "station_id", text s.station_id)
    ∷ (codes "name", localized_text x s.name names)
    ∷ (codes "lat", micro s.lat)
    ∷ (codes "lon", micro s.lon)
    ∷ (region_members region
    ++ (codes "capacity", whole (pos s.docks))
    ∷ []))

-- ---- station_status

-- the counts of a station; available bicycles are counted for every type too
pub record CountsRow : Type 0 where
  pub available : ℕ
  pub by_type : List TypeCount
  pub disabled : ℕ
  pub docks_available : ℕ
  pub docks_disabled : ℕ

-- a station with its flags as they were set, and its last report
pub record ReportRow : Type 0 where
  pub station_id : List ℕ
  pub is_installed : Bool
  pub is_renting : Bool
  pub is_returning : Bool
  pub reported : ℕ

abbrev pub type_count_tree : TypeCount → Tree
type_count_tree c = object_of ((codes "vehicle_type_id", text c.type_id) ∷ (codes "count", whole (pos c.count)) ∷ [])

abbrev pub counts_members : CountsRow → List NamedTree
counts_members c =
    (codes "num_vehicles_available", whole (pos c.available))
    ∷ (codes "vehicle_types_available", array (items type_count_tree c.by_type))
    ∷ (codes "num_vehicles_disabled", whole (pos c.disabled))
    ∷ (codes "num_docks_available", whole (pos c.docks_available))
    ∷ (codes "num_docks_disabled", whole (pos c.docks_disabled))
    ∷ []

-- a station rents and takes back only while it is installed
abbrev pub report_members : ReportRow → List NamedTree
report_members r =
    (codes "is_installed", flag r.is_installed)
    ∷ (codes "is_renting", flag (r.is_installed && r.is_renting))
    ∷ (codes "is_returning", flag (r.is_installed && r.is_returning))
    ∷ (codes "last_reported", moment_tree r.reported)
    ∷ []

abbrev pub status_tree : ReportRow → CountsRow → Tree
status_tree r c = object_of ((codes "station_id", text r.station_id) ∷ (counts_members c ++ report_members r))

-- ---- system_pricing_plans

-- an end is told where there is one
abbrev pub end_members : Option ℕ → List NamedTree
end_members None = []
end_members (Some minute) = (codes "end", whole (pos minute)) ∷ []

abbrev pub segment_tree : SegmentRow → Tree
segment_tree g = object_of (
    (codes "start", whole (pos g.start))
    ∷ (codes "rate", cents g.rate)
    ∷ (codes "interval", whole (pos g.interval))
    ∷ end_members g.end)

-- a plan without segments has no list of them
abbrev pub pricing_members : List SegmentRow → List NamedTree
pricing_members [] = []
pricing_members (g ∷ gs) = (codes "per_min_pricing", array (items segment_tree (g ∷ gs))) ∷ []

-- a plan has a name and a description, each with its own further ones
abbrev pub plan_tree : SystemRow → PlanRow → List MoreNameRow → List MoreNameRow → Tree
plan_tree x p names descriptions = object_of (
    (codes "plan_id", text p.plan_id)
    ∷ (codes "name", localized_text x p.name names)
    ∷ (codes "currency", text x.currency)
    ∷ (codes "price", cents (pos p.price))
    ∷ (codes "is_taxable", flag p.taxable)
    ∷ (codes "description", localized_text x p.description descriptions)
    ∷ pricing_members p.segments)

-- ---- system_regions

abbrev pub region_tree : SystemRow → RegionRow → List MoreNameRow → Tree
region_tree x r names =
    object_of ((codes "region_id", text r.region_id) ∷ (codes "name", localized_text x r.name names) ∷ [])
