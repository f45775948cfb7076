-- The trees of the feeds (GBFS v3.0): a line a feed, over the operator, its system and the moment that is asked for.
use Rattle.std.specs.Prelude.{ℕ, pos, List, [], ◌∷◌, ◌++◌, map, codes}
use Rattle.std.specs.FinMap as finmap
use Rattle.std.specs.FinMap.{FinMap}
use Rattle.bike_catalogue.specs.Rows.{PlanRow, TypeRow, RegionRow, MoreNameRow, SystemRow}
use Rattle.bike_json.specs.Tree.{Tree, array, text, whole, Items}
use Rattle.bike_json.specs.Rows.{items}
use Rattle.bike_fields.specs.declared.name_kind.NameKind.TheVariants as named
use Rattle.bike_operator.specs.Operator.{Operator, Station, text_cmp}
use Rattle.bike_operator.specs.Counts.{available, available_of, disabled_bikes, docks_available, docks_broken}
use Rattle.bike_operator.specs.Names.{part_at, further_names}
use Rattle.bike_feed_texts.specs.declared.feed.Feed.{Feed}
use Rattle.bike_feed_texts.specs.declared.feed.Feed.TheVariants.{Gbfs, SystemInformation, VehicleTypes}
use Rattle.bike_feed_texts.specs.declared.feed.Feed.TheVariants.{StationInformation, StationStatus, SystemPricingPlans}
use Rattle.bike_feed_texts.specs.declared.feed.Feed.TheVariants.{SystemRegions}
use Rattle.bike_operator.specs.declared.station_info.TypeCount.{TypeCount}
use Rattle.bike_feed_texts.specs.Feeds.{listed_feeds}
use Rattle.bike_feed_texts.specs.Elements.{NamedTree, object_of, moment_tree, localized_text, link_tree, type_tree}
use Rattle.bike_feed_texts.specs.Elements.{station_tree, CountsRow, ReportRow, status_tree, plan_tree, region_tree}

-- ---- what a feed says of itself

-- when it was asked for, how many seconds it stays fresh, and the version of GBFS
abbrev pub head_members : SystemRow → ℕ → List NamedTree
head_members x seconds =
    (codes "last_updated", moment_tree seconds) ∷ (codes "ttl", whole (pos x.ttl))
    ∷ (codes "version", text (codes "3.0")) ∷ []

abbrev pub feed_frame : SystemRow → ℕ → Tree → Tree
feed_frame x seconds tree = object_of (head_members x seconds ++ (codes "data", tree) ∷ [])

-- an object whose one member is a list
abbrev pub listing : List ℕ → Items → Tree
listing name list = object_of ((name, array list) ∷ [])

-- ---- what it says of the operator; types, stations, plans and
-- regions stand in byte order of their identifiers, as in the maps

-- the further names by their languages alone
abbrev pub names_by_language : Operator → FinMap text_cmp (List ℕ)
names_by_language s = finmap.from_entries (map (λ e. (part_at e.0 2, e.1)) (finmap.entries s.more_names))

-- these languages, each once, in byte order
abbrev pub further_languages : Operator → List (List ℕ)
further_languages s = finmap.keys (names_by_language s)

-- what stands before the languages, and what behind them
abbrev pub system_members : SystemRow → List NamedTree
system_members x = (codes "system_id", text x.system_id) ∷ []

abbrev pub contact_members : SystemRow → List MoreNameRow → List NamedTree
contact_members x names =
    (codes "name", localized_text x x.name names)
    ∷ (codes "opening_hours", text x.opening_hours)
    ∷ (codes "feed_contact_email", text x.feed_contact_email)
    ∷ (codes "timezone", text x.timezone)
    ∷ []

abbrev pub information_tree : Operator → SystemRow → Tree
information_tree s x = object_of (
    system_members x
    ++ (codes "languages", array (items text (x.language ∷ further_languages s)))
    ∷ contact_members x (further_names s named.System x.system_id))

-- each element has the further names of its kind and identifier
abbrev pub type_element : Operator → SystemRow → TypeRow → Tree
type_element s x t = type_tree x t (further_names s named.Type t.type_id)

abbrev pub station_element : Operator → SystemRow → Station → Tree
station_element s x station =
    station_tree x station.row station.region (further_names s named.Station station.row.station_id)

abbrev pub plan_element : Operator → SystemRow → PlanRow → Tree
plan_element s x p = plan_tree x p (further_names s named.Plan p.plan_id) (further_names s named.Description p.plan_id)

abbrev pub region_element : Operator → SystemRow → RegionRow → Tree
region_element s x r = region_tree x r (further_names s named.Region r.region_id)

-- the count rule, for every type of the operator
abbrev pub counts_by_type : Operator → List ℕ → List TypeCount
counts_by_type s station =
    map (λ (t : TypeRow). record { type_id = t.type_id; count = available_of s station t.type_id })
    (finmap.values s.types)

abbrev pub counts_of : Operator → Station → CountsRow
counts_of s x = record {
  available = available s x.row.station_id;
  by_type = counts_by_type s x.row.station_id;
  disabled = disabled_bikes s x.row.station_id;
  docks_available = docks_available s x.row.station_id x.row.docks;
  docks_disabled = docks_broken s x.row.station_id x.row.docks;
}

abbrev pub report_of : Station → ReportRow
report_of x = record {
  station_id = x.row.station_id;
  is_installed = x.is_installed;
  is_renting = x.is_renting;
  is_returning = x.is_returning;
  reported = x.reported;
}

-- THE TABLE: what each feed holds.
abbrev pub feed_data : Operator → SystemRow → Feed → Tree
feed_data s x Gbfs = listing (codes "feeds") (items (link_tree x) listed_feeds)
feed_data s x SystemInformation = information_tree s x
feed_data s x VehicleTypes = listing (codes "vehicle_types") (items (type_element s x) (finmap.values s.types))
feed_data s x StationInformation = listing (codes "stations") (items (station_element s x) (finmap.values s.stations))
feed_data s x StationStatus =
    listing (codes "stations") (items (λ station. status_tree (report_of station) (counts_of s station))
    (finmap.values s.stations))
feed_data s x SystemPricingPlans = listing (codes "plans") (items (plan_element s x) (finmap.values s.plans))
feed_data s x SystemRegions = listing (codes "regions") (items (region_element s x) (finmap.values s.regions))

abbrev pub feed_tree : Operator → SystemRow → Feed → ℕ → Tree
feed_tree s x f seconds = feed_frame x seconds (feed_data s x f)
