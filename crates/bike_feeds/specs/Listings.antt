-- The lists of which feeds' data are made (GBFS v3.0).
use Rattle.std.specs.Prelude.{ℕ, List, codes}
use Rattle.std.specs.FinMap.{values}
use Rattle.bike_catalogue.specs.Rows.{SystemRow}
use Rattle.bike_json.specs.Tree.{Items, text_of}
use Rattle.bike_json.specs.Rows.{items}
use Rattle.bike_operator.specs.Operator.{Operator}
use Rattle.bike_feed_texts.specs.Elements.{status_tree}
use Rattle.bike_feed_texts.specs.Trees.{feed_frame, listing, report_of, counts_of, type_element, station_element}
use Rattle.bike_feed_texts.specs.Trees.{plan_element, region_element}
use Rattle.bike_feeds.specs.declared.listing.Listing.{Listing}
use Rattle.bike_feeds.specs.declared.listing.Listing.TheVariants.{Types, Stations, Statuses, Plans, Regions}

-- the name of the list
abbrev pub list_name : Listing → List ℕ
list_name Types = codes "vehicle_types"
list_name Stations = codes "stations"
list_name Statuses = codes "stations"
list_name Plans = codes "plans"
list_name Regions = codes "regions"

-- the stations' statuses, each with the station's counts
abbrev pub statuses : Operator → Items
statuses s = items (λ station. status_tree (report_of station) (counts_of s station)) (values s.stations)

-- what stands in it
abbrev pub elements : Operator → SystemRow → Listing → Items
elements s x Types = items (type_element s x) (values s.types)
elements s x Stations = items (station_element s x) (values s.stations)
elements s x Statuses = statuses s
elements s x Plans = items (plan_element s x) (values s.plans)
elements s x Regions = items (region_element s x) (values s.regions)

-- the whole feed
abbrev pub listing_text : Operator → SystemRow → Listing → ℕ → List ℕ
listing_text s x list moment = text_of (feed_frame x moment (listing (list_name list) (elements s x list)))
