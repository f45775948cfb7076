-- The names of the feeds (GBFS v3.0).
use Rattle.std.specs.Prelude.{ℕ, List, [], ◌∷◌, ◌++◌, if◌then◌else◌, Option, Some, None, codes}
use Rattle.std.specs.Str.{bytes_eq}
use Rattle.bike_feed_texts.specs.declared.feed.Feed.{Feed}
use Rattle.bike_feed_texts.specs.declared.feed.Feed.TheVariants.{Gbfs, SystemInformation, VehicleTypes}
use Rattle.bike_feed_texts.specs.declared.feed.Feed.TheVariants.{StationInformation, StationStatus, SystemPricingPlans}
use Rattle.bike_feed_texts.specs.declared.feed.Feed.TheVariants.{SystemRegions}

abbrev pub feed_name : Feed → List ℕ
feed_name Gbfs = codes "gbfs"
feed_name SystemInformation = codes "system_information"
feed_name VehicleTypes = codes "vehicle_types"
feed_name StationInformation = codes "station_information"
feed_name StationStatus = codes "station_status"
feed_name SystemPricingPlans = codes "system_pricing_plans"
feed_name SystemRegions = codes "system_regions"

-- the feed of that name
unfoldable pub feed_of : List ℕ → Option Feed
feed_of text =
    if bytes_eq text (codes "gbfs") then Some Gbfs else (
    if bytes_eq text (codes "system_information") then Some SystemInformation else (
    if bytes_eq text (codes "vehicle_types") then Some VehicleTypes else (
    if bytes_eq text (codes "station_information") then Some StationInformation else (
    if bytes_eq text (codes "station_status") then Some StationStatus else (
    if bytes_eq text (codes "system_pricing_plans") then Some SystemPricingPlans else (
    if bytes_eq text (codes "system_regions") then Some SystemRegions else None))))))

-- the feeds that `gbfs` lists: all but itself
abbrev pub listed_feeds : List Feed
listed_feeds =
    SystemInformation ∷ VehicleTypes ∷ StationInformation ∷ StationStatus ∷ SystemPricingPlans ∷ SystemRegions ∷ []

-- where a feed is found
abbrev pub feed_url : List ℕ → Feed → List ℕ
feed_url base_url f = base_url ++ codes "/gbfs/3.0/" ++ feed_name f ++ codes ".json"
