-- The routes of the product, and what a path takes of them.
use Rattle.std.specs.Prelude.{ℕ, Bool, true, false, List, [], ◌∷◌, ◌==◌, fold, codes, Option, Some, option_map, Result}
use Rattle.std.specs.Prelude.{Ok, Err}
use Rattle.std.specs.List.{before_first, slice_split}
use Rattle.matchit.specs.Rows.{RowsOf}
use Rattle.matchit.specs.Order.{placed}
use Rattle.matchit.specs.Route.{Scan, parse_route}
use Rattle.matchit.specs.Router.{RouteOf, route_from}
use Rattle.matchit.specs.Seek.{first}
use Rattle.bike_texts.specs.Reading.{◌>>=◌, part_at}
use Rattle.bike_feed_texts.specs.declared.feed.Feed.TheVariants.{Gbfs, SystemInformation, VehicleTypes}
use Rattle.bike_feed_texts.specs.declared.feed.Feed.TheVariants.{StationInformation, StationStatus, SystemPricingPlans}
use Rattle.bike_feed_texts.specs.declared.feed.Feed.TheVariants.{SystemRegions}
use Rattle.bike_http_head.specs.declared.routes.Route.{Route}
use Rattle.bike_http_head.specs.declared.routes.Route.TheVariants as route

-- THE TABLE
unfoldable pub routes : List (List ℕ × Route)
routes =
    (codes "/riders/{rider}/start", route.Start)
    ∷ (codes "/docks/{station}/end", route.End)
    ∷ (codes "/docks/{station}/mark-dock", route.MarkDock)
    ∷ (codes "/docks/{station}/mark-bike", route.MarkStationBike)
    ∷ (codes "/crews/{truck}/load", route.Load)
    ∷ (codes "/crews/{truck}/unload", route.Unload)
    ∷ (codes "/crews/{truck}/mark-bike", route.MarkTruckBike)
    ∷ (codes "/office", route.Office)
    ∷ (codes "/office/{name}", route.Staff)
    ∷ (codes "/riders/{rider}", route.Rider)
    ∷ (codes "/bikes/{bike}", route.Bike)
    ∷ (codes "/rentals/{rental}", route.Rental)
    ∷ (codes "/orders/{order}", route.Order)
    ∷ (codes "/history/{after}", route.History)
    ∷ (codes "/gbfs/3.0/gbfs.json", route.Publish Gbfs)
    ∷ (codes "/gbfs/3.0/system_information.json", route.Publish SystemInformation)
    ∷ (codes "/gbfs/3.0/vehicle_types.json", route.Publish VehicleTypes)
    ∷ (codes "/gbfs/3.0/station_information.json", route.Publish StationInformation)
    ∷ (codes "/gbfs/3.0/station_status.json", route.Publish StationStatus)
    ∷ (codes "/gbfs/3.0/system_pricing_plans.json", route.Publish SystemPricingPlans)
    ∷ (codes "/gbfs/3.0/system_regions.json", route.Publish SystemRegions)
    ∷ []

-- .. as rows of a router
abbrev pub Rows : Type 0
Rows = RowsOf (RouteOf Route)

abbrev pub with_scan : {E : Type 0} → Result Scan E → Route → Rows → Rows
with_scan (Ok s) value rows = placed (s.pattern, route_from s value) rows
with_scan (Err e) value rows = rows

-- the rows with one route more
unfoldable pub with_route : Rows → List ℕ → Route → Rows
with_route rows text value = with_scan (parse_route text) value rows

abbrev pub with_routes : Rows → List (List ℕ × Route) → Rows
with_routes rows routes = fold (λ (t : Rows) (r : List ℕ × Route). with_route t r.0 r.1) rows routes

unfoldable pub table : Rows
table = with_routes [] routes

-- the route that a path takes
abbrev pub route_at : List ℕ → Option Route
route_at path = option_map (λ r. r.value) (first table path)

-- the target up to the first question mark
abbrev pub path_of : List ℕ → List ℕ
path_of target = before_first (λ b. b == 63) target

-- what stands behind the second slash of a path, up to the third or the end
unfoldable pub part_in : List ℕ → Option (List ℕ)
part_in path = do
  front ← part_at (slice_split (λ b. b == 47) path)
  kind ← part_at front.1
  part ← part_at kind.1
  Some part.0

-- the routes with a parameter
abbrev pub takes_part : Route → Bool
takes_part route.Office = false
takes_part (route.Publish feed) = false
takes_part _ = true

abbrev pub with_part : Bool → Route → List ℕ → Option (Route × List ℕ)
with_part true route path = option_map (λ part. (route, part)) (part_in path)
with_part false route path = Some (route, [])

-- the route that a path takes, and what stands in the place of its parameter
abbrev pub found_at : List ℕ → Option (Route × List ℕ)
found_at path = route_at path >>= λ route. with_part (takes_part route) route path
