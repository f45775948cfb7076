-- Feeds tell nothing of what is archived.
use Rattle.std.proofs.Common.{◌≡◌, ℕ, List, Bool, refl}
use Rattle.std.specs.Prelude.{◌&&◌, not, map, codes}
use Rattle.std.specs.Str.{bytes_eq}
use Rattle.std.specs.FinMap.{entries, values}
use Rattle.bike_catalogue.specs.Rows.{SystemRow, TypeRow}
use Rattle.bike_json.specs.Tree.{Tree, text_of}
use Rattle.bike_json.specs.Rows.{items}
use Rattle.bike_operator.specs.declared.records.Bike.{Bike}
use Rattle.bike_operator.specs.declared.records.Place.{Place}
use Rattle.bike_operator.specs.declared.records.Place.TheVariants as place
use Rattle.bike_operator.specs.declared.station_info.TypeCount.{TypeCount}
use Rattle.bike_operator.specs.Operator.{Operator, Station}
use Rattle.bike_operator.specs.Counts.{count, is_at, is_fit, is_working_dock, is_available, docks_available, docks_broken}
use Rattle.bike_feed_texts.specs.declared.feed.Feed.{Feed}
use Rattle.bike_feed_texts.specs.declared.feed.Feed.TheVariants.{Gbfs, SystemInformation, VehicleTypes, StationInformation, StationStatus, SystemPricingPlans, SystemRegions}
use Rattle.bike_feed_texts.specs.Elements.{CountsRow, status_tree}
use Rattle.bike_feed_texts.specs.Trees.{feed_tree, feed_frame, listing, report_of, counts_of}
use Rattle.bike_laws.specs.Archiving.{Front, archived}

-- whether a bicycle is available hangs on its dock alone
works_still : (f : Front) (s : Operator) (station : List ℕ) (p : Place) → is_working_dock (archived f s) station p ≡ is_working_dock s station p
works_still f s station (place.Dock at dock) = refl
works_still f s station (place.Rental rental) = refl
works_still f s station (place.Truck truck order) = refl
works_still f s station place.Depot = refl

-- so do a station's counts
counts_still : (f : Front) (s : Operator) (x : Station) → counts_of (archived f s) x ≡ counts_of s x
counts_still f s x = λ i. record {
  available = count (λ (b : ℕ × Bike). is_fit b.1.state && works_still f s x.row.station_id b.1.place i) (entries s.bikes);
  by_type =
      map (λ (t : TypeRow). record {
        type_id = t.type_id;
        count = count (λ (b : ℕ × Bike). bytes_eq b.1.type_id t.type_id && (is_fit b.1.state && works_still f s x.row.station_id b.1.place i)) (entries s.bikes);
      }) (values s.types);
  disabled = count (λ (b : ℕ × Bike). is_at x.row.station_id b.1.place && not (is_fit b.1.state && works_still f s x.row.station_id b.1.place i)) (entries s.bikes);
  docks_available = docks_available s x.row.station_id x.row.docks;
  docks_disabled = docks_broken s x.row.station_id x.row.docks;
}

-- EACH FEED IS THE SAME
pub feed_still : (f : Front) (s : Operator) (x : SystemRow) (feed : Feed) (moment : ℕ) → feed_tree (archived f s) x feed moment ≡ feed_tree s x feed moment
feed_still f s x StationStatus moment =
    λ i. feed_frame x moment (listing (codes "stations") (items (λ (station : Station). status_tree (report_of station) (counts_still f s station i)) (values s.stations)))
feed_still f s x feed moment = refl
