-- What the functions answer, as the records that rows spell.
use Rattle.std.specs.Prelude.{ℕ, ℤ, List, [], Bool, option_map}
use Rattle.bike_fields.specs.Values.{SegmentRow}
use Rattle.bike_catalogue.specs.Rows.{PlanRow, TypeRow, RegionRow, MoreNameRow, SystemRow}
use Rattle.bike_fields.specs.declared.name_kind.NameKind.{NameKind}
use Rattle.bike_ledger.specs.Entries.{Entry}
use Rattle.bike_texts.specs.declared.ends.OrderEnd.{OrderEnd}
use Rattle.bike_texts.specs.declared.ends.OrderEnd.TheVariants as end
use Rattle.bike_operator.specs.declared.records.Place.{Place}
use Rattle.bike_operator.specs.declared.records.Place.TheVariants as place
use Rattle.bike_operator.specs.declared.records.Bike.{Bike}
use Rattle.bike_operator.specs.declared.records.Rental.{Rental}
use Rattle.bike_operator.specs.declared.records.Closing.{Closing}
use Rattle.bike_operator.specs.declared.records.Order.{Order}
use Rattle.bike_operator.specs.Operator.{Station, Truck, Rider, AcceptedRequest}
use Rattle.bike_readings.specs.declared.catalogue.StoredMeta.{StoredMeta}
use Rattle.bike_readings.specs.declared.catalogue.StoredSystem.{StoredSystem}
use Rattle.bike_readings.specs.declared.catalogue.StoredPlan.{StoredPlan}
use Rattle.bike_readings.specs.declared.catalogue.StoredSegment.{StoredSegment}
use Rattle.bike_readings.specs.declared.catalogue.StoredType.{StoredType}
use Rattle.bike_readings.specs.declared.names.StoredName.{StoredName}
use Rattle.bike_readings.specs.declared.network.StoredRegion.{StoredRegion}
use Rattle.bike_readings.specs.declared.network.StoredStation.{StoredStation}
use Rattle.bike_readings.specs.declared.network.StoredDock.{StoredDock}
use Rattle.bike_readings.specs.declared.fleet.StoredPlace.{StoredPlace}
use Rattle.bike_readings.specs.declared.fleet.StoredPlace.TheVariants as stored
use Rattle.bike_readings.specs.declared.fleet.StoredBike.{StoredBike}
use Rattle.bike_readings.specs.declared.fleet.StoredTruck.{StoredTruck}
use Rattle.bike_readings.specs.declared.fleet.StoredEnd.{StoredEnd}
use Rattle.bike_readings.specs.declared.fleet.StoredEnd.TheVariants as stored_end
use Rattle.bike_readings.specs.declared.fleet.StoredOrder.{StoredOrder}
use Rattle.bike_readings.specs.declared.history.StoredRequest.{StoredRequest}
use Rattle.bike_readings.specs.declared.ledger.StoredRider.{StoredRider}
use Rattle.bike_readings.specs.declared.ledger.StoredClosing.{StoredClosing}
use Rattle.bike_readings.specs.declared.ledger.StoredRental.{StoredRental}
use Rattle.bike_readings.specs.declared.ledger.StoredEntry.{StoredEntry}
use Rattle.bike_readings.specs.declared.books.StoredBooks.{StoredBooks}

abbrev pub meta_of : StoredMeta → ℕ × ℕ × ℤ × ℤ
meta_of x = (x.version, x.now, x.cash, x.revenue)

abbrev pub system_of : StoredSystem → SystemRow
system_of x = record {
  system_id = x.system_id.now;
  language = x.language.now;
  name = x.name.now;
  opening_hours = x.opening_hours.now;
  feed_contact_email = x.feed_contact_email.now;
  timezone = x.timezone.now;
  currency = x.currency.now;
  base_url = x.base_url.now;
  ttl = x.ttl;
}

-- with no segments: these are rows of their own
abbrev pub plan_of : StoredPlan → List ℕ × PlanRow
plan_of x = (
  x.plan_id.now,
  record {
    plan_id = x.plan_id.now;
    name = x.name.now;
    price = x.price;
    taxable = x.taxable;
    description = x.description.now;
    segments = [];
  },
)

abbrev pub segment_of : StoredSegment → List ℕ × ℕ × SegmentRow
segment_of x = (x.plan_id.now, x.seq, record { start = x.start; rate = x.rate; interval = x.interval; end = x.end })

abbrev pub type_of : StoredType → List ℕ × TypeRow
type_of x = (
  x.type_id.now,
  record {
    type_id = x.type_id.now;
    name = x.name.now;
    form = x.form;
    propulsion = x.propulsion;
    max_range = x.max_range;
    plan_id = x.plan_id.now;
  },
)

abbrev pub region_of : StoredRegion → List ℕ × RegionRow
region_of x = (x.region_id.now, record { region_id = x.region_id.now; name = x.name.now })

abbrev pub station_of : StoredStation → List ℕ × Station × ℤ × ℕ × List ℕ
station_of x = (
  x.station_id.now,
  record {
    row = record { station_id = x.station_id.now; name = x.name.now; lat = x.lat; lon = x.lon; docks = x.docks };
    is_installed = x.is_installed;
    is_renting = x.is_renting;
    is_returning = x.is_returning;
    reported = x.reported;
    region = option_map (λ text. text.now) x.region;
  },
  x.free,
  x.broken,
  x.by_type.now,
)

abbrev pub dock_of : StoredDock → List ℕ × ℕ × Bool
dock_of x = (x.station.now, x.dock, x.is_broken)

abbrev pub name_of : StoredName → NameKind × List ℕ × MoreNameRow
name_of x = (x.kind, x.id.now, record { language = x.language.now; name = x.name.now })

abbrev pub place_of : StoredPlace → Place
place_of (stored.Dock station dock) = place.Dock station.now dock
place_of (stored.Rental rental) = place.Rental rental
place_of (stored.Truck truck order) = place.Truck truck order
place_of stored.Depot = place.Depot

abbrev pub bike_of : StoredBike → ℕ × Bike
bike_of x = (x.bike, record { type_id = x.type_id.now; state = x.state; place = place_of x.place })

abbrev pub truck_of : StoredTruck → ℕ × Truck
truck_of x = (x.truck, record { capacity = x.capacity })

abbrev pub end_of : StoredEnd → OrderEnd
end_of stored_end.Depot = end.Depot
end_of (stored_end.Station station) = end.Station station.now

abbrev pub order_of : StoredOrder → ℕ × Order
order_of x = (
  x.order,
  record {
    truck = x.truck;
    from_end = end_of x.from_end;
    to_end = end_of x.to_end;
    type_id = x.type_id.now;
    count = x.count;
    delivered = x.delivered;
    is_open = x.is_open;
  },
)

abbrev pub rider_of : StoredRider → ℕ × Rider × ℤ
rider_of x = (
  x.rider,
  record { is_blocked = x.is_blocked; plan = option_map (λ text. text.now) x.plan; before = x.before },
  x.balance,
)

abbrev pub closing_of : StoredClosing → Closing
closing_of x = record { to_station = option_map (λ text. text.now) x.to_station; finish = x.finish; fare = x.fare }

abbrev pub rental_of : StoredRental → ℕ × Rental × ℤ
rental_of x = (
  x.rental,
  record {
    rider = x.rider;
    bike = x.bike;
    plan = x.plan.now;
    from_station = x.from_station.now;
    start = x.start;
    closing = option_map closing_of x.closing;
  },
  x.refunded,
)

abbrev pub entry_of : StoredEntry → Entry
entry_of x =
    record { number = x.number; kind = x.kind; rider = x.rider; rental = x.rental; amount = x.amount; at = x.at }

-- with its number
abbrev pub request_of : StoredRequest → ℕ × AcceptedRequest
request_of x = (
  x.number,
  record {
    moment = x.moment;
    request = record { caller = x.caller; key = x.key; command = x.command };
    reply = x.reply;
  },
)

-- how many requests, entries and rentals were archived
abbrev pub books_of : StoredBooks → ℕ × ℕ × ℕ
books_of x = (x.requests, x.entries, x.rentals)
