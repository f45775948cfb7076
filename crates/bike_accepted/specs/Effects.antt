-- What an accepted command makes of the operator, and what a decision owes.
use Rattle.std.specs.Prelude.{◌≡◌, ℕ, List, true, false, Option, Some, None, option_map, Result, Ok, Err}
use Rattle.std.specs.FinMap as map
use Rattle.std.specs.Borrow.{Bor}
use Rattle.bike_ledger.specs.Entries.{Entry}
use Rattle.bike_catalogue.specs.Rows.{moved_to, more_docks, system_with}
use Rattle.bike_commands.specs.declared.command.Command.{Command}
use Rattle.bike_commands.specs.declared.refusal.Refusal.{Refusal}
use Rattle.bike_operator.specs.declared.records.BikeState.TheVariants.{Fit}
use Rattle.bike_operator.specs.declared.records.Place.TheVariants as place
use Rattle.bike_operator.specs.declared.records.Bike.{Bike}
use Rattle.bike_operator.specs.declared.view.View.{View}
use Rattle.bike_operator.specs.Operator.{Operator, name_key}
use Rattle.bike_operator.specs.View.{view_of}
use Rattle.bike_operator.specs.Steps.{refusal_of, effect, reply_of, key_changed, with_report, new_station, new_rider}
use Rattle.bike_operator.specs.Steps.{own_name_set}
use Rattle.bike_operator.specs.Steps.{further_name_set, further_name_removed, dock_marked, rental_added, rental_closed}
use Rattle.bike_operator.specs.Steps.{order_added, order_changed}
use Rattle.bike_operator.specs.Changes.{place_of, text_in, entry_added}
use Rattle.bike_accepted.specs.declared.movement.BikeStatus.{BikeStatus}
use Rattle.bike_accepted.specs.declared.movement.Movement.{Movement}
use Rattle.bike_accepted.specs.declared.movement.Movement.TheVariants as moved
use Rattle.bike_accepted.specs.declared.change.Change.{Change}
use Rattle.bike_accepted.specs.declared.change.Change.TheVariants as change
use Rattle.bike_accepted.specs.declared.accepted.BookedEntry.{BookedEntry}
use Rattle.bike_accepted.specs.declared.accepted.Accepted.{Accepted}

-- ---- what is put or marked at a dock

-- a bicycle's record
abbrev pub bike_in : Bor (List ℕ) → BikeStatus → Bike
bike_in type_id x = record { type_id = type_id.now; state = x.state; place = place_of x.place }

-- the operator with this record of a bicycle
abbrev pub bike_put : ℕ → Bike → Operator → Operator
bike_put bike b s = record s { bikes = map.insert s.bikes bike b }

abbrev pub after_moved : ℕ → Movement → Operator → Operator
after_moved now (moved.Away bike type_id was becomes) s = bike_put bike (bike_in type_id becomes) s
after_moved now (moved.AtDock at bike type_id was becomes) s =
    with_report at.station.now now (bike_put bike (bike_in type_id becomes) s)
after_moved now (moved.AddDocks station was count) s =
    record s { stations = key_changed s.stations station.now (λ x. record x { row = more_docks count.now x.row }) }
after_moved now (moved.Marked at held broken) s =
    with_report at.station.now now (dock_marked at.station.now at.dock broken s)

-- ---- one other record

abbrev pub after_change : Change → Operator → Operator
after_change (change.SetSystem x) s = record s { system = Some x.now }
after_change (change.AddPlan p) s = record s { plans = map.insert s.plans p.now.plan_id p.now }
after_change (change.AddType t) s = record s { types = map.insert s.types t.now.type_id t.now }
after_change (change.SetPlan type_id plan) s =
    record s { types = key_changed s.types type_id.now (λ t. record t { plan_id = plan.now }) }
after_change (change.AddStation x reported) s =
    record s { stations = map.insert s.stations x.now.station_id (new_station x.now reported) }
after_change (change.SetStation station installed renting returning reported) s =
    record s {
      stations = key_changed s.stations station.now
          (λ x. record x {
            is_installed = installed;
            is_renting = renting;
            is_returning = returning;
            reported = reported;
          });
    }
after_change (change.AddRegion r) s = record s { regions = map.insert s.regions r.now.region_id r.now }
after_change (change.SetRegion station region) s =
    record s { stations = key_changed s.stations station.now (λ x. record x { region = text_in region }) }
after_change (change.AddName kind id language name) s =
    record s { more_names = map.insert s.more_names (name_key kind id.now language.now) name.now }
after_change (change.SetOwnName kind id name) s = own_name_set kind id.now name.now s
after_change (change.SetFurtherName kind id language name) s = further_name_set kind id.now language.now name.now s
after_change (change.RemoveName kind id language) s = further_name_removed kind id.now language.now s
after_change (change.ChangeSystem x) s = record s { system = option_map (system_with x.now) s.system }
after_change (change.MoveStation station p) s =
    record s { stations = key_changed s.stations station.now (λ x. record x { row = moved_to p.now x.row }) }
after_change (change.AddBike bike type_id) s =
    record s { bikes = map.insert s.bikes bike (record { type_id = type_id.now; state = Fit; place = place.Depot }) }
after_change (change.AddTruck truck capacity) s =
    record s { trucks = map.insert s.trucks truck (record { capacity = capacity }) }
after_change (change.AddRider rider) s = record s { riders = map.insert s.riders rider new_rider }
after_change (change.SetRider rider blocked) s =
    record s { riders = key_changed s.riders rider (λ r. record r { is_blocked = blocked }) }
after_change (change.AddRental rental rider bike plan from_station start) s =
    rental_added (record {
      rider = rider;
      bike = bike;
      plan = plan.now;
      from_station = from_station.now;
      start = start;
      closing = None;
    }) s
after_change (change.CloseRental rental to_station finish fare) s =
    rental_closed rental (text_in to_station) finish fare s
after_change (change.AddOrder order truck from_end to_end type_id count) s =
    order_added (record {
      truck = truck;
      from_end = from_end.now;
      to_end = to_end.now;
      type_id = type_id.now;
      count = count;
      delivered = 0;
      is_open = true;
    }) s
after_change (change.SetOrder order delivered is_open) s =
    order_changed order (λ o. record o { delivered = delivered; is_open = is_open }) s

-- ---- an acceptance

-- what is there of them, in this order
abbrev pub where_moved : ℕ → Option Movement → Operator → Operator
where_moved now None s = s
where_moved now (Some m) s = after_moved now m s

abbrev pub where_changed : Option Change → Operator → Operator
where_changed None s = s
where_changed (Some c) s = after_change c s

abbrev pub entry_of : Option BookedEntry → Option Entry
entry_of = option_map (λ b. b.entry)

-- before its entry
abbrev pub changed_by : ℕ → Accepted → Operator → Operator
changed_by now a s = where_changed a.change (where_moved now a.moved s)

abbrev pub effect_of : ℕ → Accepted → Operator → Operator
effect_of now a s = entry_added (entry_of a.entry) (changed_by now a s)

-- What a decision owes: the first refusal that holds, or the reply and what makes the effect.
abbrev pub Decides : Operator → ℕ → Command → Result Accepted Refusal → Type 0
Decides s now c (Err r) = refusal_of s c ≡ Some r
Decides s now c (Ok a) = (refusal_of s c ≡ None) × (a.reply ≡ reply_of s now c) × (effect_of now a s ≡ effect s now c)

-- what it owes to every operator whose view this is, at the moment
abbrev pub DecidesAt : ℕ → View → Command → Result Accepted Refusal → Type 0
DecidesAt now view c result = (s : Operator) → view ≡ view_of s c → Decides s now c result

-- the same of a decision that no moment changes
abbrev pub DecidesOn : View → Command → Result Accepted Refusal → Type 0
DecidesOn view c result = (s : Operator) (now : ℕ) → view ≡ view_of s c → Decides s now c result
