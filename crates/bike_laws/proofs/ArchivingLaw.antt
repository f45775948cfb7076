-- Where a front is archived, commands see what they saw, are answered as they were, and do what they did.
use Rattle.std.proofs.Common.{◌≡◌, ◌⊎◌, inl, inr, ℕ, ℤ, suc, pos, ◌+◌, ◌≤◌, ◌+ℤ◌, List, [], ◌∷◌, ◌++◌, length, length-append, take, drop, Bool, true, false, cond, leb, Option, Some, None}
use Rattle.std.proofs.Common.{refl, sym, ap, ap₂, ◌∙◌, subst, arith}
use Rattle.std.specs.Prelude.{◌&&◌, option_map, is_some, is_none, nat_lt, nat_le, max, if◌then◌else◌}
use Rattle.std.specs.List.{list_any, list_all}
use Rattle.std.specs.FinMap as finmap
use Rattle.std.proofs.lemmas.Int.{ints}
use Rattle.std.proofs.lemmas.Bool.Decides.{leb_tells}
use Rattle.std.proofs.lemmas.Option.{same_Some}
use Rattle.bike_fixed.specs.Whole.{last_moment}
use Rattle.bike_catalogue.specs.Rows.{PlanRow}
use Rattle.bike_ledger.specs.Entries.{Entry}
use Rattle.bike_ledger.specs.declared.entry.EntryKind.{EntryKind}
use Rattle.bike_ledger.specs.declared.entry.EntryKind.TheVariants as kind
use Rattle.bike_ledger.specs.Ledger.{balance_of, refunded_of, share, cash_in, revenue_in}
use Rattle.bike_fields.specs.declared.name_kind.NameKind.{NameKind}
use Rattle.bike_fields.specs.declared.name_kind.NameKind.TheVariants as named
use Rattle.bike_texts.specs.declared.ends.OrderEnd.{OrderEnd}
use Rattle.bike_texts.specs.declared.ends.OrderEnd.TheVariants as end
use Rattle.bike_texts.specs.declared.ends.Side.{Side}
use Rattle.bike_texts.specs.declared.ends.Side.TheVariants.{From, To}
use Rattle.bike_commands.specs.declared.command.Command.{Command}
use Rattle.bike_commands.specs.declared.command.Command.TheVariants as command
use Rattle.bike_commands.specs.declared.refusal.Refusal.{Refusal}
use Rattle.bike_commands.specs.declared.refusal.Refusal.TheVariants as refusal
use Rattle.bike_commands.specs.declared.reply.Reply.{Reply}
use Rattle.bike_commands.specs.declared.reply.Reply.TheVariants.{Refused, Balance, Started, Ended}
use Rattle.bike_commands.specs.declared.request.Request.{Request}
use Rattle.bike_commands.specs.Requests.{IsRequest}
use Rattle.bike_operator.specs.declared.limits.TheConstants.{MOST_RIDERS, MOST_ENTRIES}
use Rattle.bike_operator.specs.declared.records.BikeState.TheVariants.{Fit, Disabled}
use Rattle.bike_operator.specs.declared.records.Place.{Place}
use Rattle.bike_operator.specs.declared.records.Place.TheVariants as place
use Rattle.bike_operator.specs.declared.records.Bike.{Bike}
use Rattle.bike_operator.specs.declared.records.Rental.{Rental}
use Rattle.bike_operator.specs.declared.records.Order.{Order}
use Rattle.bike_operator.specs.declared.view.DockedBike.{DockedBike}
use Rattle.bike_operator.specs.declared.view.RentalView.{RentalView}
use Rattle.bike_operator.specs.declared.view.View.{View}
use Rattle.bike_operator.specs.Operator.{Operator, Rider, Numbered, AcceptedRequest, item_numbered, last_number, with_item, number_changed, key_in, kept_under}
use Rattle.bike_operator.specs.Counts.{is_open, docked_at, is_broken}
use Rattle.bike_operator.specs.Names.{is_own_language, has_named}
use Rattle.bike_operator.specs.View.{empty_view, rider_view, planned_rental, rental_view, rental_in, rental_of, bike_of, docked_view, dock_view, end_view, side_view, has_end, has_region}
use Rattle.bike_operator.specs.View.{is_broken_dock, is_in_broken_dock, view_of}
use Rattle.bike_operator.specs.View.{rider_balance, end_at, has_full_ledger}
use Rattle.bike_operator.specs.Steps.{tests, first, refusal_of, effect, reply_of, own_plan, plan_for, with_entry, with_fare, with_report, rental_added, rental_closed, after_start}
use Rattle.bike_operator.specs.Steps.{after_end, after_recovery, refunded_by, place_reported}
use Rattle.bike_operator.specs.Steps.{bike_reported, bike_marked, bike_placed, placed_at_end, with_delivery, after_unload, own_name_set, further_name_set, name_set, new_rider, fare_now}
use Rattle.bike_operator.specs.Steps.{started_reply, ended_reply, refunded_reply}
use Rattle.bike_operator.specs.Runs.{Call, is_same, step, after, replies, outcome, outcome_with_kept, after_acceptance}
use Rattle.bike_operator.specs.Sound.{IsSound, AreCalls, IsPlace}
use Rattle.bike_laws.specs.Archiving.{Front, MayArchive, IsOther, AreOthers, ShowsNothing, KeepsSums, goes, names_gone, without, riders_with, archived_with, archived}
use Rattle.bike_laws.proofs.SingleSteps.ItemLemmas.{number_behind, last_changed}
use Rattle.bike_laws.proofs.SingleSteps.TestLemmas.{none_holds, none_of}
use Rattle.bike_laws.proofs.FoundLemmas.{rental_is, view_is, view_number, nothing}
use Rattle.bike_laws.proofs.FrontLemmas.{take_front, last_left, found_left, added_left, changed_left, front_stays, kept_left, none_counted, none_rides, open_behind, total_parts, refunds_left}
use Rattle.bike_laws.proofs.ArchivedRiders.{with_before, get_with, there_with, len_with, added_with, changed_with, AreOfRiders, of_riders, balance_left}
use Rattle.bike_laws.proofs.QuietLaw.{quiet_kind}
use Rattle.bike_laws.proofs.OrderLemmas.{accepted_sound, step_sound}

-- ---- what doesn't speak of what goes

docked_seen : (es : List Entry) (f : Front) (s : Operator) (o : Option (ℕ × Bike)) → docked_view (archived_with es f s) o ≡ docked_view s o
docked_seen es f s None = refl
docked_seen es f s (Some b) = refl

pub broken_seen : (es : List Entry) (f : Front) (s : Operator) (o : Option Bike) → is_in_broken_dock (archived_with es f s) o ≡ is_in_broken_dock s o
broken_seen es f s None = refl
broken_seen es f s (Some b) = go b.place where
  go : (p : Place) → is_broken_dock (archived_with es f s) p ≡ is_broken_dock s p
  go (place.Dock station dock) = refl
  go (place.Rental rental) = refl
  go (place.Truck truck order) = refl
  go place.Depot = refl

dock_seen : (es : List Entry) (f : Front) (s : Operator) (station : List ℕ) (dock : ℕ) → dock_view (archived_with es f s) station dock ≡ dock_view s station dock
dock_seen es f s station dock = λ i. record (dock_view s station dock) { docked = docked_seen es f s (docked_at s station dock) i }

end_seen : (es : List Entry) (f : Front) (s : Operator) (e : OrderEnd) (dock : ℕ) → end_view (archived_with es f s) e dock ≡ end_view s e dock
end_seen es f s end.Depot dock = refl
end_seen es f s (end.Station station) dock = dock_seen es f s station dock

side_seen : (es : List Entry) (f : Front) (s : Operator) (o : Option Order) (side : Side) (dock : ℕ) → side_view (archived_with es f s) o side dock ≡ side_view s o side dock
side_seen es f s None side dock = refl
side_seen es f s (Some o) side dock = end_seen es f s (end_at side o) dock

pub ends_seen : (es : List Entry) (f : Front) (s : Operator) (e : OrderEnd) → has_end (archived_with es f s) e ≡ has_end s e
ends_seen es f s end.Depot = refl
ends_seen es f s (end.Station station) = refl

pub region_seen : (es : List Entry) (f : Front) (s : Operator) (o : Option (List ℕ)) → has_region (archived_with es f s) o ≡ has_region s o
region_seen es f s None = refl
region_seen es f s (Some region) = refl

pub named_seen : (es : List Entry) (f : Front) (s : Operator) (kind : NameKind) (id : List ℕ) → has_named (archived_with es f s) kind id ≡ has_named s kind id
named_seen es f s named.System id = refl
named_seen es f s named.Station id = refl
named_seen es f s named.Type id = refl
named_seen es f s named.Plan id = refl
named_seen es f s named.Description id = refl
named_seen es f s named.Region id = refl

bike_seen : (es : List Entry) (f : Front) (s : Operator) (o : Option Rental) → bike_of (archived_with es f s) o ≡ bike_of s o
bike_seen es f s None = refl
bike_seen es f s (Some r) = refl

-- ---- what is seen of riders and rentals

-- nothing of a rental of this number goes
abbrev pub Stays : Front → Operator → ℕ → Type 0
Stays f s number = s.rentals.archived + f.rentals + 1 ≤ number

-- a number that doesn't go was archived before, or stays
pub stays_or_was : (f : Front) (s : Operator) (number : ℕ) → goes f s number ≡ false → (number ≤ s.rentals.archived) ⊎ Stays f s number
stays_or_was f s number e = elim (leb_tells (suc s.rentals.archived) number) [
  | inl w ↦ elim (leb_tells number (s.rentals.archived + f.rentals)) [
    | inl x ↦ (let here : goes f s number ≡ true = ap₂ (λ (a b : Bool). a && b) w.0 x.0 in absurd cc)
    | inr x ↦ inr (let h = x.1 in omega (arith, h))
  ]
  | inr w ↦ inl (let h = w.1 in omega (arith, h))
]

module _ (f : Front) (s : Operator) (may : MayArchive f s) (theirs : AreOfRiders s.riders (take f.entries s.entries.items)) where
  rider_seen : (rider : ℕ) → rider_view (archived f s) rider (finmap.get (archived f s).riders rider) ≡ rider_view s rider (finmap.get s.riders rider)
  rider_seen rider =
      ap (rider_view (archived f s) rider) (get_with (take f.entries s.entries.items) s.riders rider)
      ∙ go (finmap.get s.riders rider) (total_parts f.entries (share rider) s.entries.items)
    where
      go : (o : Option Rider) → balance_of rider s.entries.items ≡ balance_of rider (take f.entries s.entries.items) +ℤ balance_of rider (drop f.entries s.entries.items)
          → rider_view (archived f s) rider (option_map (with_before (take f.entries s.entries.items) rider) o) ≡ rider_view s rider o
      go None parts = refl
      go (Some r) parts =
          let sum : (r.before +ℤ balance_of rider (take f.entries s.entries.items)) +ℤ balance_of rider (drop f.entries s.entries.items) ≡ r.before +ℤ balance_of rider s.entries.items =
          omega (arith, ints, parts) in
          λ i. Some (record { is_blocked = r.is_blocked; plan = r.plan; balance = sum i })

  planned_seen : (number : ℕ) (r : Rental) → Stays f s number → (o : Option PlanRow) → planned_rental (archived f s) number r o ≡ planned_rental s number r o
  planned_seen number r stays None = refl
  planned_seen number r stays (Some plan) =
      let refunded = refunds_left f.entries (s.rentals.archived + f.rentals) number s.entries.items may.theirs stays in
      let balance = balance_left f s r.rider theirs in
      λ i. Some (record { number = number; rental = r; plan = plan; refunded = refunded i; balance = balance i })

  rental_seen : (number : ℕ) (o : Option Rental) → item_numbered number s.rentals ≡ o → (number ≤ s.rentals.archived) ⊎ Stays f s number
      → rental_view (archived f s) number o ≡ rental_view s number o
  rental_seen number None found which = refl
  rental_seen number (Some r) found (inl low) = let behind = number_behind number s.rentals r found in absurd (omega (arith, low, behind))
  rental_seen number (Some r) found (inr high) = planned_seen number r high (finmap.get s.plans r.plan)

  found_seen : (number : ℕ) → (number ≤ s.rentals.archived) ⊎ Stays f s number
      → rental_view (archived f s) number (item_numbered number (archived f s).rentals) ≡ rental_view s number (item_numbered number s.rentals)
  found_seen number which = ap (rental_view (archived f s) number) (found_left f.rentals number s.rentals which) ∙ rental_seen number (item_numbered number s.rentals) refl which

  -- the rental of a bicycle is open, so it stays
  held_seen : IsSound s → (bike : ℕ) (o : Option Bike) → finmap.get s.bikes bike ≡ o → rental_of (archived f s) o ≡ rental_of s o
  held_seen sound bike None found = refl
  held_seen sound bike (Some b) found = go b.place (sound.bikes.bikes bike b found).placed where
    go : (p : Place) → IsPlace s bike b.type_id p → rental_in (archived f s) p ≡ rental_in s p
    go (place.Dock station dock) placed = refl
    go (place.Truck truck order) placed = refl
    go place.Depot placed = refl
    go (place.Rental rental) placed = found_seen rental (inr (open_behind f.rentals rental s.rentals placed.row may.closed placed.found placed.not_closed))

  full_seen : has_full_ledger (archived f s) ≡ has_full_ledger s
  full_seen = ap₂ (λ (a b : ℕ). nat_le MOST_ENTRIES (a + b)) (last_left f.entries s.entries may.entries) (none_counted f.rentals is_open s.rentals.items may.closed)

  -- EACH COMMAND SEES WHAT IT SAW
  view_seen : IsSound s → (c : Command) → names_gone f s c ≡ false → view_of (archived f s) c ≡ view_of s c
  view_seen sound (command.AddRider rider) others =
      let there = there_with (take f.entries s.entries.items) s.riders rider in
      let all = len_with (take f.entries s.entries.items) s.riders in
      λ i. record empty_view { has_rider = there i; is_full = nat_le MOST_RIDERS (all i) }
  view_seen sound (command.SetRider rider blocked) others = let there = there_with (take f.entries s.entries.items) s.riders rider in λ i. record empty_view { has_rider = there i }
  view_seen sound (command.TopUp rider amount) others =
      let last = last_left f.entries s.entries may.entries in
      λ i. record empty_view { rider = rider_seen rider i; is_ledger_full = full_seen i; entries = last i }
  view_seen sound (command.Start rider station dock) others =
      let last = last_left f.rentals s.rentals may.rentals in
      let riding = none_rides f.rentals rider s.rentals.items may.closed in
      λ i. record (dock_seen (take f.entries s.entries.items) f s station dock i) { rider = rider_seen rider i; is_riding = riding i; is_ledger_full = full_seen i; rentals = last i }
  view_seen sound (command.End bike station dock) others =
      let last = last_left f.entries s.entries may.entries in
      let held = held_seen sound bike (finmap.get s.bikes bike) refl in
      λ i. record (dock_seen (take f.entries s.entries.items) f s station dock i) { bike = finmap.get s.bikes bike; rental = held i; entries = last i }
  view_seen sound (command.Recover rental) others =
      let last = last_left f.entries s.entries may.entries in
      let which = stays_or_was f s rental others in
      let seen = found_seen rental which in
      let bike = ap (bike_of (archived f s)) (found_left f.rentals rental s.rentals which) ∙ bike_seen (take f.entries s.entries.items) f s (item_numbered rental s.rentals) in
      λ i. record empty_view { rental = seen i; bike = bike i; entries = last i }
  view_seen sound (command.Refund rental amount) others =
      let last = last_left f.entries s.entries may.entries in
      let seen = found_seen rental (stays_or_was f s rental others) in
      λ i. record empty_view { rental = seen i; is_ledger_full = full_seen i; entries = last i }
  view_seen sound (command.MarkDock station dock broken) others = dock_seen (take f.entries s.entries.items) f s station dock
  view_seen sound (command.MarkBike bike disabled) others =
      let dock = broken_seen (take f.entries s.entries.items) f s (finmap.get s.bikes bike) in
      λ i. record empty_view { bike = finmap.get s.bikes bike; is_dock_broken = dock i }
  view_seen sound (command.OpenOrder truck from_end to_end type_id count) others =
      let from = ends_seen (take f.entries s.entries.items) f s from_end in
      let to = ends_seen (take f.entries s.entries.items) f s to_end in
      λ i. record (view_of s (command.OpenOrder truck from_end to_end type_id count)) { has_from = from i; has_to = to i }
  view_seen sound (command.Load truck order bike) others =
      let dock = broken_seen (take f.entries s.entries.items) f s (finmap.get s.bikes bike) in
      λ i. record (view_of s (command.Load truck order bike)) { is_dock_broken = dock i }
  view_seen sound (command.Unload truck order bike side dock) others =
      let seen = side_seen (take f.entries s.entries.items) f s (item_numbered order s.orders) side dock in
      λ i. record (seen i) { truck = (view_of s (command.Unload truck order bike side dock)).truck; order = item_numbered order s.orders; bike = finmap.get s.bikes bike }
  view_seen sound (command.SetRegion station region) others =
      let there = region_seen (take f.entries s.entries.items) f s region in
      λ i. record (view_of s (command.SetRegion station region)) { has_region = there i }
  view_seen sound (command.AddName kind id language name) others =
      let there = named_seen (take f.entries s.entries.items) f s kind id in
      λ i. record (view_of s (command.AddName kind id language name)) { has_named = there i }
  view_seen sound (command.SetName kind id language name) others =
      let there = named_seen (take f.entries s.entries.items) f s kind id in
      λ i. record (view_of s (command.SetName kind id language name)) { has_named = there i }
  view_seen sound (command.RemoveName kind id language) others =
      let there = named_seen (take f.entries s.entries.items) f s kind id in
      λ i. record (view_of s (command.RemoveName kind id language)) { has_named = there i }
  view_seen sound c others = refl

-- ---- what is done

entry_left : (es : List Entry) (f : Front) (x : Operator) (kind : EntryKind) (rider rental : ℕ) (amount : ℤ) (now : ℕ) → f.entries ≤ length x.entries.items
    → with_entry kind rider rental amount now (archived_with es f x) ≡ archived_with es f (with_entry kind rider rental amount now x)
entry_left es f x kind rider rental amount now room = λ i. record (archived_with es f x) { entries = same i } where
  entry : ℕ → Entry
  entry n = record { number = n + 1; kind = kind; rider = rider; rental = rental; amount = amount; at = now }

  same : with_item (entry (last_number (without f.entries x.entries))) (without f.entries x.entries) ≡ without f.entries (with_item (entry (last_number x.entries)) x.entries)
  same =
      ap (λ (n : ℕ). with_item (entry n) (without f.entries x.entries)) (last_left f.entries x.entries room)
      ∙ added_left f.entries x.entries (entry (last_number x.entries)) room

closed_left : (es : List Entry) (f : Front) (x : Operator) (number : ℕ) (to_station : Option (List ℕ)) (now : ℕ) (fare : ℤ) → Stays f x number
    → rental_closed number to_station now fare (archived_with es f x) ≡ archived_with es f (rental_closed number to_station now fare x)
closed_left es f x number to_station now fare stays =
    let same = changed_left f.rentals number (λ (r : Rental). record r { closing = Some (record { to_station = to_station; finish = now; fare = fare }) }) x.rentals stays in
    λ i. record (archived_with es f x) { rentals = same i }

fare_left : (es : List Entry) (f : Front) (x : Operator) (r : RentalView) (to_station : Option (List ℕ)) (now : ℕ) → Stays f x r.number → f.entries ≤ length x.entries.items
    → with_fare r to_station now (archived_with es f x) ≡ archived_with es f (with_fare r to_station now x)
fare_left es f x r to_station now stays room =
    ap (with_entry kind.Fare r.rental.rider r.number (fare_now r now) now) (closed_left es f x r.number to_station now (fare_now r now) stays)
    ∙ entry_left es f (rental_closed r.number to_station now (fare_now r now) x) kind.Fare r.rental.rider r.number (fare_now r now) now room

own_left : (es : List Entry) (s : Operator) (rider : ℕ) → own_plan (finmap.get (riders_with es s.riders) rider) ≡ own_plan (finmap.get s.riders rider)
own_left es s rider = ap own_plan (get_with es s.riders rider) ∙ go (finmap.get s.riders rider) where
  go : (o : Option Rider) → own_plan (option_map (with_before es rider) o) ≡ own_plan o
  go None = refl
  go (Some r) = refl

start_left : (es : List Entry) (f : Front) (s : Operator) (rider : ℕ) (station : List ℕ) (now : ℕ) (o : Option DockedBike) → f.rentals ≤ length s.rentals.items
    → after_start rider station now o (archived_with es f s) ≡ archived_with es f (after_start rider station now o s)
start_left es f s rider station now None room = refl
start_left es f s rider station now (Some b) room =
    ap₂ put (last_left f.rentals s.rentals room) (own_left es s rider)
    ∙ (λ i. with_report station now (bike_placed b.bike (place.Rental (last_number s.rentals + 1)) (record (archived_with es f s) { rentals = added i })))
  where
    rental : Option (List ℕ) → Rental
    rental own = record { rider = rider; bike = b.bike; plan = plan_for own b.plan; from_station = station; start = now; closing = None }

    put : ℕ → Option (List ℕ) → Operator
    put n own = with_report station now (bike_placed b.bike (place.Rental (n + 1)) (rental_added (rental own) (archived_with es f s)))

    added : with_item (rental (own_plan (finmap.get s.riders rider))) (without f.rentals s.rentals) ≡ without f.rentals (with_item (rental (own_plan (finmap.get s.riders rider))) s.rentals)
    added = added_left f.rentals s.rentals (rental (own_plan (finmap.get s.riders rider))) room

-- each rental that is seen stays
abbrev Remains : Front → Operator → Option RentalView → Type 0
Remains f s o = (r : RentalView) → o ≡ Some r → Stays f s r.number

end_left : (es : List Entry) (f : Front) (s : Operator) (bike : ℕ) (station : List ℕ) (dock now : ℕ) (o : Option RentalView) → Remains f s o → f.entries ≤ length s.entries.items
    → after_end bike station dock now o (archived_with es f s) ≡ archived_with es f (after_end bike station dock now o s)
end_left es f s bike station dock now None stays room = refl
end_left es f s bike station dock now (Some r) stays room =
    ap (λ (x : Operator). with_report station now (bike_placed bike (place.Dock station dock) x)) (fare_left es f s r (Some station) now (stays r refl) room)

recovery_left : (es : List Entry) (f : Front) (s : Operator) (now : ℕ) (o : Option RentalView) → Remains f s o → f.entries ≤ length s.entries.items
    → after_recovery now o (archived_with es f s) ≡ archived_with es f (after_recovery now o s)
recovery_left es f s now None stays room = refl
recovery_left es f s now (Some r) stays room =
    ap (λ (x : Operator). bike_marked r.rental.bike Disabled (bike_placed r.rental.bike place.Depot x)) (fare_left es f s r None now (stays r refl) room)

refund_left : (es : List Entry) (f : Front) (s : Operator) (amount now : ℕ) (o : Option RentalView) → f.entries ≤ length s.entries.items
    → refunded_by amount now o (archived_with es f s) ≡ archived_with es f (refunded_by amount now o s)
refund_left es f s amount now None room = refl
refund_left es f s amount now (Some r) room = entry_left es f s kind.Refund r.rental.rider r.number (pos amount) now room

bike_left : (es : List Entry) (f : Front) (x : Operator) (o : Option Bike) (now : ℕ) → bike_reported o now (archived_with es f x) ≡ archived_with es f (bike_reported o now x)
bike_left es f x None now = refl
bike_left es f x (Some b) now = go b.place where
  go : (p : Place) → place_reported p now (archived_with es f x) ≡ archived_with es f (place_reported p now x)
  go (place.Dock station dock) = refl
  go (place.Rental rental) = refl
  go (place.Truck truck order) = refl
  go place.Depot = refl

placed_left : (es : List Entry) (f : Front) (x : Operator) (bike : ℕ) (e : OrderEnd) (dock now : ℕ)
    → placed_at_end bike e dock now (archived_with es f x) ≡ archived_with es f (placed_at_end bike e dock now x)
placed_left es f x bike end.Depot dock now = refl
placed_left es f x bike (end.Station station) dock now = refl

delivery_left : (es : List Entry) (f : Front) (x : Operator) (order : ℕ) (side : Side) → with_delivery order side (archived_with es f x) ≡ archived_with es f (with_delivery order side x)
delivery_left es f x order From = refl
delivery_left es f x order To = refl

unload_left : (es : List Entry) (f : Front) (x : Operator) (order bike : ℕ) (side : Side) (dock now : ℕ) (o : Option Order)
    → after_unload order bike side dock now o (archived_with es f x) ≡ archived_with es f (after_unload order bike side dock now o x)
unload_left es f x order bike side dock now None = refl
unload_left es f x order bike side dock now (Some o) =
    ap (with_delivery order side) (placed_left es f x bike (end_at side o) dock now) ∙ delivery_left es f (placed_at_end bike (end_at side o) dock now x) order side

own_name_left : (es : List Entry) (f : Front) (x : Operator) (kind : NameKind) (id name : List ℕ)
    → own_name_set kind id name (archived_with es f x) ≡ archived_with es f (own_name_set kind id name x)
own_name_left es f x named.System id name = refl
own_name_left es f x named.Station id name = refl
own_name_left es f x named.Type id name = refl
own_name_left es f x named.Plan id name = refl
own_name_left es f x named.Description id name = refl
own_name_left es f x named.Region id name = refl

name_left : (es : List Entry) (f : Front) (x : Operator) (kind : NameKind) (id language name : List ℕ)
    → name_set kind id language name (archived_with es f x) ≡ archived_with es f (name_set kind id language name x)
name_left es f x kind id language name = go (is_own_language x.system language) where
  go : (own : Bool) → cond own (own_name_set kind id name (archived_with es f x)) (further_name_set kind id language name (archived_with es f x))
      ≡ archived_with es f (cond own (own_name_set kind id name x) (further_name_set kind id language name x))
  go true = own_name_left es f x kind id name
  go false = refl

-- an open rental stays, and so does one that is found by a number that doesn't go
held_remains : (f : Front) (s : Operator) (bike : ℕ) → IsSound s → MayArchive f s → Remains f s (rental_of s (finmap.get s.bikes bike))
held_remains f s bike sound may r is =
    let held = rental_is s bike (finmap.get s.bikes bike) r sound.bikes refl is in open_behind f.rentals r.number s.rentals r.rental may.closed held.view.found held.not_closed

found_remains : (f : Front) (s : Operator) (rental : ℕ) → goes f s rental ≡ false → Remains f s (rental_view s rental (item_numbered rental s.rentals))
found_remains f s rental others r is =
    let v = view_is s rental (item_numbered rental s.rentals) r refl is in
    let number = view_number s rental (item_numbered rental s.rentals) r is in
    let behind = number_behind r.number s.rentals r.rental v.found in
    elim (stays_or_was f s rental others) [ inl low ↦ absurd (omega (arith, low, number, behind)) | inr high ↦ omega (arith, high, number) ]

module _ (f : Front) (s : Operator) (now : ℕ) (sound : IsSound s) (may : MayArchive f s) where
  theirs : AreOfRiders s.riders (take f.entries s.entries.items)
  theirs = of_riders f.entries s sound

  -- EACH COMMAND DOES WHAT IT DID
  effect_left : (c : Command) → names_gone f s c ≡ false → refusal_of s c ≡ None → effect (archived f s) now c ≡ archived_with (take f.entries s.entries.items) f (effect s now c)
  effect_left (command.AddRider rider) others none =
      let free = none_holds (tests (view_of s (command.AddRider rider)) (command.AddRider rider)) none in
      let riders = added_with (take f.entries s.entries.items) s.riders rider new_rider (theirs rider (none_of (finmap.get s.riders rider) free.0)) refl in
      λ i. record (archived f s) { riders = riders i }
  effect_left (command.SetRider rider blocked) others none =
      let riders = changed_with (take f.entries s.entries.items) s.riders rider (λ (r : Rider). record r { is_blocked = blocked }) (λ r. refl) in
      λ i. record (archived f s) { riders = riders i }
  effect_left (command.TopUp rider amount) others none = entry_left (take f.entries s.entries.items) f s kind.TopUp rider 0 (pos amount) now may.entries
  effect_left (command.Start rider station dock) others none =
      ap (λ (o : Option DockedBike). after_start rider station now o (archived f s)) (docked_seen (take f.entries s.entries.items) f s (docked_at s station dock))
      ∙ start_left (take f.entries s.entries.items) f s rider station now (docked_view s (docked_at s station dock)) may.rentals
  effect_left (command.End bike station dock) others none =
      ap (λ (o : Option RentalView). after_end bike station dock now o (archived f s)) (held_seen f s may theirs sound bike (finmap.get s.bikes bike) refl)
      ∙ end_left (take f.entries s.entries.items) f s bike station dock now (rental_of s (finmap.get s.bikes bike)) (held_remains f s bike sound may) may.entries
  effect_left (command.Recover rental) others none =
      ap (λ (o : Option RentalView). after_recovery now o (archived f s)) (found_seen f s may theirs rental (stays_or_was f s rental others))
      ∙ recovery_left (take f.entries s.entries.items) f s now (rental_view s rental (item_numbered rental s.rentals)) (found_remains f s rental others) may.entries
  effect_left (command.Refund rental amount) others none =
      ap (λ (o : Option RentalView). refunded_by amount now o (archived f s)) (found_seen f s may theirs rental (stays_or_was f s rental others))
      ∙ refund_left (take f.entries s.entries.items) f s amount now (rental_view s rental (item_numbered rental s.rentals)) may.entries
  effect_left (command.MarkBike bike disabled) others none = bike_left (take f.entries s.entries.items) f (bike_marked bike (if disabled then Disabled else Fit) s) (finmap.get s.bikes bike) now
  effect_left (command.Load truck order bike) others none = bike_left (take f.entries s.entries.items) f (bike_placed bike (place.Truck truck order) s) (finmap.get s.bikes bike) now
  effect_left (command.Unload truck order bike side dock) others none = unload_left (take f.entries s.entries.items) f s order bike side dock now (item_numbered order s.orders)
  effect_left (command.SetName kind id language name) others none = name_left (take f.entries s.entries.items) f s kind id language name
  effect_left c others none = refl

-- ---- what goes stays the front

record Grows (f : Front) (s x : Operator) : Type 0 where
  entries : take f.entries x.entries.items ≡ take f.entries s.entries.items
  entries_there : f.entries ≤ length x.entries.items
  rentals : take f.rentals x.rentals.items ≡ take f.rentals s.rentals.items
  rentals_there : f.rentals ≤ length x.rentals.items
  archived : x.rentals.archived ≡ s.rentals.archived

as_it_was : (f : Front) (s x : Operator) → MayArchive f s → x.rentals ≡ s.rentals → x.entries ≡ s.entries → Grows f s x
as_it_was f s x may rentals entries = record {
  entries = ap (λ (l : Numbered Entry). take f.entries l.items) entries;
  entries_there = subst (λ (l : Numbered Entry). f.entries ≤ length l.items) (sym entries) may.entries;
  rentals = ap (λ (l : Numbered Rental). take f.rentals l.items) rentals;
  rentals_there = subst (λ (l : Numbered Rental). f.rentals ≤ length l.items) (sym rentals) may.rentals;
  archived = ap (λ (l : Numbered Rental). l.archived) rentals;
}

longer : {A : Type 0} (n : ℕ) (xs : List A) (x : A) → n ≤ length xs → n ≤ length (xs ++ x ∷ [])
longer n xs x h = let e = length-append xs (x ∷ []) in omega (arith, h, e)

with_one_entry : (f : Front) (s x y : Operator) (e : Entry) → Grows f s x → y.rentals ≡ x.rentals → y.entries ≡ with_item e x.entries → Grows f s y
with_one_entry f s x y e g rentals entries = record {
  entries = ap (λ (l : Numbered Entry). take f.entries l.items) entries ∙ take_front f.entries x.entries.items (e ∷ []) g.entries_there ∙ g.entries;
  entries_there = subst (λ (l : Numbered Entry). f.entries ≤ length l.items) (sym entries) (longer f.entries x.entries.items e g.entries_there);
  rentals = ap (λ (l : Numbered Rental). take f.rentals l.items) rentals ∙ g.rentals;
  rentals_there = subst (λ (l : Numbered Rental). f.rentals ≤ length l.items) (sym rentals) g.rentals_there;
  archived = ap (λ (l : Numbered Rental). l.archived) rentals ∙ g.archived;
}

with_one_closed : (f : Front) (s : Operator) (number : ℕ) (to_station : Option (List ℕ)) (now : ℕ) (fare : ℤ) → MayArchive f s → Stays f s number
    → Grows f s (rental_closed number to_station now fare s)
with_one_closed f s number to_station now fare may stays =
    let closes : Rental → Rental = λ r. record r { closing = Some (record { to_station = to_station; finish = now; fare = fare }) } in
    let last = last_changed number closes s.rentals in
    let room = may.rentals in
    record {
      entries = refl;
      entries_there = may.entries;
      rentals = front_stays f.rentals number closes s.rentals stays;
      rentals_there = omega (arith, last, room);
      archived = refl;
    }

charged_grows : (f : Front) (s x : Operator) (r : RentalView) (to_station : Option (List ℕ)) (now : ℕ) → MayArchive f s → Stays f s r.number
    → x.rentals ≡ (with_fare r to_station now s).rentals → x.entries ≡ (with_fare r to_station now s).entries → Grows f s x
charged_grows f s x r to_station now may stays rentals entries =
    with_one_entry f s (rental_closed r.number to_station now (fare_now r now) s) x
    (record { number = last_number s.entries + 1; kind = kind.Fare; rider = r.rental.rider; rental = r.number; amount = fare_now r now; at = now })
    (with_one_closed f s r.number to_station now (fare_now r now) may stays) rentals entries

effect_grows : (f : Front) (s : Operator) (now : ℕ) (c : Command) → IsSound s → MayArchive f s → names_gone f s c ≡ false → refusal_of s c ≡ None → Grows f s (effect s now c)
effect_grows f s now (command.TopUp rider amount) sound may others none =
    with_one_entry f s s (effect s now (command.TopUp rider amount)) (record { number = last_number s.entries + 1; kind = kind.TopUp; rider = rider; rental = 0; amount = pos amount; at = now })
    (as_it_was f s s may refl refl) refl refl
effect_grows f s now (command.Start rider station dock) sound may others none = go (docked_view s (docked_at s station dock)) where
  go : (o : Option DockedBike) → Grows f s (after_start rider station now o s)
  go None = as_it_was f s s may refl refl
  go (Some b) = record {
    entries = refl;
    entries_there = may.entries;
    rentals = take_front f.rentals s.rentals.items _ may.rentals;
    rentals_there = longer f.rentals s.rentals.items _ may.rentals;
    archived = refl;
  }
effect_grows f s now (command.End bike station dock) sound may others none = go (rental_of s (finmap.get s.bikes bike)) (held_remains f s bike sound may) where
  go : (o : Option RentalView) → Remains f s o → Grows f s (after_end bike station dock now o s)
  go None stays = as_it_was f s s may refl refl
  go (Some r) stays = charged_grows f s (after_end bike station dock now (Some r) s) r (Some station) now may (stays r refl) refl refl
effect_grows f s now (command.Recover rental) sound may others none = go (rental_view s rental (item_numbered rental s.rentals)) (found_remains f s rental others) where
  go : (o : Option RentalView) → Remains f s o → Grows f s (after_recovery now o s)
  go None stays = as_it_was f s s may refl refl
  go (Some r) stays = charged_grows f s (after_recovery now (Some r) s) r None now may (stays r refl) refl refl
effect_grows f s now (command.Refund rental amount) sound may others none = go (rental_view s rental (item_numbered rental s.rentals)) where
  go : (o : Option RentalView) → Grows f s (refunded_by amount now o s)
  go None = as_it_was f s s may refl refl
  go (Some r) =
      with_one_entry f s s (refunded_by amount now (Some r) s)
      (record { number = last_number s.entries + 1; kind = kind.Refund; rider = r.rental.rider; rental = r.number; amount = pos amount; at = now }) (as_it_was f s s may refl refl) refl refl
effect_grows f s now c sound may others none = let q = quiet_kind s now c refl none in as_it_was f s (effect s now c) may q.rentals q.entries

-- ---- what is answered

-- each rider has the balance that the rider had
abbrev SameBalances : Operator → Operator → Type 0
SameBalances x y = (rider : ℕ) → rider_balance x rider ≡ rider_balance y rider

ended_left : (s here there : Operator) (now : ℕ) (o : Option RentalView) → SameBalances here there → ended_reply s now o here ≡ ended_reply s now o there
ended_left s here there now None same = refl
ended_left s here there now (Some r) same = ap (Ended (fare_now r now)) (same r.rental.rider)

refunded_left : (here there : Operator) (o : Option RentalView) → SameBalances here there → refunded_reply o here ≡ refunded_reply o there
refunded_left here there None same = refl
refunded_left here there (Some r) same = ap Balance (same r.rental.rider)

started_left : (es : List Entry) (f : Front) (s : Operator) (o : Option DockedBike) → f.rentals ≤ length s.rentals.items → started_reply (archived_with es f s) o ≡ started_reply s o
started_left es f s None room = refl
started_left es f s (Some b) room = ap (λ (n : ℕ). Started (n + 1) b.bike) (last_left f.rentals s.rentals room)

module _ (f : Front) (s : Operator) (now : ℕ) (sound : IsSound s) (may : MayArchive f s) where
  balances_next : (c : Command) → names_gone f s c ≡ false → refusal_of s c ≡ None → AreOfRiders (effect s now c).riders (take f.entries (effect s now c).entries.items)
      → SameBalances (effect (archived f s) now c) (effect s now c)
  balances_next c others none next rider =
      ap (λ (x : Operator). rider_balance x rider) (effect_left f s now sound may c others none)
      ∙ ap (λ (es : List Entry). rider_balance (archived_with es f (effect s now c)) rider) (sym (effect_grows f s now c sound may others none).entries)
      ∙ balance_left f (effect s now c) rider next

  -- EACH COMMAND IS ANSWERED AS IT WAS
  reply_left : (c : Command) → names_gone f s c ≡ false → refusal_of s c ≡ None → AreOfRiders (effect s now c).riders (take f.entries (effect s now c).entries.items)
      → reply_of (archived f s) now c ≡ reply_of s now c
  reply_left (command.TopUp rider amount) others none next = ap Balance (balances_next (command.TopUp rider amount) others none next rider)
  reply_left (command.Start rider station dock) others none next =
      ap (started_reply (archived f s)) (docked_seen (take f.entries s.entries.items) f s (docked_at s station dock))
      ∙ started_left (take f.entries s.entries.items) f s (docked_view s (docked_at s station dock)) may.rentals
  reply_left (command.End bike station dock) others none next =
      ap (λ (o : Option RentalView). ended_reply (archived f s) now o (effect (archived f s) now (command.End bike station dock)))
      (held_seen f s may (of_riders f.entries s sound) sound bike (finmap.get s.bikes bike) refl)
      ∙ answered (rental_of s (finmap.get s.bikes bike))
    where
      answered : (o : Option RentalView)
          → ended_reply (archived f s) now o (effect (archived f s) now (command.End bike station dock)) ≡ ended_reply s now o (effect s now (command.End bike station dock))
      answered None = refl
      answered (Some r) = ap (Ended (fare_now r now)) (balances_next (command.End bike station dock) others none next r.rental.rider)
  reply_left (command.Recover rental) others none next =
      ap (λ (o : Option RentalView). ended_reply (archived f s) now o (effect (archived f s) now (command.Recover rental)))
      (found_seen f s may (of_riders f.entries s sound) rental (stays_or_was f s rental others))
      ∙ answered (rental_view s rental (item_numbered rental s.rentals))
    where
      answered : (o : Option RentalView) → ended_reply (archived f s) now o (effect (archived f s) now (command.Recover rental)) ≡ ended_reply s now o (effect s now (command.Recover rental))
      answered None = refl
      answered (Some r) = ap (Ended (fare_now r now)) (balances_next (command.Recover rental) others none next r.rental.rider)
  reply_left (command.Refund rental amount) others none next =
      ap (λ (o : Option RentalView). refunded_reply o (effect (archived f s) now (command.Refund rental amount)))
      (found_seen f s may (of_riders f.entries s sound) rental (stays_or_was f s rental others))
      ∙ refunded_left (effect (archived f s) now (command.Refund rental amount)) (effect s now (command.Refund rental amount)) (rental_view s rental (item_numbered rental s.rentals))
      (balances_next (command.Refund rental amount) others none next)
  reply_left c others none next = refl

-- ---- a step

-- what came to here comes to there without the front, which is still there to archive
record IsLeft (f : Front) (s : Operator) (here there : Reply × Operator) : Type 0 where
  same : here ≡ (there.0, archived f there.1)
  may : MayArchive f there.1
  requests : take f.requests there.1.history.items ≡ take f.requests s.history.items
  archived_before : there.1.rentals.archived ≡ s.rentals.archived

unchanged_left : (f : Front) (s : Operator) (reply : Reply) → MayArchive f s → IsLeft f s (reply, archived f s) (reply, s)
unchanged_left f s reply may = record { same = refl; may = may; requests = refl; archived_before = refl }

accepted_left : (f : Front) (s : Operator) (now : ℕ) (q : Request) → IsSound s → MayArchive f s → names_gone f s q.command ≡ false → refusal_of s q.command ≡ None
    → IsSound (after_acceptance s now q)
    → IsLeft f s (reply_of (archived f s) now q.command, after_acceptance (archived f s) now q) (reply_of s now q.command, after_acceptance s now q)
accepted_left f s now q sound may others none next =
    let grows = effect_grows f s now q.command sound may others none in
    record {
      same = λ i. (reply i, (left ∙ front) i);
      may = record {
        requests = longer f.requests s.history.items _ may.requests;
        entries = grows.entries_there;
        rentals = grows.rentals_there;
        closed = ap (list_any is_open) grows.rentals ∙ may.closed;
        theirs = ap₂ (λ (a : ℕ) (es : List Entry). list_all (λ (e : Entry). nat_le e.rental (a + f.rentals)) es) grows.archived grows.entries ∙ may.theirs;
      };
      requests = take_front f.requests s.history.items _ may.requests;
      archived_before = grows.archived;
    }
  where
    reply : reply_of (archived f s) now q.command ≡ reply_of s now q.command
    reply = reply_left f s now sound may q.command others none (of_riders f.entries (after_acceptance s now q) next)

    kept : Reply → AcceptedRequest
    kept r = record { moment = now; request = q; reply = r }

    history : with_item (kept (reply_of (archived f s) now q.command)) (without f.requests s.history) ≡ without f.requests (with_item (kept (reply_of s now q.command)) s.history)
    history = ap (λ (r : Reply). with_item (kept r) (without f.requests s.history)) reply ∙ added_left f.requests s.history (kept (reply_of s now q.command)) may.requests

    left : after_acceptance (archived f s) now q ≡ archived_with (take f.entries s.entries.items) f (after_acceptance s now q)
    left = λ i. record (effect_left f s now sound may q.command others none i) { now = now; history = history i }

    front : archived_with (take f.entries s.entries.items) f (after_acceptance s now q) ≡ archived f (after_acceptance s now q)
    front = ap (λ (es : List Entry). archived_with es f (after_acceptance s now q)) (sym (effect_grows f s now q.command sound may others none).entries)

decided_left : (f : Front) (s : Operator) (t : ℕ) (q : Request) (o : Option Refusal) → t ≤ last_moment → IsRequest q → IsSound s → MayArchive f s → names_gone f s q.command ≡ false
    → kept_under (key_in q) s.history.items ≡ None → refusal_of s q.command ≡ o → IsLeft f s (outcome (archived f s) (max t s.now) q o) (outcome s (max t s.now) q o)
decided_left f s t q (Some r) moment good sound may others anew e = unchanged_left f s (Refused r) may
decided_left f s t q None moment good sound may others anew e =
    let last = sound.now in
    accepted_left f s (max t s.now) q sound may others e (accepted_sound s (max t s.now) q sound good anew e (omega arith) (omega (arith, moment, last)))

answered_left : (f : Front) (s : Operator) (t : ℕ) (q : Request) (o : Option AcceptedRequest) → t ≤ last_moment → IsRequest q → IsSound s → MayArchive f s → names_gone f s q.command ≡ false
    → kept_under (key_in q) s.history.items ≡ o → IsLeft f s (outcome_with_kept (archived f s) t q o) (outcome_with_kept s t q o)
answered_left f s t q (Some a) moment good sound may others e = unchanged_left f s (if is_same a.request.command q.command then a.reply else Refused refusal.KeyReused) may
answered_left f s t q None moment good sound may others e =
    let seen = view_seen f s may (of_riders f.entries s sound) sound q.command others in
    let decides = decided_left f s t q (refusal_of s q.command) moment good sound may others e refl in
    record {
      same = ap (λ (v : View). outcome (archived f s) (max t s.now) q (first (tests v q.command))) seen ∙ decides.same;
      may = decides.may;
      requests = decides.requests;
      archived_before = decides.archived_before;
    }

step_left : (f : Front) (s : Operator) (t : ℕ) (q : Request) → t ≤ last_moment → IsRequest q → IsSound s → MayArchive f s → IsOther f s q → IsLeft f s (step (archived f s) t q) (step s t q)
step_left f s t q moment good sound may other =
    let answers = answered_left f s t q (kept_under (key_in q) s.history.items) moment good sound may other.names_others refl in
    record {
      same = ap (outcome_with_kept (archived f s) t q) (kept_left f.requests (key_in q) s.history.items other.anew) ∙ answers.same;
      may = answers.may;
      requests = answers.requests;
      archived_before = answers.archived_before;
    }

-- ---- lists

others_still : (f : Front) (s next : Operator) (cs : List Call) → take f.requests next.history.items ≡ take f.requests s.history.items → next.rentals.archived ≡ s.rentals.archived
    → AreOthers f s cs → AreOthers f next cs
others_still f s next [] requests archived_before others = tt
others_still f s next (c ∷ cs) requests archived_before others = (
  record { anew = ap (kept_under (key_in c.1)) requests ∙ others.0.anew; names_others = named c.1.command ∙ others.0.names_others },
  others_still f s next cs requests archived_before others.1,
) where
  named : (c : Command) → names_gone f next c ≡ names_gone f s c
  named (command.Recover rental) = ap (λ (a : ℕ). nat_lt a rental && nat_le rental (a + f.rentals)) archived_before
  named (command.Refund rental amount) = ap (λ (a : ℕ). nat_lt a rental && nat_le rental (a + f.rentals)) archived_before
  named c = refl

-- ARCHIVING SHOWS NOTHING
pub nothing_shown : (f : Front) (s : Operator) (cs : List Call) → IsSound s → MayArchive f s → AreCalls cs → AreOthers f s cs → ShowsNothing f s cs
nothing_shown f s [] sound may good others = record { operator = refl; answers = refl }
nothing_shown f s (c ∷ cs) sound may good others =
    let left = step_left f s c.0 c.1 good.0.moment good.0.request sound may others.0 in
    let rest = nothing_shown f (step s c.0 c.1).1 cs (step_sound s c.0 c.1 good.0.moment good.0.request sound) left.may good.1
    (others_still f s (step s c.0 c.1).1 cs left.requests left.archived_before others.1) in
    record {
      operator = ap (λ (x : Reply × Operator). after x.1 cs) left.same ∙ rest.operator;
      answers = ap (λ (x : Reply × Operator). x.0 ∷ replies x.1 cs) left.same ∙ ap (λ (rs : List Reply). (step s c.0 c.1).0 ∷ rs) rest.answers;
    }

pub sums_kept : (f : Front) (s : Operator) → IsSound s → MayArchive f s → KeepsSums f s
sums_kept f s sound may = record {
  balances = λ rider. balance_left f s rider (of_riders f.entries s sound);
  cash = (let parts = total_parts f.entries (λ (e : Entry). cash_in e.kind e.amount) s.entries.items in omega (arith, ints, parts));
  revenue = (let parts = total_parts f.entries (λ (e : Entry). revenue_in e.kind e.amount) s.entries.items in omega (arith, ints, parts));
}
