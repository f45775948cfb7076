-- A sound operator of which a front is archived is sound.
use Rattle.std.proofs.Common.{◌≡◌, ◌⊎◌, inl, inr, ℕ, ℤ, zero, suc, pos, neg_ℤ, ◌+◌, ◌≤◌, ◌+ℤ◌, ◌*ℤ◌, ◌≤ℤ◌, List, [], ◌∷◌, length, take, drop, Bool, true, false, cond, eqb, leb, Option}
use Rattle.std.proofs.Common.{Some, None, refl, sym, ap, ap₂, ◌∙◌, subst, arith}
use Rattle.std.specs.Prelude.{◌&&◌, map, filter, option_map, is_some, nat_le}
use Rattle.std.specs.List.{list_any, list_all}
use Rattle.std.specs.FinMap as finmap
use Rattle.std.proofs.lemmas.Int.{ints}
use Rattle.std.proofs.lemmas.Bool.Decides.{leb_tells}
use Rattle.std.proofs.lemmas.Option.{same_Some}
use Rattle.bike_ledger.specs.Entries.{Entry, greatest_amount}
use Rattle.bike_ledger.specs.declared.entry.EntryKind.{EntryKind}
use Rattle.bike_ledger.specs.declared.entry.EntryKind.TheVariants.{TopUp, Fare, Refund, Withdrawal, Charge, Credit}
use Rattle.bike_ledger.specs.Ledger.{IsAmount, AreAmounts, total, balance_of, refunded_of, cash_in, cash_of, revenue_in, revenue_of}
use Rattle.bike_ledger.specs.Money.{balances}
use Rattle.bike_ledger.proofs.SumLemmas.{conserved}
use Rattle.bike_operator.specs.declared.records.Place.{Place}
use Rattle.bike_operator.specs.declared.records.Place.TheVariants as place
use Rattle.bike_operator.specs.declared.records.Bike.{Bike}
use Rattle.bike_operator.specs.declared.records.Rental.{Rental}
use Rattle.bike_operator.specs.declared.records.Closing.{Closing}
use Rattle.bike_operator.specs.Operator.{Operator, Rider, Numbered, AcceptedRequest, item_at, item_numbered, last_number}
use Rattle.bike_operator.specs.Counts.{is_open, open_rentals}
use Rattle.bike_operator.specs.Sound.{HasDock, IsPlace, IsStop, IsOpenOrClosed, IsSumOf, IsPlanOrNone, IsRiderAt, IsPast, IsOfRental, IsBooking, IsRentalAt, IsEntryAt, befores, is_fare}
use Rattle.bike_operator.specs.Sound.{fares_of, most_refunded}
use Rattle.bike_operator.specs.Sound.{IsCatalogueSound, AreNamesSound, AreBikesSound, AreOrdersSound, AreRentalsSound, IsLedgerSound, IsHistory, IsSound}
use Rattle.bike_laws.specs.Archiving.{Front, MayArchive, without, rider_with, riders_with, archived}
use Rattle.bike_laws.proofs.SingleSteps.ItemLemmas.{number_of_place, number_behind}
use Rattle.bike_laws.proofs.FoundLemmas.{both_true}
use Rattle.bike_laws.proofs.EntryLemmas.{amounts_of, balance_within, both_sums, other_number}
use Rattle.bike_laws.proofs.MoneyLemmas.{distinct, known_riders}
use Rattle.bike_laws.proofs.FrontLemmas.{last_left, found_left, none_counted, open_behind, refunds_left}
use Rattle.bike_laws.proofs.ArchivedRiders.{with_before, get_with, there_with, len_with, entries_with, front_item}
use Rattle.bike_laws.proofs.ArchivingLaw.{region_seen, named_seen, ends_seen}

-- ---- lists

-- what is found of what is left stands behind the front, and was found there
left_found : {A : Type 0} (n number : ℕ) (l : Numbered A) (x : A) → item_numbered number (without n l) ≡ Some x → (l.archived + n + 1 ≤ number) × (item_numbered number l ≡ Some x)
left_found n number l x h = let behind = number_behind number (without n l) x h in (behind, sym (found_left n number l (inr behind)) ∙ h)

-- fares of a rental that stays stay with it
fares_left : (n last number : ℕ) (es : List Entry) → list_all (λ (e : Entry). leb e.rental last) (take n es) ≡ true → last + 1 ≤ number → fares_of number (drop n es) ≡ fares_of number es
fares_left zero last number es theirs behind = refl
fares_left (suc n) last number [] theirs behind = refl
fares_left (suc n) last number (e ∷ es) theirs behind =
    let parts = both_true (leb e.rental last) (list_all (λ (x : Entry). leb x.rental last) (take n es)) theirs in
    fares_left n last number es parts.1 behind ∙ sym (none (is_fare e.kind) (eqb e.rental number) (apart parts.0))
  where
    apart : leb e.rental last ≡ true → eqb e.rental number ≡ false
    apart low = other_number e.rental number (λ same. elim (leb_tells e.rental last) [
      | inl w ↦ (let le = w.1 in omega (arith, le, same, behind))
      | inr w ↦ cc
    ])

    none : (a b : Bool) → b ≡ false
        → map (λ (x : Entry). x.amount) (cond (a && b) (e ∷ filter (λ (x : Entry). is_fare x.kind && eqb x.rental number) es) (filter (λ (x : Entry). is_fare x.kind && eqb x.rental number) es))
        ≡ fares_of number es
    none true true is = absurd cc
    none true false is = refl
    none false b is = refl

front_amounts : (n : ℕ) (es : List Entry) → AreAmounts es → AreAmounts (take n es)
front_amounts zero es are = tt
front_amounts (suc n) [] are = tt
front_amounts (suc n) (e ∷ es) are = (are.0, front_amounts n es are.1)

front_length : {A : Type 0} (n : ℕ) (xs : List A) → n ≤ length xs → length (take n xs) ≡ n
front_length zero xs h = refl
front_length (suc n) [] h = absurd (omega (arith, h))
front_length (suc n) (x ∷ xs) h = ap suc (front_length n xs (omega (arith, h)))

-- ---- sums of what goes

-- what one entry adds to a sum
record IsPart (z : ℤ) : Type 0 where
  low : neg_ℤ greatest_amount ≤ℤ z
  high : z ≤ℤ greatest_amount

none_part : IsPart (pos 0)
none_part = record { low = omega (arith, ints); high = omega (arith, ints) }

paid_in : (z : ℤ) → IsAmount z → IsPart z
paid_in z is = let low = is.low in let high = is.high in record { low = omega (arith, ints, low); high = omega (arith, ints, high) }

paid_out : (z : ℤ) → IsAmount z → IsPart (neg_ℤ z)
paid_out z is = let low = is.low in let high = is.high in record { low = omega (arith, ints, high); high = omega (arith, ints, low) }

cash_part : (k : EntryKind) (z : ℤ) → IsAmount z → IsPart (cash_in k z)
cash_part TopUp z is = paid_in z is
cash_part Fare z is = none_part
cash_part Refund z is = none_part
cash_part Withdrawal z is = paid_out z is
cash_part Charge z is = none_part
cash_part Credit z is = none_part

revenue_part : (k : EntryKind) (z : ℤ) → IsAmount z → IsPart (revenue_in k z)
revenue_part TopUp z is = none_part
revenue_part Fare z is = paid_in z is
revenue_part Refund z is = paid_out z is
revenue_part Withdrawal z is = none_part
revenue_part Charge z is = paid_in z is
revenue_part Credit z is = paid_out z is

sum_within : (figure : EntryKind → ℤ → ℤ) → ((k : EntryKind) (z : ℤ) → IsAmount z → IsPart (figure k z)) → (es : List Entry) → AreAmounts es
    → IsSumOf (length es) (total (λ (e : Entry). figure e.kind e.amount) es)
sum_within figure parts [] are = record { low = omega (arith, ints); high = omega (arith, ints) }
sum_within figure parts (e ∷ es) are =
    let first = parts e.kind e.amount are.0 in
    let first_low = first.low in
    let first_high = first.high in
    let rest = sum_within figure parts es are.1 in
    let rest_low = rest.low in
    let rest_high = rest.high in
    record { low = omega (arith, ints, first_low, rest_low); high = omega (arith, ints, first_high, rest_high) }

-- what riders had, and what these entries come to for them
befores_with : (es : List Entry) (rs : List (ℕ × Rider)) → befores (map (rider_with es) rs) ≡ befores rs +ℤ balances (map (λ r. r.0) rs) es
befores_with es [] = refl
befores_with es (r ∷ rs) = let rest = befores_with es rs in omega (arith, ints, rest)

module _ (f : Front) (s : Operator) (sound : IsSound s) (may : MayArchive f s) where
  last_rental : last_number (archived f s).rentals ≡ last_number s.rentals
  last_rental = last_left f.rentals s.rentals may.rentals

  last_entry : last_number (archived f s).entries ≡ last_number s.entries
  last_entry = last_left f.entries s.entries may.entries

  open_left : open_rentals (archived f s) ≡ open_rentals s
  open_left = none_counted f.rentals is_open s.rentals.items may.closed

  there : (rider : ℕ) → finmap.contains_key s.riders rider ≡ true → finmap.contains_key (archived f s).riders rider ≡ true
  there rider is = there_with (take f.entries s.entries.items) s.riders rider ∙ is

  sums : (y z : ℤ) → IsSumOf s.entries.archived y → IsSumOf (length (take f.entries s.entries.items)) z → IsSumOf (s.entries.archived + f.entries) (y +ℤ z)
  sums y z one other = subst (λ (n : ℕ). IsSumOf (s.entries.archived + n) (y +ℤ z)) (front_length f.entries s.entries.items may.entries) (both_sums s.entries.archived (length (take f.entries s.entries.items)) y z one other)

  amounts : AreAmounts (take f.entries s.entries.items)
  amounts = front_amounts f.entries s.entries.items (amounts_of s sound.ledger)

  -- ---- the catalogue, names, bicycles and orders, which nothing of it touches

  catalogue_left : IsCatalogueSound (archived f s)
  catalogue_left =
      let was = sound.catalogue in
      record {
        system = was.system;
        plans = was.plans;
        types = λ id t i. let at = was.types id t i in record { id_is = at.id_is; good = at.good; plan = at.plan };
        regions = was.regions;
        stations = λ id x i. let at = was.stations id x i in record {
          id_is = at.id_is;
          good = at.good;
          by_now = at.by_now;
          region = region_seen (take f.entries s.entries.items) f s x.region ∙ at.region;
        };
        broken = λ key i. let at = was.broken key i in record {
          station = at.station;
          dock = at.dock;
          key_is = at.key_is;
          has = record { row = at.has.row; found = at.has.found; low = at.has.low; high = at.has.high };
        };
        few_plans = was.few_plans;
        few_types = was.few_types;
        few_regions = was.few_regions;
        few_stations = was.few_stations;
      }

  names_left : AreNamesSound (archived f s)
  names_left = record {
    names = λ key name i. let at = sound.names.names key name i in record {
      kind = at.kind;
      id = at.id;
      language = at.language;
      key_is = at.key_is;
      good_id = at.good_id;
      good = at.good;
      set = at.set;
      named = named_seen (take f.entries s.entries.items) f s at.kind at.id ∙ at.named;
      further = at.further;
    };
    few = sound.names.few;
  }

  place_left : (bike : ℕ) (type_id : List ℕ) (p : Place) → IsPlace s bike type_id p → IsPlace (archived f s) bike type_id p
  place_left bike type_id (place.Dock station dock) at = record { row = at.row; found = at.found; low = at.low; high = at.high }
  place_left bike type_id (place.Rental rental) at =
      let behind = open_behind f.rentals rental s.rentals at.row may.closed at.found at.not_closed in
      record { row = at.row; found = found_left f.rentals rental s.rentals (inr behind) ∙ at.found; not_closed = at.not_closed; bike_is = at.bike_is }
  place_left bike type_id (place.Truck truck order) at = record { row = at.row; found = at.found; not_closed = at.not_closed; truck_is = at.truck_is; type_is = at.type_is }
  place_left bike type_id place.Depot at = tt

  bikes_left : AreBikesSound (archived f s)
  bikes_left = record {
    bikes = λ number b i. let at = sound.bikes.bikes number b i in record {
      low = at.low;
      high = at.high;
      type_is = at.type_is;
      placed = place_left number b.type_id b.place at.placed;
      retired = at.retired;
    };
    apart = sound.bikes.apart;
    few = sound.bikes.few;
  }

  orders_left : AreOrdersSound (archived f s)
  orders_left = record {
    trucks = λ number t i. let at = sound.orders.trucks number t i in record { low = at.low; high = at.high; some = at.some; most = at.most; holds = at.holds };
    orders = λ number o i. let at = sound.orders.orders number o i in record {
      truck_is = record { row = at.truck_is.row; found = at.truck_is.found; enough = at.truck_is.enough };
      some = at.some;
      from_is = ends_seen (take f.entries s.entries.items) f s o.from_end ∙ at.from_is;
      to_is = ends_seen (take f.entries s.entries.items) f s o.to_end ∙ at.to_is;
      ends = at.ends;
      type_is = at.type_is;
      filled = at.filled;
    };
    few_trucks = sound.orders.few_trucks;
    few_orders = sound.orders.few_orders;
    all_orders = sound.orders.all_orders;
  }

  -- ---- rentals

  stop_left : (o : Option (List ℕ)) → IsStop s o → IsStop (archived f s) o
  stop_left None at = tt
  stop_left (Some station) at = at

  closing_left : (number : ℕ) (r : Rental) (o : Option Closing) → IsOpenOrClosed s number r o → IsOpenOrClosed (archived f s) number r o
  closing_left number r None at = record { row = at.row; found = at.found; place_is = at.place_is }
  closing_left number r (Some c) at = record { stop = stop_left c.to_station at.stop; after = at.after; by_now = at.by_now; low = at.low; high = at.high }

  rental_left : (number : ℕ) (r : Rental) → s.rentals.archived + f.rentals + 1 ≤ number → IsRentalAt s number r → IsRentalAt (archived f s) number r
  rental_left number r behind at = record {
    rider_is = there r.rider at.rider_is;
    bike_is = at.bike_is;
    plan_is = at.plan_is;
    from_is = at.from_is;
    by_now = at.by_now;
    closing = closing_left number r r.closing at.closing;
    booked = fares_left f.entries (s.rentals.archived + f.rentals) number s.entries.items may.theirs behind ∙ at.booked;
    refunded = subst (λ (z : ℤ). z ≤ℤ most_refunded r.closing) (sym (refunds_left f.entries (s.rentals.archived + f.rentals) number s.entries.items may.theirs behind)) at.refunded;
  }

  rentals_left : AreRentalsSound (archived f s)
  rentals_left =
      let few = sound.rentals.few_rentals in
      let rentals = last_rental in
      let entries = last_entry in
      let open_ones = open_left in
      record {
        rentals = λ number r i. let was = left_found f.rentals number s.rentals r i in rental_left number r was.0 (sound.rentals.rentals number r was.1);
        riding = λ a b q r i j. sound.rentals.riding a b q r (left_found f.rentals a s.rentals q i).1 (left_found f.rentals b s.rentals r j).1;
        few_rentals = omega (arith, few, rentals, entries, open_ones);
      }

  -- ---- riders and entries

  plan_left : (o : Option (List ℕ)) → IsPlanOrNone s o → IsPlanOrNone (archived f s) o
  plan_left None at = tt
  plan_left (Some plan) at = at

  rider_left : (number : ℕ) (r : Rider) (o : Option Rider) → finmap.get s.riders number ≡ o → option_map (with_before (take f.entries s.entries.items) number) o ≡ Some r
      → IsRiderAt (archived f s) number r
  rider_left number r None e is = absurd cc
  rider_left number r (Some was) e is =
      let at = sound.ledger.riders number was e in
      subst (IsRiderAt (archived f s) number) (same_Some (with_before (take f.entries s.entries.items) number was) r is) (record {
        low = at.low;
        high = at.high;
        plan = plan_left was.plan at.plan;
        before = sums was.before (balance_of number (take f.entries s.entries.items)) at.before (balance_within (take f.entries s.entries.items) number amounts);
      })

  of_rental_left : (e : Entry) → IsOfRental s e → IsOfRental (archived f s) e
  of_rental_left e (inl before) = inl (let high = before.high in record { low = before.low; high = omega (arith, high) })
  of_rental_left e (inr closed) = elim (leb_tells e.rental (s.rentals.archived + f.rentals)) [
    | inl w ↦ inl (let behind = number_behind e.rental s.rentals closed.row closed.found in record { low = omega (arith, behind); high = w.1 })
    | inr w ↦ inr (let behind = w.1 in record {
      row = closed.row;
      closing = closed.closing;
      found = found_left f.rentals e.rental s.rentals (inr (omega (arith, behind))) ∙ closed.found;
      closed = closed.closed;
      rider_is = closed.rider_is;
    })
  ]

  booking_left : (e : Entry) (k : EntryKind) → IsBooking s e k → IsBooking (archived f s) e k
  booking_left e TopUp b = b
  booking_left e Fare b = (of_rental_left e b.0, b.1, b.2)
  booking_left e Refund b = (of_rental_left e b.0, b.1)
  booking_left e Withdrawal b = b
  booking_left e Charge b = b
  booking_left e Credit b = b

  entry_stays : (number : ℕ) (e : Entry) → item_numbered number (archived f s).entries ≡ Some e → IsEntryAt (archived f s) number e
  entry_stays number e i =
      let at = sound.ledger.entries number e (left_found f.entries number s.entries e i).1 in
      record { number_is = at.number_is; rider_is = there e.rider at.rider_is; booking = booking_left e e.kind at.booking; by_now = at.by_now }

  past_left : IsPast (archived f s)
  past_left =
      let was = sound.ledger.past in
      let before = was.conserved in
      let known : (n : ℕ) (e : Entry) → item_at n (take f.entries s.entries.items) ≡ Some e
      → finmap.contains_key s.riders e.rider ≡ true = λ n e i. (sound.ledger.entries (s.entries.archived + suc n) e (number_of_place n s.entries e (front_item f.entries n s.entries.items e i))).rider_is in
      let goes = conserved (finmap.keys s.riders) (take f.entries s.entries.items) (distinct (finmap.entries s.riders) (finmap.entries_sorted s.riders))
      (known_riders s (take f.entries s.entries.items) known) in
      let both : befores (finmap.entries (archived f s).riders) ≡ befores (finmap.entries s.riders) +ℤ balances (finmap.keys s.riders) (take f.entries s.entries.items) =
      ap befores (entries_with (take f.entries s.entries.items) s.riders) ∙ befores_with (take f.entries s.entries.items) (finmap.entries s.riders) in
      record {
        cash = sums s.past.cash (cash_of (take f.entries s.entries.items)) was.cash (sum_within cash_in cash_part (take f.entries s.entries.items) amounts);
        revenue = sums s.past.revenue (revenue_of (take f.entries s.entries.items)) was.revenue (sum_within revenue_in revenue_part (take f.entries s.entries.items) amounts);
        conserved = omega (arith, ints, before, goes, both);
      }

  ledger_left : IsLedgerSound (archived f s)
  ledger_left =
      let few = sound.ledger.few_entries in
      let few_riders = sound.ledger.few_riders in
      let riders = len_with (take f.entries s.entries.items) s.riders in
      let entries = last_entry in
      let open_ones = open_left in
      record {
        riders = λ number r i. rider_left number r (finmap.get s.riders number) refl (sym (get_with (take f.entries s.entries.items) s.riders number) ∙ i);
        entries = entry_stays;
        past = past_left;
        few_riders = omega (arith, few_riders, riders);
        few_entries = omega (arith, few, entries, open_ones);
      }

  history_left : IsHistory s.now (archived f s).history
  history_left = record {
    requests = λ number a i. sound.history.requests number a (left_found f.requests number s.history a i).1;
    once = λ m n a b i j. sound.history.once m n a b (left_found f.requests m s.history a i).1 (left_found f.requests n s.history b j).1;
    in_order = λ m n a b i j. sound.history.in_order m n a b (left_found f.requests m s.history a i).1 (left_found f.requests n s.history b j).1;
  }

  -- THE OPERATOR THAT IS LEFT IS SOUND
  pub archived_sound : IsSound (archived f s)
  archived_sound = record {
    catalogue = catalogue_left;
    bikes = bikes_left;
    orders = orders_left;
    rentals = rentals_left;
    ledger = ledger_left;
    history = history_left;
    names = names_left;
    now = sound.now;
  }
