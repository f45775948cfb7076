-- Commands that touch neither rentals nor entries: no name is gone, and a bicycle in a rental stays in it.
use Rattle.std.proofs.Common.{◌≡◌, ℕ, List, Bool, true, false, cond, Option, Some, None, refl, sym, ap, ◌∙◌, subst}
use Rattle.std.specs.Prelude.{is_none, not, ◌&&◌}
use Rattle.std.specs.FinMap as finmap
use Rattle.std.specs.Cmp.{nat_cmp_total}
use Rattle.std.specs.Cmp.Lexicographic.{nat_list_cmp_total}
use Rattle.std.proofs.lemmas.Option.{same_Some}
use Rattle.bike_catalogue.specs.Rows.{PlanRow}
use Rattle.bike_fields.specs.declared.name_kind.NameKind.{NameKind}
use Rattle.bike_fields.specs.declared.name_kind.NameKind.TheVariants as named
use Rattle.bike_texts.specs.declared.ends.OrderEnd.{OrderEnd}
use Rattle.bike_texts.specs.declared.ends.OrderEnd.TheVariants as end
use Rattle.bike_texts.specs.declared.ends.Side.{Side}
use Rattle.bike_texts.specs.declared.ends.Side.TheVariants.{From, To}
use Rattle.bike_operator.specs.declared.records.BikeState.{BikeState}
use Rattle.bike_operator.specs.declared.records.Place.{Place}
use Rattle.bike_operator.specs.declared.records.Place.TheVariants as place
use Rattle.bike_operator.specs.declared.records.Bike.{Bike}
use Rattle.bike_operator.specs.declared.records.Order.{Order}
use Rattle.bike_operator.specs.Operator.{Operator, Station}
use Rattle.bike_operator.specs.Counts.{is_on_truck, is_for_order}
use Rattle.bike_operator.specs.View.{end_at}
use Rattle.bike_operator.specs.Steps.{on, is_at_end, is_elsewhere, is_not_loaded, key_changed, with_report, place_reported, bike_reported, bike_placed, bike_marked, placed_at_end, with_delivery}
use Rattle.bike_operator.specs.Steps.{after_unload, own_name_set, further_name_set}
use Rattle.bike_operator.specs.Sound.{IsOut}
use Rattle.bike_laws.proofs.SingleSteps.TestLemmas.{holds}
use Rattle.bike_laws.proofs.NameLemmas.{insert_keeps, changed_keeps, get_other, changed_found, changed_other, Either, either}
use Rattle.bike_laws.proofs.NameLemmas.Either.{Same, Other}

pub record IsQuiet (s x : Operator) : Type 0 where
  pub rentals : x.rentals ≡ s.rentals
  pub entries : x.entries ≡ s.entries
  pub past : x.past ≡ s.past
  pub riders : (id : ℕ) → finmap.contains_key s.riders id ≡ true → finmap.contains_key x.riders id ≡ true
  pub bikes : (id : ℕ) → finmap.contains_key s.bikes id ≡ true → finmap.contains_key x.bikes id ≡ true
  pub plans : (id : List ℕ) → finmap.contains_key s.plans id ≡ true → finmap.contains_key x.plans id ≡ true
  pub stations : (id : List ℕ) → finmap.contains_key s.stations id ≡ true → finmap.contains_key x.stations id ≡ true
  pub out : (number bike : ℕ) → IsOut s number bike → IsOut x number bike

-- nothing of all this is touched
pub quiet_fields : (s x : Operator) → x.rentals ≡ s.rentals → x.entries ≡ s.entries → x.past ≡ s.past → x.riders ≡ s.riders → x.bikes ≡ s.bikes → x.plans ≡ s.plans → x.stations ≡ s.stations → IsQuiet s x
quiet_fields s x rentals entries past riders bikes plans stations = record {
  rentals = rentals;
  entries = entries;
  past = past;
  riders = λ id h. ap (λ m. finmap.contains_key m id) riders ∙ h;
  bikes = λ id h. ap (λ m. finmap.contains_key m id) bikes ∙ h;
  plans = λ id h. ap (λ m. finmap.contains_key m id) plans ∙ h;
  stations = λ id h. ap (λ m. finmap.contains_key m id) stations ∙ h;
  out = λ number bike o. record { row = o.row; found = ap (λ m. finmap.get m bike) bikes ∙ o.found; place_is = o.place_is };
}

-- ---- plans and stations that change

quiet_plan : (s : Operator) (plan : List ℕ) (f : PlanRow → PlanRow) → IsQuiet s (record s { plans = key_changed s.plans plan f })
quiet_plan s plan f = record {
  rentals = refl;
  entries = refl;
  past = refl;
  riders = λ id h. h;
  bikes = λ id h. h;
  plans = λ id h. changed_keeps nat_list_cmp_total s.plans plan f id h;
  stations = λ id h. h;
  out = λ number bike o. record { row = o.row; found = o.found; place_is = o.place_is };
}

pub quiet_station : (s : Operator) (station : List ℕ) (f : Station → Station) → IsQuiet s (record s { stations = key_changed s.stations station f })
quiet_station s station f = record {
  rentals = refl;
  entries = refl;
  past = refl;
  riders = λ id h. h;
  bikes = λ id h. h;
  plans = λ id h. h;
  stations = λ id h. changed_keeps nat_list_cmp_total s.stations station f id h;
  out = λ number bike o. record { row = o.row; found = o.found; place_is = o.place_is };
}

quiet_own_name : (s : Operator) (kind : NameKind) (id name : List ℕ) → IsQuiet s (own_name_set kind id name s)
quiet_own_name s named.System id name = quiet_fields s (own_name_set named.System id name s) refl refl refl refl refl refl refl
quiet_own_name s named.Station id name = quiet_station s id (λ x. record x { row = record x.row { name = name } })
quiet_own_name s named.Type id name = quiet_fields s (own_name_set named.Type id name s) refl refl refl refl refl refl refl
quiet_own_name s named.Plan id name = quiet_plan s id (λ p. record p { name = name })
quiet_own_name s named.Description id name = quiet_plan s id (λ p. record p { description = name })
quiet_own_name s named.Region id name = quiet_fields s (own_name_set named.Region id name s) refl refl refl refl refl refl refl

-- a name in the system's language, or in a further one
pub quiet_name : (s : Operator) (kind : NameKind) (id language name : List ℕ) (own : Bool) → IsQuiet s (cond own (own_name_set kind id name s) (further_name_set kind id language name s))
quiet_name s kind id language name true = quiet_own_name s kind id name
quiet_name s kind id language name false = quiet_fields s (further_name_set kind id language name s) refl refl refl refl refl refl refl

-- ---- stations that report

pub quiet_reported : (s x : Operator) (station : List ℕ) (now : ℕ) → IsQuiet s x → IsQuiet s (with_report station now x)
quiet_reported s x station now q = record {
  rentals = q.rentals;
  entries = q.entries;
  past = q.past;
  riders = q.riders;
  bikes = q.bikes;
  plans = q.plans;
  stations = λ id h. changed_keeps nat_list_cmp_total x.stations station (λ r. record r { reported = now }) id (q.stations id h);
  out = λ number bike o. let p = q.out number bike o in record { row = p.row; found = p.found; place_is = p.place_is };
}

quiet_place_reported : (s x : Operator) (p : Place) (now : ℕ) → IsQuiet s x → IsQuiet s (place_reported p now x)
quiet_place_reported s x (place.Dock station dock) now q = quiet_reported s x station now q
quiet_place_reported s x (place.Rental rental) now q = q
quiet_place_reported s x (place.Truck truck order) now q = q
quiet_place_reported s x place.Depot now q = q

pub quiet_bike_reported : (s x : Operator) (o : Option Bike) (now : ℕ) → IsQuiet s x → IsQuiet s (bike_reported o now x)
quiet_bike_reported s x None now q = q
quiet_bike_reported s x (Some b) now q = quiet_place_reported s x b.place now q

-- ---- bicycles

-- a bicycle is marked: its place stays
pub quiet_marked : (s : Operator) (bike : ℕ) (state : BikeState) → IsQuiet s (bike_marked bike state s)
quiet_marked s bike state = record {
  rentals = refl;
  entries = refl;
  past = refl;
  riders = λ id h. h;
  bikes = λ id h. changed_keeps nat_cmp_total s.bikes bike (λ b. record b { state = state }) id h;
  plans = λ id h. h;
  stations = λ id h. h;
  out = λ number other o. still number other o (either other bike);
} where
  still : (number other : ℕ) → IsOut s number other → Either other bike → IsOut (bike_marked bike state s) number other
  still number other o (Same e) = record {
    row = record o.row { state = state };
    found = ap (λ (n : ℕ). finmap.get (key_changed s.bikes bike (λ b. record b { state = state })) n) e
        ∙ changed_found s.bikes bike (λ b. record b { state = state }) o.row (ap (finmap.get s.bikes) (sym e) ∙ o.found);
    place_is = o.place_is;
  }
  still number other o (Other apart) = record { row = o.row; found = changed_other s.bikes bike (λ b. record b { state = state }) other apart ∙ o.found; place_is = o.place_is }

-- the bicycle isn't in a rental
pub record IsIn (s : Operator) (bike : ℕ) : Type 0 where
  pub not_out : (number : ℕ) → IsOut s number bike → ⊥

-- such a bicycle is placed
pub quiet_placed : (s : Operator) (bike : ℕ) (p : Place) → IsIn s bike → IsQuiet s (bike_placed bike p s)
quiet_placed s bike p is = record {
  rentals = refl;
  entries = refl;
  past = refl;
  riders = λ id h. h;
  bikes = λ id h. changed_keeps nat_cmp_total s.bikes bike (λ b. record b { place = p }) id h;
  plans = λ id h. h;
  stations = λ id h. h;
  out = λ number other o. record {
    row = o.row;
    found = changed_other s.bikes bike (λ b. record b { place = p }) other (λ e. is.not_out number (subst (λ (n : ℕ). IsOut s number n) e o)) ∙ o.found;
    place_is = o.place_is;
  };
}

pub quiet_added : (s : Operator) (bike : ℕ) (b : Bike) → finmap.get s.bikes bike ≡ None → IsQuiet s (record s { bikes = finmap.insert s.bikes bike b })
quiet_added s bike b none = record {
  rentals = refl;
  entries = refl;
  past = refl;
  riders = λ id h. h;
  bikes = λ id h. insert_keeps nat_cmp_total s.bikes bike b id h;
  plans = λ id h. h;
  stations = λ id h. h;
  out = λ number other o. record {
    row = o.row;
    found = get_other s.bikes bike b other (λ e. let i : finmap.get s.bikes other ≡ None = ap (finmap.get s.bikes) e ∙ none in let j = o.found in absurd cc) ∙ o.found;
    place_is = o.place_is;
  };
}

-- ---- loading and unloading

end_is_apart : (e : OrderEnd) (number : ℕ) → is_at_end e (place.Rental number) ≡ false
end_is_apart end.Depot number = refl
end_is_apart (end.Station station) number = refl

-- where a test of the bicycle's place fails in a rental, the bicycle is in none
in_by_test : (s : Operator) (bike : ℕ) (o : Option Bike) (test : Place → Bool) → ((number : ℕ) → test (place.Rental number) ≡ false) → finmap.get s.bikes bike ≡ o
    → on o (λ b. not (test b.place)) ≡ false → IsIn s bike
in_by_test s bike None test fails is e = record { not_out = λ number o. let found = o.found in absurd cc }
in_by_test s bike (Some b) test fails is e = record { not_out = λ number o. apart number o } where
  apart : (number : ℕ) → IsOut s number bike → ⊥
  apart number o =
      let same : o.row ≡ b = same_Some o.row b (sym o.found ∙ is) in
      let passes : test b.place ≡ true = holds (test b.place) e in
      let there : b.place ≡ place.Rental number = ap (λ (x : Bike). x.place) (sym same) ∙ o.place_is in
      let none : test b.place ≡ false = ap test there ∙ fails number in
      absurd cc

pub elsewhere_in : (s : Operator) (bike : ℕ) (o : Option Order) → is_none o ≡ false → is_elsewhere o (finmap.get s.bikes bike) ≡ false → IsIn s bike
elsewhere_in s bike None found e = absurd cc
elsewhere_in s bike (Some x) found e = in_by_test s bike (finmap.get s.bikes bike) (is_at_end x.from_end) (end_is_apart x.from_end) refl e

pub loaded_in : (s : Operator) (truck number bike : ℕ) → is_not_loaded truck number (finmap.get s.bikes bike) ≡ false → IsIn s bike
loaded_in s truck number bike e = in_by_test s bike (finmap.get s.bikes bike) (λ p. is_on_truck truck p && is_for_order number p) (λ n. refl) refl e

quiet_at_end : (s : Operator) (bike : ℕ) (e : OrderEnd) (dock now : ℕ) → IsIn s bike → IsQuiet s (placed_at_end bike e dock now s)
quiet_at_end s bike end.Depot dock now is = quiet_placed s bike place.Depot is
quiet_at_end s bike (end.Station station) dock now is = quiet_reported s (bike_placed bike (place.Dock station dock) s) station now (quiet_placed s bike (place.Dock station dock) is)

quiet_delivered : (s x : Operator) (order : ℕ) (side : Side) → IsQuiet s x → IsQuiet s (with_delivery order side x)
quiet_delivered s x order From q = q
quiet_delivered s x order To q = record {
  rentals = q.rentals;
  entries = q.entries;
  past = q.past;
  riders = q.riders;
  bikes = q.bikes;
  plans = q.plans;
  stations = q.stations;
  out = λ number bike o. let p = q.out number bike o in record { row = p.row; found = p.found; place_is = p.place_is };
}

pub quiet_unloaded : (s : Operator) (order bike : ℕ) (side : Side) (dock now : ℕ) (o : Option Order) → IsIn s bike → IsQuiet s (after_unload order bike side dock now o s)
quiet_unloaded s order bike side dock now None is = quiet_fields s s refl refl refl refl refl refl refl
quiet_unloaded s order bike side dock now (Some o) is = quiet_delivered s (placed_at_end bike (end_at side o) dock now s) order side (quiet_at_end s bike (end_at side o) dock now is)
