-- Parts of a view, from the records that were read.
use Rattle.std.proofs.Common.{◌≡◌, ℕ, ℤ, List, Bool, Option, Some, None, refl, sym, ap, ◌∙◌}
use Rattle.std.specs.FinMap as map
use Rattle.std.specs.Prelude.{option_map}
use Rattle.bike_catalogue.specs.Rows.{PlanRow, TypeRow}
use Rattle.bike_ledger.specs.Entries.{Entry}
use Rattle.bike_ledger.specs.Ledger.{refunded_of}
use Rattle.bike_operator.specs.declared.records.Bike.{Bike}
use Rattle.bike_operator.specs.declared.records.Rental.{Rental}
use Rattle.bike_operator.specs.Operator.{Operator, dock_key}
use Rattle.bike_operator.specs.View.{planned_rental, rider_balance, typed_bike}
use Rattle.bike_book.specs.Stored.{Listed}
use Rattle.bike_fleet_reads.specs.declared.stations.StationNumbers.{StationNumbers}
use Rattle.bike_fleet_reads.specs.Fleet.{AreNumbersAt}
use Rattle.bike_views.specs.declared.view_and_docks.StationDocks.{StationDocks}
use Rattle.bike_views.specs.ViewAndDocks.{listed_docks, station_docks, told_of}

-- ---- the bicycle in a dock

pub typed_none : (b : ℕ × Bike) (o : Option TypeRow) {x : Option (List ℕ)} → x ≡ option_map (λ t. t.plan_id) o → x ≡ None → None ≡ typed_bike b o
typed_none b None read none = refl
typed_none b (Some t) read none = absurd cc

pub typed_some : (b : ℕ × Bike) (o : Option TypeRow) {x : Option (List ℕ)} {plan : List ℕ} → x ≡ option_map (λ t. t.plan_id) o → x ≡ Some plan
    → Some (record { bike = b.0; type_id = b.1.type_id; state = b.1.state; plan = plan }) ≡ typed_bike b o
typed_some b None read some = absurd cc
typed_some b (Some t) {plan = plan} read some = let same : plan ≡ t.plan_id = cc in ap (λ p. Some (record { bike = b.0; type_id = b.1.type_id; state = b.1.state; plan = p })) same

-- ---- the docks of a station

pub docks_read : (s : Operator) (station : List ℕ) {numbers : Option StationNumbers} {d : StationDocks} → d ≡ record { station = station; numbers = numbers; listing = None }
    → AreNumbersAt s station numbers → told_of (Some d) ≡ Some (station_docks s station)
docks_read s station is numbers = ap (λ (e : StationDocks). told_of (Some e)) is ∙ (λ i. Some (record { station = station; numbers = numbers i; listing = None }))

pub listed_read : (s : Operator) (m : Listed) (station : List ℕ) (dock : ℕ) {numbers : Option StationNumbers} {listed : Bool} {d : StationDocks}
    → d ≡ record { station = station; numbers = numbers; listing = Some (record { dock = dock; is_listed = listed }) }
    → AreNumbersAt s station numbers → listed ≡ map.contains_key m.docks (dock_key station dock) → told_of (Some d) ≡ Some (listed_docks s m station dock)
listed_read s m station dock is numbers listed =
    ap (λ (e : StationDocks). told_of (Some e)) is ∙ (λ i. Some (record { station = station; numbers = numbers i; listing = Some (record { dock = dock; is_listed = listed i }) }))

-- ---- a rental

-- the rental that was read, and the sum of its refunds
pub rental_read : (number : ℕ) (entries : List Entry) (o : Option Rental) {x : Option (Rental × ℤ)} {found : Rental} {refunded : ℤ} → x ≡ option_map (λ r. (r, refunded_of number entries)) o
    → x ≡ Some (found, refunded)
    → (o ≡ Some found) × (refunded ≡ refunded_of number entries)
rental_read number entries None read some = absurd cc
rental_read number entries (Some r) {found = found} {refunded = refunded} read some =
    let of_r : Rental × ℤ = (r, refunded_of number entries) in
    let same : of_r ≡ (found, refunded) = cc in (ap (λ f. Some f.0) same, ap (λ f. f.1) (sym same))

pub rental_lacks : (number : ℕ) (entries : List Entry) (o : Option Rental) {x : Option (Rental × ℤ)} → x ≡ option_map (λ r. (r, refunded_of number entries)) o → x ≡ None → None ≡ o
rental_lacks number entries None read none = refl
rental_lacks number entries (Some r) read none = absurd cc

pub planned_some : (s : Operator) (number : ℕ) (r : Rental) (o : Option PlanRow) {x : Option PlanRow} {plan : PlanRow} {refunded balance : ℤ} → x ≡ o → x ≡ Some plan
    → refunded ≡ refunded_of number s.entries.items → balance ≡ rider_balance s r.rider
    → Some (record { number = number; rental = r; plan = plan; refunded = refunded; balance = balance }) ≡ planned_rental s number r o
planned_some s number r o {plan = plan} read some refunds balances =
    (λ i. Some (record { number = number; rental = r; plan = plan; refunded = refunds i; balance = balances i })) ∙ ap (planned_rental s number r) (sym some ∙ read)
