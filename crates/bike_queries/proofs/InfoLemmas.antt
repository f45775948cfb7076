-- What is read of a found row is what the operator has of a rider or a rental.
use Rattle.std.proofs.Common.{◌≡◌, ◌+ℤ◌, ℕ, ℤ, Bool, Option, Some, None, refl, sym, ap, ◌∙◌}
use Rattle.std.specs.FinMap as map
use Rattle.std.specs.Prelude.{option_map}
use Rattle.std.proofs.lemmas.Option.{same_Some}
use Rattle.sqlite_value.specs.Order.{Row}
use Rattle.bike_ledger.specs.Ledger.{balance_of}
use Rattle.bike_operator.specs.declared.records.Bike.{Bike}
use Rattle.bike_operator.specs.declared.records.Rental.{Rental}
use Rattle.bike_operator.specs.Operator.{Operator, Rider}
use Rattle.bike_operator.specs.View.{before_of, rider_balance}
use Rattle.bike_book.specs.Rows.{rider_row}
use Rattle.bike_office_reads.specs.Newest.{open_number}
use Rattle.bike_queries.specs.Infos.{rider_info, rental_info}

-- the balance of a rider who is there
balance_there : (s : Operator) (rider : ℕ) (r : Rider) → map.get s.riders rider ≡ Some r → r.before +ℤ balance_of rider s.entries.items ≡ rider_balance s rider
balance_there s rider r found = ap (λ o. before_of o +ℤ balance_of rider s.entries.items) (sym found)

-- the row of a rider with that balance
abbrev pub row_of : Operator → ℕ → Rider → Row
row_of s rider r = rider_row rider r (r.before +ℤ balance_of rider s.entries.items)

-- what is read of a rider's row: whether the rider is blocked, and the balance
abbrev Reads : Row → Bool × ℤ → Type 0
Reads row x = (number : ℕ) (r : Rider) (balance : ℤ) → row ≡ rider_row number r balance → x ≡ (r.is_blocked, balance)

module _ (s : Operator) (rider : ℕ) {row : Row} {x : Bool × ℤ} where
  -- of one who is there
  read_there : (r : Rider) → map.get s.riders rider ≡ Some r → Reads row x → Some row ≡ Some (row_of s rider r) → x ≡ (r.is_blocked, rider_balance s rider)
  read_there r found read is =
      read rider r (r.before +ℤ balance_of rider s.entries.items) (same_Some row (row_of s rider r) is) ∙ ap (λ (z : ℤ). (r.is_blocked, z)) (balance_there s rider r found)

  pub rider_shown : (o : Option Rider) (rental : Option ℕ) → map.get s.riders rider ≡ o → Reads row x → Some row ≡ option_map (row_of s rider) o → rental ≡ open_number s rider
      → Some (record { is_blocked = x.0; balance = x.1; rental = rental }) ≡ option_map (rider_info s rider) o
  rider_shown None rental found read is rides = absurd cc
  rider_shown (Some r) rental found read is rides =
      let told = read_there r found read is in
      λ i. Some (record { is_blocked = (told i).0; balance = (told i).1; rental = rides i })

  pub balance_shown : (o : Option Rider) → map.get s.riders rider ≡ o → Reads row x → Some row ≡ option_map (row_of s rider) o → Some x.1 ≡ option_map (λ _. rider_balance s rider) o
  balance_shown None found read is = absurd cc
  balance_shown (Some r) found read is = ap (λ (y : Bool × ℤ). Some y.1) (read_there r found read is)

pub rental_shown : (refunded : ℤ) (o : Option Rental) (x : Rental × ℤ) → Some x ≡ option_map (λ (r : Rental). (r, refunded)) o → Some (rental_info x.1 x.0) ≡ option_map (rental_info refunded) o
rental_shown refunded None x is = absurd cc
rental_shown refunded (Some r) x is = ap (λ (y : Rental × ℤ). Some (rental_info y.1 y.0)) (same_Some x (r, refunded) is)

pub no_rental_shown : (refunded : ℤ) (o : Option Rental) → ◌≡◌ {A = Option (Rental × ℤ)} None (option_map (λ (r : Rental). (r, refunded)) o) → None ≡ option_map (rental_info refunded) o
no_rental_shown refunded None is = refl
no_rental_shown refunded (Some r) is = absurd cc

pub place_shown : (o : Option Bike) (b : Bike) → Some b ≡ o → Some b.place ≡ option_map (λ (x : Bike). x.place) o
place_shown o b is = ap (option_map (λ (x : Bike). x.place)) is

pub no_place_shown : (o : Option Bike) → None ≡ o → None ≡ option_map (λ (x : Bike). x.place) o
no_place_shown o is = ap (option_map (λ (x : Bike). x.place)) is
