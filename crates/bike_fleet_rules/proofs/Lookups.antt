-- What stands in the operator under a key is what the row with that key spells, where the rows stand in the order of their keys.
use Rattle.std.proofs.Common.{◌≡◌, ℕ, ℤ, cond, List, [], ◌∷◌, Bool, true, false, Option, Some, None, length, arith, refl, sym, ap, ◌∙◌}
use Rattle.std.specs.Prelude.{take, option_map, option_and_then}
use Rattle.std.specs.List.{filter_map, list_any}
use Rattle.sqlite_sql.specs.Ops.{is_null}
use Rattle.bike_book.specs.Rows.{number_value}
use Rattle.bike_judges.specs.Lines.{nulls, or_nulls}
use Rattle.bike_judges.proofs.Lookups.{SpellsKeys, entries_read, found_at, type_key, station_key, truck_key}
use Rattle.bike_fleet_rules.proofs.Parts.{IsWidePartner}
use Rattle.std.specs.FinMap as fin
use Rattle.sqlite_value.specs.declared.value.Value.TheVariants.{Text}
use Rattle.sqlite_value.specs.declared.value.Value.{Value}
use Rattle.sqlite_value.specs.Order.{Row, column}
use Rattle.sqlite_rules.specs.Lists.{Has}
use Rattle.bike_sql.specs.View.{row_with, partner}
use Rattle.bike_catalogue.specs.Rows.{TypeRow}
use Rattle.bike_operator.specs.declared.records.Rental.{Rental}
use Rattle.bike_operator.specs.declared.records.Order.{Order}
use Rattle.bike_operator.specs.Operator.{Station, Truck}
use Rattle.bike_book.specs.Tables.{Tables, Types, Stations, Bikes, Trucks}
use Rattle.bike_book.proofs.Keys.{number_key, text_key, numbers, texts}
use Rattle.bike_readings.specs.Readings.{type_read, station_read, truck_read, rental_read, order_read}
use Rattle.bike_readings.specs.ReadOff.{station_in, rental_in, bike_in, rental_at, order_at, operator_of}
use Rattle.bike_readings.specs.Rules.{AreInOrder}
use Rattle.bike_readings.proofs.Places.{under_has}
use Rattle.bike_fleet_rules.proofs.CountedRows.{counted_is}

pub bike_key : SpellsKeys numbers bike_in
bike_key r e is = let it = counted_is r e is in (begins r it.width ∙ ap (λ (v : Value). v ∷ []) it.number_is, tt) where
  begins : (row : Row) → length row ≡ 8 → take 1 row ≡ column row 0 ∷ []
  begins [] wide = absurd (omega (arith, wide))
  begins (v ∷ row) wide = refl

-- what a partner spells, where its key isn't NULL
module _ {X : Type 0} (read : Row → Option X) (rows : List Row) where
  abbrev pub partner_read : Value → Option X
  partner_read v = option_and_then read (partner 1 (v ∷ []) rows)

  -- a partner is a row of its table
  pub partner_wide : (width : ℕ) (v : Value) → ((row : Row) → Has rows row → length row ≡ width) → IsWidePartner width (partner 1 (v ∷ []) rows)
  partner_wide width v wide = go (list_any is_null (v ∷ [])) where
    under : (o : Option Row) → row_with 1 (v ∷ []) rows ≡ o → IsWidePartner width o
    under None e = tt
    under (Some row) e = wide row (under_has 1 (v ∷ []) rows row e).0

    go : (b : Bool) → IsWidePartner width (cond b None (row_with 1 (v ∷ []) rows))
    go true = tt
    go false = under (row_with 1 (v ∷ []) rows) refl

  -- in a line stand its columns, or NULLs
  pub or_nulls_read : (width : ℕ) (o : Option Row) → read (nulls width) ≡ None → read (or_nulls width o) ≡ option_and_then read o
  or_nulls_read width None none = none
  or_nulls_read width (Some row) none = refl

-- a station is read with its numbers, which the operator has not
station_without : (o : Option Row) → option_map (λ (e : List ℕ × Station). e.1) (option_and_then station_in o)
    ≡ option_map (λ (e : List ℕ × Station × ℤ × ℕ × List ℕ). e.1) (option_and_then station_read o)
station_without None = refl
station_without (Some row) = go (station_read row) where
  go : (q : Option (List ℕ × Station × ℤ × ℕ × List ℕ)) → option_map (λ (e : List ℕ × Station). e.1) (option_map (λ (e : List ℕ × Station × ℤ × ℕ × List ℕ). (e.0, e.1)) q)
      ≡ option_map (λ (e : List ℕ × Station × ℤ × ℕ × List ℕ). e.1) q
  go None = refl
  go (Some x) = refl

rental_without : (o : Option Row) → option_map (λ (e : ℕ × Rental × ℤ). e.1) (option_and_then rental_read o) ≡ option_map (λ (e : ℕ × Rental). e.1) (option_and_then rental_in o)
rental_without None = refl
rental_without (Some row) = go (rental_read row) where
  go : (q : Option (ℕ × Rental × ℤ)) → option_map (λ (e : ℕ × Rental × ℤ). e.1) q ≡ option_map (λ (e : ℕ × Rental). e.1) (option_map (λ (e : ℕ × Rental × ℤ). (e.0, e.1)) q)
  go None = refl
  go (Some x) = refl

-- ---- the operator

module _ (t : Tables) (up : AreInOrder t) where
  pub bikes_read : fin.entries (operator_of t).bikes ≡ filter_map bike_in t.bikes
  bikes_read = entries_read numbers bike_in bike_key t.bikes (up Bikes)

  pub bike_at : (n : ℕ) → fin.get (operator_of t).bikes n ≡ option_map (λ e. e.1) (option_and_then bike_in (row_with 1 (number_key n) t.bikes))
  bike_at n = found_at numbers bike_in bike_key t.bikes (up Bikes) n tt

  pub type_partner : (v : Value) (id : List ℕ) → v ≡ Text id → option_map (λ e. e.1) (partner_read type_read t.types v) ≡ fin.get (operator_of t).types id
  type_partner v id is = ap (λ (w : Value). option_map (λ (e : List ℕ × TypeRow). e.1) (partner_read type_read t.types w)) is ∙ sym (found_at texts type_read type_key t.types (up Types) id tt)

  pub station_partner : (v : Value) (id : List ℕ) → v ≡ Text id → option_map (λ e. e.1) (partner_read station_read t.stations v) ≡ fin.get (operator_of t).stations id
  station_partner v id is =
      ap (λ (w : Value). option_map (λ (e : List ℕ × Station × ℤ × ℕ × List ℕ). e.1) (partner_read station_read t.stations w)) is
      ∙ sym (station_without (row_with 1 (text_key id) t.stations)) ∙ sym (found_at texts station_in station_key t.stations (up Stations) id tt)

  pub truck_partner : (v : Value) (n : ℕ) → v ≡ number_value n → option_map (λ e. e.1) (partner_read truck_read t.trucks v) ≡ fin.get (operator_of t).trucks n
  truck_partner v n is = ap (λ (w : Value). option_map (λ (e : ℕ × Truck). e.1) (partner_read truck_read t.trucks w)) is ∙ sym (found_at numbers truck_read truck_key t.trucks (up Trucks) n tt)

  pub rental_partner : (v : Value) (n : ℕ) → v ≡ number_value n → option_map (λ e. e.1) (partner_read rental_read t.rentals v) ≡ rental_at t n
  rental_partner v n is = ap (λ (w : Value). option_map (λ (e : ℕ × Rental × ℤ). e.1) (partner_read rental_read t.rentals w)) is ∙ rental_without (row_with 1 (number_key n) t.rentals)

  pub order_partner : (v : Value) (n : ℕ) → v ≡ number_value n → option_map (λ e. e.1) (partner_read order_read t.orders v) ≡ order_at t n
  order_partner v n is = ap (λ (w : Value). option_map (λ (e : ℕ × Order). e.1) (partner_read order_read t.orders w)) is
