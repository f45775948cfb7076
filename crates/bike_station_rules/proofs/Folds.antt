-- The account of a station after many lines.
use Rattle.std.proofs.Common.{◌≡◌, ℕ, ◌≤◌, List, [], ◌∷◌, length, Bool, true, false, cond, ◌||◌, Option, Some, None, refl, sym, ap, ◌∙◌, arith, subst}
use Rattle.std.specs.Prelude.{fold, option_map}
use Rattle.std.specs.List.{list_any}
use Rattle.std.specs.declared.cmp.Ordering.TheVariants.{Equal}
use Rattle.std.proofs.lemmas.Slice.Eq.{bytes_eq-Decides}
use Rattle.sqlite_value.specs.declared.value.Value.{Value}
use Rattle.sqlite_value.specs.declared.value.Value.TheVariants.{Null, Int, Real, Text, Blob}
use Rattle.sqlite_value.specs.Order.{Row, column, value_cmp}
use Rattle.sqlite_value.proofs.OrderLemmas.{value_cmp_total}
use Rattle.std.proofs.lemmas.Cmp.{tied_itself}
use Rattle.bike_operator.specs.declared.records.BikeState.{BikeState}
use Rattle.bike_fields.specs.declared.numbers.TheConstants.{MOST_DOCKS}
use Rattle.bike_schema.specs.Columns.{ident_in, state_in}
use Rattle.bike_readings.specs.Readings.{dock_read}
use Rattle.bike_readings.specs.ColumnReaders.{dock_in}
use Rattle.bike_readings.proofs.CatalogueRows.{dock_reading}
use Rattle.bike_readings.proofs.ColumnLaws.{number_column}
use Rattle.bike_judges.specs.Lines.{part}
use Rattle.bike_station_rules.specs.DockSets.{has_bit, with_bit}
use Rattle.bike_station_rules.specs.Docked.{Docked, docked_in, dock_named, docked_parts}
use Rattle.bike_station_rules.specs.Stations.{is_same_text, is_place, broken_dock, broken_at, docked_at, taken_at, owner, of_owner, with_docked, more}
use Rattle.bike_station_rules.specs.declared.account.StationAccount.{StationAccount}
use Rattle.bike_station_rules.specs.declared.dock_set.TheConstants.{PLACES}
use Rattle.bike_station_rules.proofs.Bits.{is_bit, or_false, or_assoc, IsWithinSet, with_bit_has, with_bit_length, with_bit_commutes}
use Rattle.bike_station_rules.proofs.DockedRows.{docked_is}

-- ---- lines of other stations

pub same_text : (a b : Value) → is_same_text a b ≡ true → a ≡ b
same_text (Text a) (Text b) is = ap Text ((bytes_eq-Decides a b).0 is)
same_text (Text a) Null is = absurd cc
same_text (Text a) (Int b) is = absurd cc
same_text (Text a) (Real b) is = absurd cc
same_text (Text a) (Blob b) is = absurd cc
same_text Null b is = absurd cc
same_text (Int a) b is = absurd cc
same_text (Real a) b is = absurd cc
same_text (Blob a) b is = absurd cc

-- a line of another owner says nothing
pub of_other : {A : Type 0} (station : Value) (line : Row) (said : Option A) → (value_cmp (column line 0) station ≡ Equal → ⊥) → of_owner station line said ≡ None
of_other station line said apart = go (is_same_text (column line 0) station) refl where
  go : (b : Bool) → is_same_text (column line 0) station ≡ b → cond b said None ≡ None
  go false e = refl
  go true e = absurd (apart (ap (λ (v : Value). value_cmp v station) (same_text (column line 0) station e) ∙ tied_itself value_cmp_total station))

pub others_same : (a : StationAccount) (x : Row) → (value_cmp (column x 0) (owner a) ≡ Equal → ⊥) → more a x ≡ a
others_same a x apart = λ i. record a {
  is_broken = with_bit (of_other (owner a) x (broken_at x) apart i) a.is_broken;
  is_taken = with_bit (of_other (owner a) x (taken_at x) apart i) a.is_taken;
  by_type = record (a.by_type) { types = with_docked a.is_broken (of_other (owner a) x (docked_at x) apart i) a.by_type.types };
}

-- ---- docks within their bounds

abbrev IsLow : Option ℕ → Type 0
IsLow None = Unit {0}
IsLow (Some n) = n ≤ MOST_DOCKS

low_within : (o : Option ℕ) (set : List Bool) → length set ≡ PLACES → IsLow o → IsWithinSet set o
low_within None set wide low = tt
low_within (Some n) set wide low = omega (arith, wide, low)

low_if : (b : Bool) (o : Option ℕ) → IsLow o → IsLow (cond b o None)
low_if true o low = low
low_if false o low = tt

broken_low : (line : Row) → IsLow (broken_at line)
broken_low line = low_if (is_place 1 (column line 1)) (broken_dock (dock_read (part 3 3 line))) (go (dock_read (part 3 3 line)) refl) where
  go : (o : Option (List ℕ × ℕ × Bool)) → dock_read (part 3 3 line) ≡ o → IsLow (broken_dock o)
  go None e = tt
  go (Some d) e = low_if d.2 (Some d.1) (dock_reading.sound (part 3 3 line) d e).1.good_dock.1

-- the dock of a bicycle that is said to be in one
abbrev IsLowBike : Option Docked → Type 0
IsLowBike o = IsLow (option_map (λ (b : Docked). b.dock) o)

low_bike_if : (b : Bool) (o : Option Docked) → IsLowBike o → IsLowBike (cond b o None)
low_bike_if true o low = low
low_bike_if false o low = tt

parts_low : (type_id : Option (List ℕ)) (state : Option BikeState) (dock : Option ℕ) → IsLow dock → IsLowBike (docked_parts type_id state dock)
parts_low None state dock low = tt
parts_low (Some ty) None dock low = tt
parts_low (Some ty) (Some s) None low = tt
parts_low (Some ty) (Some s) (Some n) low = low

taken_low : (line : Row) → IsLow (taken_at line)
taken_low line =
    let named = dock_named (column line 6) (column line 7) (column line 8) (column line 9) (column line 10) in
    low_bike_if (is_place 2 (column line 1)) (docked_in (part 3 8 line)) (
    subst IsLowBike (docked_is line) (
    low_bike_if _ (docked_parts (ident_in (column line 4)) (state_in (column line 5)) named) (
    parts_low (ident_in (column line 4)) (state_in (column line 5)) named (low_if _ (dock_in (column line 7)) (go (dock_in (column line 7)) refl)))))
  where
    go : (o : Option ℕ) → dock_in (column line 7) ≡ o → IsLow o
    go None e = tt
    go (Some n) e = ((number_column 1 MOST_DOCKS).sound (column line 7) n e).1.1

-- ---- after many lines

pub broken_after : (xs : List Row) (a : StationAccount) (n : ℕ) → length a.is_broken ≡ PLACES
    → has_bit (fold more a xs).is_broken n ≡ (has_bit a.is_broken n || list_any (λ x. is_bit n (of_owner (owner a) x (broken_at x))) xs)
broken_after [] a n wide = sym (or_false (has_bit a.is_broken n))
broken_after (x ∷ xs) a n wide =
    let said = of_owner (owner a) x (broken_at x) in
    let later = list_any (λ y. is_bit n (of_owner (owner a) y (broken_at y))) xs in
    broken_after xs (more a x) n (with_bit_length said a.is_broken ∙ wide)
    ∙ ap (λ (b : Bool). b || later) (with_bit_has said a.is_broken n (low_within said a.is_broken wide (low_if (is_same_text (column x 0) (owner a)) (broken_at x) (broken_low x))))
    ∙ or_assoc (has_bit a.is_broken n) (is_bit n said) later

pub taken_after : (xs : List Row) (a : StationAccount) (n : ℕ) → length a.is_taken ≡ PLACES
    → has_bit (fold more a xs).is_taken n ≡ (has_bit a.is_taken n || list_any (λ x. is_bit n (of_owner (owner a) x (taken_at x))) xs)
taken_after [] a n wide = sym (or_false (has_bit a.is_taken n))
taken_after (x ∷ xs) a n wide =
    let said = of_owner (owner a) x (taken_at x) in
    let later = list_any (λ y. is_bit n (of_owner (owner a) y (taken_at y))) xs in
    taken_after xs (more a x) n (with_bit_length said a.is_taken ∙ wide)
    ∙ ap (λ (b : Bool). b || later) (with_bit_has said a.is_taken n (low_within said a.is_taken wide (low_if (is_same_text (column x 0) (owner a)) (taken_at x) (taken_low x))))
    ∙ or_assoc (has_bit a.is_taken n) (is_bit n said) later

-- what the lines say of docks changes nothing else
pub same_docks : (xs : List Row) (a : StationAccount) → (fold more a xs).docks ≡ a.docks
same_docks [] a = refl
same_docks (x ∷ xs) a = same_docks xs (more a x)

pub same_free : (xs : List Row) (a : StationAccount) → (fold more a xs).free ≡ a.free
same_free [] a = refl
same_free (x ∷ xs) a = same_free xs (more a x)

pub same_broken : (xs : List Row) (a : StationAccount) → (fold more a xs).broken ≡ a.broken
same_broken [] a = refl
same_broken (x ∷ xs) a = same_broken xs (more a x)

pub same_told : (xs : List Row) (a : StationAccount) → (fold more a xs).by_type.text ≡ a.by_type.text
same_told [] a = refl
same_told (x ∷ xs) a = same_told xs (more a x)
