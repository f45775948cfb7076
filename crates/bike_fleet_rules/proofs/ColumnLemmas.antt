-- Columns of lines, as they are read.
use Rattle.std.proofs.Common.{◌≡◌, ℕ, ℤ, [], ◌∷◌, ◌+◌, ◌-◌, ◌≤◌, ◌<◌, Bool, true, false, cond, leb, eqb, length, length-drop, length-take, min, Option, None, Result, Ok, refl, sym}
use Rattle.std.proofs.Common.{ap, ◌∙◌, arith}
use Rattle.std.specs.Prelude.{drop}
use Rattle.std.proofs.lemmas.List.{get_or-take, get_or-drop}
use Rattle.std.proofs.lemmas.Bool.Decides.{nat_tests}
use Rattle.sqlite_value.specs.declared.value.Value.{Value}
use Rattle.sqlite_value.specs.declared.value.Value.TheVariants.{Int, Null}
use Rattle.sqlite_value.specs.Order.{Row, column}
use Rattle.bike_operator.specs.declared.records.Bike.{Bike}
use Rattle.bike_schema.specs.declared.fault.StatementFault.{StatementFault}
use Rattle.bike_schema.specs.Columns.{read_or_failed, whole_in}
use Rattle.bike_readings.proofs.ColumnLaws.{whole_column}
use Rattle.bike_readings.proofs.ReadLemmas.{read_some}
use Rattle.bike_readings.specs.ReadOff.{misplaced_bike, first_place_in}
use Rattle.bike_judges.specs.Lines.{part}
use Rattle.bike_fleet_rules.specs.Counted.{counted_in, counted_at, spelled_by, place_at}
use Rattle.bike_fleet_rules.proofs.CountedRows.{counted_first}

-- ---- single columns

-- a whole number that was read is its column
pub whole_key : (number : ℤ) (v : Value) → ◌≡◌ {A = Result ℤ StatementFault} (Ok number) (read_or_failed (whole_in v)) → Int number ∷ [] ≡ v ∷ []
whole_key number v e = ap (λ (w : Value). w ∷ []) (sym ((whole_column.sound v number (sym (read_some number (whole_in v) e))).0))

-- ---- columns of a part

part_column : (first width k : ℕ) (line : Row) → k < width → column (part first width line) k ≡ column line (first + k)
part_column first width k line low = get_or-take width (drop first line) k Null low ∙ get_or-drop first line k Null

-- the bicycle of a row's columns
abbrev misplaced_columns : Row → Option (ℕ × Bike)
misplaced_columns row = spelled_by (column row 0) (column row 1) (column row 2) (first_place_in (column row 3) (column row 4) (column row 5) (column row 6) (column row 7))

pub counted_part : (first : ℕ) (line : Row) → counted_at first line ≡ counted_in (part first 8 line)
unfolding counted_in
counted_part first line = go (leb (first + 8) (length line)) refl ∙ sym (counted_first (part first 8 line)) where
  long : length (part first 8 line) ≡ min 8 (length line - first)
  long = length-take 8 (drop first line) ∙ ap (min 8) (length-drop first line)

  at : (k : ℕ) → k < 8 → column line (first + k) ≡ column (part first 8 line) k
  at k low = sym (part_column first 8 k line low)

  go : (b : Bool) → leb (first + 8) (length line) ≡ b → cond b (spelled_by (column line first) (column line (first + 1)) (column line (first + 2)) (place_at (first + 3) line)) None
      ≡ misplaced_bike (part first 8 line)
  go true e =
      let fits : first + 8 ≤ length line = grind (arith, nat_tests, e) in
      let width : eqb (length (part first 8 line)) 8 ≡ true = let is : length (part first 8 line) ≡ 8 = omega (arith, long, fits) in grind (arith, nat_tests, is) in
      let c0 : column line first ≡ column (part first 8 line) 0 = ap (column line) (omega arith) ∙ at 0 (omega arith) in
      let c1 = at 1 (omega arith) in
      let c2 = at 2 (omega arith) in
      let c3 = at 3 (omega arith) in
      let c4 : column line (first + 3 + 1) ≡ column (part first 8 line) 4 = ap (column line) (omega arith) ∙ at 4 (omega arith) in
      let c5 : column line (first + 3 + 2) ≡ column (part first 8 line) 5 = ap (column line) (omega arith) ∙ at 5 (omega arith) in
      let c6 : column line (first + 3 + 3) ≡ column (part first 8 line) 6 = ap (column line) (omega arith) ∙ at 6 (omega arith) in
      let c7 : column line (first + 3 + 4) ≡ column (part first 8 line) 7 = ap (column line) (omega arith) ∙ at 7 (omega arith) in
      (λ i. spelled_by (c0 i) (c1 i) (c2 i) (first_place_in (c3 i) (c4 i) (c5 i) (c6 i) (c7 i)))
      ∙ sym (ap (λ (b : Bool). cond b (misplaced_columns (part first 8 line)) None) width)
  go false e =
      let short : length line < first + 8 = grind (arith, nat_tests, e) in
      let width : eqb (length (part first 8 line)) 8 ≡ false = let is : length (part first 8 line) < 8 = omega (arith, long, short) in grind (arith, nat_tests, is) in
      sym (ap (λ (b : Bool). cond b (misplaced_columns (part first 8 line)) None) width)
