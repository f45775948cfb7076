-- The rows that stand in a line, where each is as wide as its table.
use Rattle.std.proofs.Common.{◌≡◌, ℕ, ◌+◌, List, [], ◌∷◌, ◌++◌, length, length-append, append_assoc, zero, suc, refl, sym, ap, ◌∙◌, subst, arith}
use Rattle.std.specs.Prelude.{take, drop, map, Option, Some, None, IfSome}
use Rattle.std.proofs.Math.Seq.{take-append_seam, drop-append_seam}
use Rattle.std.proofs.lemmas.List.{append-nil}
use Rattle.std.proofs.lemmas.List.FromFn.{length-map-range_with_len}
use Rattle.sqlite_schema.specs.Names.{place_of}
use Rattle.sqlite_value.specs.Order.{Row, column}
use Rattle.sqlite_rules.specs.Lists.{Has}
use Rattle.sqlite.specs.Effect.{Database}
use Rattle.bike_sql.specs.View.{columns_of, rows_in}
use Rattle.bike_sql.specs.Layout.{Layout, table_of}
use Rattle.bike_sql.specs.Stands.{Stands, rows_of}
use Rattle.bike_sql.proofs.OrderLemmas.{order_has}
use Rattle.bike_sql.proofs.TreeLemmas.{by_key_total}
use Rattle.bike_sql.proofs.RowListLemmas.{map_has}
use Rattle.bike_sql.proofs.FrameLemmas.{rows_of_is}
use Rattle.bike_book.specs.Tables.{TableName, Tables, keys_of, rows_in as table_rows}
use Rattle.bike_schema.specs.Layouts.{layout_of, name_of}
use Rattle.bike_schema.specs.Tables.{tables_of, HasTables}
use Rattle.bike_readings.proofs.RulesLaws.{rows_by}
use Rattle.bike_judges.specs.Lines.{part, nulls, or_nulls, with_two}

-- ---- parts

module _ {A : Type 0} where
  taken : (xs ys : List A) (n : ℕ) → length xs ≡ n → take n (xs ++ ys) ≡ xs
  taken xs ys n is = ap (λ (k : ℕ). take k (xs ++ ys)) (sym is) ∙ take-append_seam xs ys

  dropped : (xs ys : List A) (n : ℕ) → length xs ≡ n → drop n (xs ++ ys) ≡ ys
  dropped xs ys n is = ap (λ (k : ℕ). drop k (xs ++ ys)) (sym is) ∙ drop-append_seam xs ys

-- the row itself,
pub own_part : (width : ℕ) (row rest : Row) → length row ≡ width → part 0 width (row ++ rest) ≡ row
own_part width row rest is = taken row rest width is

-- the row behind columns,
pub part_behind : (first width : ℕ) (front row rest : Row) → length front ≡ first → length row ≡ width → part first width (front ++ (row ++ rest)) ≡ row
part_behind first width front row rest front_is row_is = ap (take width) (dropped front (row ++ rest) first front_is) ∙ taken row rest width row_is

-- and the last row
pub last_part : (first width : ℕ) (front row : Row) → length front ≡ first → length row ≡ width → part first width (front ++ row) ≡ row
last_part first width front row front_is row_is = ap (λ (r : Row). part first width (front ++ r)) (sym (append-nil row)) ∙ part_behind first width front row [] front_is row_is

nulls_wide : (width : ℕ) → length (nulls width) ≡ width
nulls_wide zero = refl
nulls_wide (suc width) = let rest = nulls_wide width in omega (arith, rest)

abbrev pub IsWidePartner : ℕ → Option Row → Type 0
IsWidePartner width partner = IfSome partner (λ row. length row ≡ width)

pub or_nulls_wide : (width : ℕ) (partner : Option Row) → IsWidePartner width partner → length (or_nulls width partner) ≡ width
or_nulls_wide width None wide = nulls_wide width
or_nulls_wide width (Some row) wide = wide

-- the rows of a line of three
module _ (own first second : ℕ) (row : Row) (partner other : Option Row) (row_wide : length row ≡ own) (partner_is : IsWidePartner first partner) (other_is : IsWidePartner second other) where
  pub first_of_line : part own first (with_two first second row partner other) ≡ or_nulls first partner
  first_of_line = part_behind own first row (or_nulls first partner) (or_nulls second other) row_wide (or_nulls_wide first partner partner_is)

  pub second_of_line : part (own + first) second (with_two first second row partner other) ≡ or_nulls second other
  second_of_line =
      let front : length (row ++ or_nulls first partner) ≡ own + first = let a = length-append row (or_nulls first partner) in let b = or_nulls_wide first partner partner_is in omega (arith, a, b, row_wide) in
      ap (part (own + first) second) (sym (append_assoc row (or_nulls first partner) (or_nulls second other)))
      ∙ last_part (own + first) second (row ++ or_nulls first partner) (or_nulls second other) front (or_nulls_wide second other other_is)

-- ---- widths

pub columns_wide : (layout : Layout) (tree : ℕ) (row : Row) → length (columns_of (table_of layout tree) row) ≡ length layout.columns
columns_wide layout tree row = length-map-range_with_len (λ at. column row (place_of (table_of layout tree) at)) 0 (length layout.columns)

-- the stored rows of a table are as wide as its layout
pub rows_wide : (db : Database) (keys : ℕ) (layout : Layout) → Stands db keys layout → (row : Row) → Has (rows_of keys layout.name db) row → length row ≡ length layout.columns
rows_wide db keys layout it row has =
    let there : Has (rows_in keys (table_of layout it.tree) db.trees) row = subst (λ (rows : List Row). Has rows row) (rows_of_is db keys layout it) has in
    let stored = map_has (columns_of (table_of layout it.tree)) (db.trees it.tree) row (order_has (by_key_total keys) (map (columns_of (table_of layout it.tree)) (db.trees it.tree)) row there) in
    ap length stored.2 ∙ columns_wide layout it.tree stored.0

-- the rows of each table are as wide as its layout
abbrev pub AreWide : Tables → Type 0
AreWide t = (name : TableName) (row : Row) → Has (table_rows t name) row → length row ≡ length (layout_of name).columns

pub tables_wide : (db : Database) → HasTables db → AreWide (tables_of db)
tables_wide db has name row there =
    rows_wide db (keys_of name) (layout_of name) (has name) row (subst (λ (rows : List Row). Has rows row) (rows_by (λ n. rows_of (keys_of n) (name_of n) db) name) there)

-- a row that has columns begins with the first
pub begins_with_one : (row : Row) (n : ℕ) → length row ≡ suc n → take 1 row ≡ column row 0 ∷ []
begins_with_one [] n wide = absurd (omega (arith, wide))
begins_with_one (v ∷ row) n wide = refl
