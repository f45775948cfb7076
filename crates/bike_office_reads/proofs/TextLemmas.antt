-- What each statement finds.
use Rattle.std.proofs.Common.{ℕ, List, [], ◌∷◌, codes, length, Some, slice_get, refl, subst}
use Rattle.sqlite_value.specs.declared.value.Value.TheVariants.{Text, Blob}
use Rattle.sqlite_sql.specs.Aggregate.{count}
use Rattle.sqlite_tied.specs.Compute.{everything}
use Rattle.bike_sql.specs.View.{row_with, rows_where, last_of}
use Rattle.bike_sql.proofs.PageLaw.{map_same_list}
use Rattle.bike_sql.proofs.SelectLaws.{every_column, last_row, first_with, first_with_null}
use Rattle.bike_sql.proofs.WalkLaw.{Finds}
use Rattle.bike_book.specs.Tables.{Meta, System, Plans, Riders, Rentals, Entries, History, Books}
use Rattle.bike_book.specs.Rows.{number_value}
use Rattle.bike_book.specs.Found.{rows_open}
use Rattle.bike_schema.specs.Layouts.{layout_of}
use Rattle.bike_schema.specs.Tables.{tables_of}
use Rattle.bike_schema.proofs.AnswerLemmas.{FindsIn, keyed_in}
use Rattle.bike_schema.proofs.CountLemmas.{counted_in}
use Rattle.bike_schema.proofs.KeyLemmas.{table_key}
use Rattle.bike_schema.specs.Within.{rows_from}
use Rattle.bike_schema.proofs.ListedLemmas.{ListsIn}
use Rattle.bike_schema.proofs.WithinLaw.{keyed_within, lists_within}

-- ---- rows by their keys

pub finds_meta : FindsIn (codes "SELECT * FROM meta WHERE one = ?1") (number_value 1 ∷ []) (λ t. row_with 1 (number_value 1 ∷ []) t.meta)
unfolding everything
finds_meta = keyed_in Meta (λ tree. refl, refl) refl

pub finds_system : FindsIn (codes "SELECT * FROM system WHERE one = ?1") (number_value 1 ∷ []) (λ t. row_with 1 (number_value 1 ∷ []) t.system)
unfolding everything
finds_system = keyed_in System (λ tree. refl, refl) refl

pub finds_rider : (rider : ℕ) → FindsIn (codes "SELECT * FROM riders_4 WHERE rider = ?1") (number_value rider ∷ []) (λ t. row_with 1 (number_value rider ∷ []) t.riders)
unfolding everything
finds_rider rider = keyed_in Riders (λ tree. refl, refl) refl

pub finds_books : FindsIn (codes "SELECT * FROM books WHERE one = ?1") (number_value 1 ∷ []) (λ t. row_with 1 (number_value 1 ∷ []) t.books)
unfolding everything
finds_books = keyed_in Books (λ tree. refl, refl) refl

pub finds_rental : (rental : ℕ) → FindsIn (codes "SELECT * FROM rentals WHERE rental = ?1") (number_value rental ∷ []) (λ t. row_with 1 (number_value rental ∷ []) t.rentals)
unfolding everything
finds_rental rental = keyed_in Rentals (λ tree. refl, refl) refl

-- ---- last rows

pub finds_last_rider : FindsIn (codes "SELECT * FROM riders_4 ORDER BY rider DESC LIMIT 1") [] (λ t. slice_get (last_of t.riders) 0)
unfolding everything
finds_last_rider = record { finds = λ db has. last_row (table_key Riders) (has Riders) (λ tree. refl, refl) }

pub finds_last_rental : FindsIn (codes "SELECT * FROM rentals ORDER BY rental DESC LIMIT 1") [] (λ t. slice_get (last_of t.rentals) 0)
unfolding everything
finds_last_rental = record { finds = λ db has. last_row (table_key Rentals) (has Rentals) (λ tree. refl, refl) }

pub finds_last_entry : FindsIn (codes "SELECT * FROM entries ORDER BY entry DESC LIMIT 1") [] (λ t. slice_get (last_of t.entries) 0)
unfolding everything
finds_last_entry = record { finds = λ db has. last_row (table_key Entries) (has Entries) (λ tree. refl, refl) }

pub finds_last_request : FindsIn (codes "SELECT * FROM history ORDER BY number DESC LIMIT 1") [] (λ t. slice_get (last_of t.history) 0)
unfolding everything
finds_last_request = record { finds = λ db has. last_row (table_key History) (has History) (λ tree. refl, refl) }

-- ---- the request of a caller and key

abbrev kept_text : List ℕ
kept_text = codes "SELECT * FROM history WHERE caller = ?1 AND req_key = ?2 ORDER BY number LIMIT 1"

pub finds_kept : (caller key : List ℕ) → FindsIn kept_text (Text caller ∷ Text key ∷ []) (λ t. slice_get (rows_where (2 ∷ 3 ∷ []) (Text caller ∷ Text key ∷ []) t.history) 0)
unfolding everything
finds_kept caller key = record {
  finds = λ db has. subst (λ rows. Finds db kept_text (Text caller ∷ Text key ∷ []) (slice_get rows 0)) (map_same_list (rows_where (2 ∷ 3 ∷ []) (Text caller ∷ Text key ∷ []) (tables_of db).history))
      (first_with (table_key History) (has History) (every_column (layout_of History)) (λ row. row) (λ r. refl) 0 (2 ∷ 3 ∷ []) (λ tree. refl, refl) refl (λ r. refl));
}

-- ---- open rentals

abbrev open_text : List ℕ
open_text = codes "SELECT * FROM rentals WHERE rider = ?1 AND finish IS NULL ORDER BY rental LIMIT 1"

pub finds_open : (rider : ℕ) → FindsIn open_text (number_value rider ∷ []) (λ t. slice_get (rows_open (rows_where (1 ∷ []) (number_value rider ∷ []) t.rentals)) 0)
unfolding everything
finds_open rider = record {
  finds = λ db has. subst (λ rows. Finds db open_text (number_value rider ∷ []) (slice_get rows 0)) (map_same_list (rows_open (rows_where (1 ∷ []) (number_value rider ∷ []) (tables_of db).rentals)))
      (first_with_null (table_key Rentals) (has Rentals) (every_column (layout_of Rentals)) (λ row. row) (λ r. refl) 0 (1 ∷ []) (7 ∷ []) (λ tree. refl, refl) refl (λ r. refl) (λ r. refl));
}

-- ---- plans between two

abbrev plans_text : List ℕ
plans_text = codes "SELECT * FROM plans WHERE plan_id >= ?1 AND plan_id <= ?2 ORDER BY plan_id"

pub finds_plan : (plan : List ℕ) → FindsIn plans_text (Text plan ∷ Text plan ∷ []) (λ t. row_with 1 (Text plan ∷ []) t.plans)
unfolding everything
finds_plan plan = keyed_within Plans 1 (Text plan) refl (λ r. refl) (λ tree. refl, refl)

pub lists_plans_from : (start : List ℕ) → ListsIn plans_text (Text start ∷ Blob [] ∷ []) (λ t. rows_from start t.plans)
unfolding everything
lists_plans_from start = lists_within Plans 1 (Text start) (Blob []) refl refl (λ r. refl) (λ tree. refl, refl)

-- ---- counts

pub counts_riders : FindsIn (codes "SELECT count(*) FROM riders_4") [] (λ t. Some (count (length t.riders) ∷ []))
unfolding everything
counts_riders = counted_in Riders (λ tree. refl, refl)
