-- The statement of a page of stations.
use Rattle.std.proofs.Common.{ℕ, List, [], ◌∷◌, codes, filter, take, pos, refl, ap, subst, ◌∙◌}
use Rattle.sqlite_value.specs.declared.value.Value.TheVariants.{Int, Text}
use Rattle.sqlite_value.specs.Order.{column}
use Rattle.sqlite_sql.specs.Term.{lit}
use Rattle.sqlite_tied.specs.Compute.{everything}
use Rattle.bike_sql.specs.Answer.{HasOneAnswer}
use Rattle.bike_sql.proofs.PageLaw.{map_same_list}
use Rattle.bike_sql.proofs.SelectLaws.{every_column, rows_passing}
use Rattle.bike_book.specs.Tables.{Stations}
use Rattle.bike_schema.specs.Layouts.{layout_of}
use Rattle.bike_schema.proofs.KeyLemmas.{table_key}
use Rattle.bike_schema.proofs.ListedLemmas.{ListsIn}
use Rattle.bike_schema.proofs.WithinLaw.{and_true, from_test, shows_every}
use Rattle.bike_queries.proofs.AfterLaw.{from_tests}
use Rattle.bike_queries.specs.After.{begins_from}

pub lists_stations_from : (start : List ℕ) → ListsIn (codes "SELECT * FROM stations_4 WHERE station_id >= ?1 ORDER BY station_id LIMIT 64") (Text start ∷ [])
    (λ t. take 64 (filter (begins_from start) t.stations))
unfolding everything
lists_stations_from start = record {
  lists = λ db has. subst (HasOneAnswer db _ (Text start ∷ [])) (ap (take 64) (map_same_list _))
      (rows_passing (table_key Stations) (has Stations) (every_column (layout_of Stations)) (λ row. row) (shows_every Stations (Text start ∷ [])) (from_tests 1) (lit (Int (pos 64)))
      (begins_from start) (λ tree. refl, refl)
      (λ r. and_true _ ∙ from_test (column r 1) (Text start) refl));
}
