-- The look-up of row 1 of `meta`.
use Rattle.std.proofs.Common.{codes, pos, [], ◌∷◌, refl}
use Rattle.sqlite_value.specs.declared.value.Value.TheVariants.{Int}
use Rattle.sqlite_tied.specs.Compute.{everything}
use Rattle.sqlite.specs.Effect.{Database}
use Rattle.bike_sql.specs.Queries.{table_query, key_tests}
use Rattle.bike_sql.specs.Stands.{rows_of}
use Rattle.bike_sql.specs.View.{row_with}
use Rattle.bike_sql.proofs.SelectLaws.{every_column, keyed_row}
use Rattle.bike_sql.proofs.TextLemmas.{IsSelect}
use Rattle.bike_sql.proofs.WalkLaw.{Finds}
use Rattle.bike_book.specs.Tables.{Meta, keys_of}
use Rattle.bike_schema.specs.Layouts.{layout_of, name_of}
use Rattle.bike_schema.proofs.KeyLemmas.{key_places, table_key}
use Rattle.bike_recognition.specs.Recognition.{TableStands}

selects_meta : IsSelect (table_query 0 (key_tests 0 (key_places Meta)) [] (every_column (layout_of Meta))) (layout_of Meta) (codes "SELECT * FROM meta WHERE one = ?1")
unfolding everything
selects_meta = (λ tree. refl, refl)

pub finds_meta : (db : Database) → TableStands Meta db → Finds db (codes "SELECT * FROM meta WHERE one = ?1") (Int (pos 1) ∷ [])
    (row_with (keys_of Meta) (Int (pos 1) ∷ []) (rows_of (keys_of Meta) (name_of Meta) db))
finds_meta db has = keyed_row (table_key Meta) has selects_meta refl
