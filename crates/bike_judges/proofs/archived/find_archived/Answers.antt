use Rattle.std.proofs.Common.{◌≡◌, IfOk, ap, sym, ◌∙◌}
use Rattle.std.specs.Prelude.{option_map, unwrap_or}
use Rattle.std.proofs.lemmas.Result.{IfOk-weaker}
use Rattle.sqlite.specs.Effect.{Database}
use Rattle.bike_schema.specs.Tables.{tables_of}
use Rattle.bike_readings.specs.ReadOff.{archived_of}
use Rattle.bike_readings.specs.Views.{books_of}
use Rattle.bike_readings.proofs.RulesLaws.{stored_in_order}
use Rattle.bike_judges.specs.Archived.{books_row_in, archived_in}
use Rattle.bike_judges.proofs.ArchivedLaw.{archived_found}
use Rattle.bike_judges.proofs.ReadsLaw.{reads_further}
use Rattle.bike_judges.proofs.archived.find_archived.Goals as goal

pub returns : goal.returns
returns g c =
    let told : IfOk c.or_none_archived.result (λ books. (db : Database) → books_row_in (tables_of db) ≡ c.in_ok-row.row → books_of books ≡ archived_of (tables_of db).books) =
    IfOk-weaker c.or_none_archived.result (λ books. books_of books ≡ unwrap_or (option_map books_of c.archived_in.result) (0, 0, 0)) _
    (λ books is db found. is ∙ ap (λ o. unwrap_or o (0, 0, 0)) (c.archived_in.ensures ∙ ap archived_in (sym found)) ∙ archived_found (tables_of db) (stored_in_order db)) c.or_none_archived.ensures in
    reads_further c.in_ok-row.ensures told
