use Rattle.std.proofs.Common.{ap, sym, ◌∙◌}
use Rattle.std.specs.Prelude.{unwrap_or}
use Rattle.bike_sql.proofs.ChainLaws.{reads_as, reads_both}
use Rattle.bike_schema.specs.Tables.{tables_of}
use Rattle.bike_readings.proofs.RulesLaws.{stored_in_order}
use Rattle.bike_judges.specs.Moments.{since_in, last_in}
use Rattle.bike_judges.proofs.Moments.{now_found}
use Rattle.bike_judges.proofs.moment.find_now.Goals as goal

pub returns : goal.returns
returns g c = reads_as (reads_both c.in_ok-meta_row.ensures c.in_ok-last_row.ensures)
    (λ db told. now_found (tables_of db) (stored_in_order db) _ c.in_ok-since.since c.in_ok-last.last c.later.ensures.value
    (c.in_ok-since.ensures ∙ ap (λ o. unwrap_or o 0) (c.since_in.ensures ∙ ap since_in (sym told.0)))
    (c.in_ok-last.ensures ∙ ap (λ o. unwrap_or o 0) (c.last_in.ensures ∙ ap last_in (sym told.1))))
