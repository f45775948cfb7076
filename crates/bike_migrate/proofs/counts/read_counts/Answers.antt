use Rattle.std.proofs.Common.{rules, [], ◌∷◌}
use Rattle.sqlite_value.specs.declared.value.Value.TheVariants.{Text}
use Rattle.sqlite.specs.declared.error.Error.{Error}
use Rattle.bike_sql.specs.View.{rows_where}
use Rattle.bike_sql.proofs.ChainLaws.{reads_as}
use Rattle.bike_recognition.specs.EarlierVersions.Counts.{HasCounts, old_counts}
use Rattle.bike_migrate.proofs.ReadLemmas.{reads_all, reads_none}
use Rattle.bike_migrate.proofs.TextLemmas.{counts_text, asks_counts}
use Rattle.bike_migrate.proofs.counts.read_counts.Goals as goal

pub returns-in_err-rows : goal.returns-in_err-rows
returns-in_err-rows g c =
    let station = c.args.station.now in
    reads_none g.S.Store HasCounts (λ db. rows_where (0 ∷ []) (Text station ∷ []) (old_counts db)) counts_text (Text station ∷ []) (asks_counts station)
    c.args.conn.now c.query_all.new.self c.in_err-rows.field-0.0 (search rules) c.in_err-rows.ensures.err c.in_err-rows.ensures.mode c.in_err-rows.ensures.survives

pub returns : goal.returns
returns g c =
    let station = c.args.station.now in
    reads_as (
    reads_all g.S.Store HasCounts (λ db. rows_where (0 ∷ []) (Text station ∷ []) (old_counts db)) counts_text (Text station ∷ []) (asks_counts station)
    c.args.conn.now c.query_all.new.self {E = Error} c.in_ok-rows.rows.items c.in_ok-rows.ensures.ok c.in_ok-rows.ensures.mode c.in_ok-rows.ensures.survives
    ) (λ db is. is)
