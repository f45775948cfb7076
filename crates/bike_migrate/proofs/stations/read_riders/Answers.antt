use Rattle.std.proofs.Common.{rules, []}
use Rattle.sqlite.specs.declared.error.Error.{Error}
use Rattle.bike_sql.proofs.ChainLaws.{reads_as}
use Rattle.bike_recognition.specs.EarlierVersions.Riders.{HasRiders, old_riders}
use Rattle.bike_migrate.proofs.ReadLemmas.{reads_all, reads_none}
use Rattle.bike_migrate.proofs.TextLemmas.{riders_text, asks_riders}
use Rattle.bike_migrate.proofs.stations.read_riders.Goals as goal

pub returns-in_err-rows : goal.returns-in_err-rows
returns-in_err-rows g c =
    reads_none g.S.Store HasRiders old_riders riders_text [] asks_riders
    c.args.conn.now c.query_all.new.self c.in_err-rows.field-0.0 (search rules) c.in_err-rows.ensures.err c.in_err-rows.ensures.mode c.in_err-rows.ensures.survives

pub returns : goal.returns
returns g c = reads_as (
    reads_all g.S.Store HasRiders old_riders riders_text [] asks_riders
    c.args.conn.now c.query_all.new.self {E = Error} c.in_ok-rows.rows.items c.in_ok-rows.ensures.ok c.in_ok-rows.ensures.mode c.in_ok-rows.ensures.survives
    ) (λ db is. is)
