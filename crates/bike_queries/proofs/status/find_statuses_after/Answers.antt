use Rattle.std.specs.Prelude.{option_map}
use Rattle.std.proofs.lemmas.Result.{IfOk-weaker}
use Rattle.bike_schema.proofs.AnswerLemmas.{answers_then}
use Rattle.bike_queries.proofs.StatusLemmas.{statuses_read}
use Rattle.bike_queries.proofs.status.find_statuses_after.Goals as goal

pub returns : goal.returns
returns g c =
    answers_then _ _ c.in_ok-stations.ensures (λ s m sound listing are.
    IfOk-weaker c.read_statuses.result _ _ (λ page read.
    statuses_read s sound (option_map (λ id. id.now) c.args.after) c.counts_by_type.ensures.counts c.counts_by_type.ensures.idents c.args.type_ids.now c.in_ok-stations.stations.items page.items are read)
    c.read_statuses.ensures)
