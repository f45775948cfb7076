use Rattle.std.proofs.Common.{map, ap, ◌∙◌}
use Rattle.std.proofs.lemmas.Result.{IfOk-weaker}
use Rattle.std.specs.FinMap.{entries}
use Rattle.bike_schema.proofs.AnswerLemmas.{answers_then}
use Rattle.bike_queries.proofs.TypeLemmas.{begins_with, types_named}
use Rattle.bike_queries.proofs.types.find_type_ids.Goals as goal

pub returns : goal.returns
returns g c =
    answers_then _ _ c.in_ok-rows.ensures (λ s m sound listing is.
    IfOk-weaker c.read_type_ids.result _ _ (λ x read.
    types_named (entries s.types) x.items (read ∙ ap (map begins_with) (c.as_slice.ensures.value ∙ is))) c.read_type_ids.ensures)
