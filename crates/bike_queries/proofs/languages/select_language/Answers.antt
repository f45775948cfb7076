use Rattle.std.proofs.Common.{◌∙◌}
use Rattle.bike_sql.proofs.ParamLemmas.{bindings}
use Rattle.bike_schema.proofs.AnswerLemmas.{row_answers, reads_weaker}
use Rattle.bike_queries.proofs.LanguageLemmas.{finds_language_from, language_after}
use Rattle.bike_queries.proofs.languages.select_language.Goals as goal

pub returns : goal.returns
returns g c =
    let start = c.as_str.result.now in
    reads_weaker (row_answers (finds_language_from start) c.first_row.ensures (search bindings))
    (λ db row is s h. is s h ∙ language_after s _ start (c.as_str.ensures.value ∙ c.start_of-start.ensures))
