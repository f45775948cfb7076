use Rattle.std.proofs.Common.{[], refl, rules, ◌∙◌}
use Rattle.std.specs.FinMap as fin
use Rattle.bike_sql.proofs.ParamLemmas.{bindings}
use Rattle.bike_book.specs.Stored.{stored_type}
use Rattle.bike_schema.proofs.AnswerLemmas.{reads_weaker}
use Rattle.bike_schema.proofs.ListedLemmas.{all_answer, all_refused}
use Rattle.bike_schema.proofs.WithinLaw.{all_from}
use Rattle.bike_fleet_reads.proofs.StatementLemmas.{lists_types_from}
use Rattle.bike_fleet_reads.proofs.types.select_types.Goals as goal

pub returns : goal.returns
returns g c =
    reads_weaker (all_answer _ _ _ (lists_types_from []) (search bindings) c.in_ok-rows.ensures.mode c.in_ok-rows.ensures.survives (λ rows. rows.items) c.in_ok-rows.ensures.ok)
    (λ db rows is s h. is s h ∙ all_from stored_type (λ e. e.0) (λ e. refl) (fin.entries s.types))

pub returns-in_err-rows : goal.returns-in_err-rows
returns-in_err-rows g c = all_refused _ _ _ (lists_types_from []) (search bindings) c.in_err-rows.ensures.mode c.in_err-rows.ensures.survives _ (search rules) c.in_err-rows.ensures.err
