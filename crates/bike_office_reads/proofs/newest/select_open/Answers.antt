use Rattle.std.proofs.Common.{rules, ◌∙◌}
use Rattle.bike_sql.proofs.ParamLemmas.{bindings}
use Rattle.bike_schema.proofs.AnswerLemmas.{reads_weaker}
use Rattle.bike_schema.proofs.ListedLemmas.{all_answer, all_refused}
use Rattle.bike_office_reads.proofs.NewestRows.{lists_open_after, all_open}
use Rattle.bike_office_reads.proofs.newest.select_open.Goals as goal

pub returns : goal.returns
returns g c =
    reads_weaker (all_answer _ _ _ (lists_open_after 0) (search bindings) c.in_ok-rows.ensures.mode c.in_ok-rows.ensures.survives (λ rows. rows.items) c.in_ok-rows.ensures.ok)
    (λ db rows is s h. is s h ∙ all_open s)

pub returns-in_err-rows : goal.returns-in_err-rows
returns-in_err-rows g c = all_refused _ _ _ (lists_open_after 0) (search bindings) c.in_err-rows.ensures.mode c.in_err-rows.ensures.survives _ (search rules) c.in_err-rows.ensures.err
