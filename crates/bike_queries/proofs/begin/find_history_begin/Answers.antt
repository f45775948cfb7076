use Rattle.std.proofs.Common.{ℕ, sym, ap, ◌∙◌}
use Rattle.std.proofs.lemmas.Result.{IfOk-weaker}
use Rattle.bike_schema.proofs.AnswerLemmas.{answers_then, answers_both}
use Rattle.bike_office_reads.specs.declared.kept.LastRequest.{LastRequest}
use Rattle.bike_queries.specs.Requests.{history_begin}
use Rattle.bike_queries.proofs.BeginLemmas.{begin_found, begin_at_end}
use Rattle.bike_queries.proofs.begin.find_history_begin.Goals as goal

pub returns-in-Some : goal.returns-in-Some
returns-in-Some g c =
    answers_then _ _ (answers_both _ _ c.in_ok-since.ensures c.in_ok-row.ensures) (λ s m sound listing both. IfOk-weaker c.read_before.result _ _
    (λ n reads. begin_found s c.in_ok-since.since n c.in-Some.row sound (sym c.in-Some.is ∙ both.1) reads ∙ ap (λ (t : ℕ). history_begin t s) both.0) c.read_before.ensures)

pub returns-in_ok-last-in-None : goal.returns-in_ok-last-in-None
returns-in_ok-last-in-None g c =
    answers_then _ _ (answers_both _ _ (answers_both _ _ c.in_ok-since.ensures c.in_ok-row.ensures) c.in_ok-last-in-None.ensures) (λ s m sound listing all.
    c.number_of.ensures ∙ ap (λ (x : LastRequest). x.number) all.1 ∙ begin_at_end s c.in_ok-since.since sound (sym c.in-None.is ∙ all.0.1) ∙ ap (λ (t : ℕ). history_begin t s) all.0.0)
