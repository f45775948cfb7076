use Rattle.std.proofs.Common.{sym, subst, ◌∙◌}
use Rattle.bike_operator.specs.Operator.{key_of, kept_under}
use Rattle.bike_book.specs.Found.{AreRowOf}
use Rattle.bike_book.proofs.FoundColumns.{found_by_columns}
use Rattle.bike_schema.proofs.AnswerLemmas.{answers_then}
use Rattle.bike_office_reads.proofs.RowLemmas.{kept_good, kept_found, nothing_kept}
use Rattle.bike_office_reads.proofs.kept.find_kept.Goals as goal

pub returns-in_ok-read_kept-in-Some : goal.returns-in_ok-read_kept-in-Some
returns-in_ok-read_kept-in-Some g c =
    let caller = c.args.caller.now in
    let key = c.args.key.now in
    answers_then _ _ c.in_ok-row.ensures (λ s m sound listing is.
    kept_found (kept_under (key_of caller key) s.history.items) _ (λ a found. (kept_good s.now (key_of caller key) s.history a sound.history found).reply) c.in_ok-read_kept-in-Some.ensures
    (subst (AreRowOf (kept_under (key_of caller key) s.history.items)) (sym (sym c.in-Some.is ∙ is)) ((found_by_columns s m sound listing).kept caller key)))

pub returns-in-None : goal.returns-in-None
returns-in-None g c =
    let caller = c.args.caller.now in
    let key = c.args.key.now in
    answers_then _ _ c.in_ok-row.ensures (λ s m sound listing is.
    nothing_kept (kept_under (key_of caller key) s.history.items)
    (subst (AreRowOf (kept_under (key_of caller key) s.history.items)) (sym (sym c.in-None.is ∙ is)) ((found_by_columns s m sound listing).kept caller key)))
