use Rattle.std.proofs.Common.{◌≡◌, ℕ, ◌+◌, List, [], ◌∷◌, ◌++◌, take, sym, ap, ◌∙◌}
use Rattle.std.proofs.lemmas.List.{take_more}
use Rattle.bike_operator.specs.Requests.{RequestTexts, line_again}
use Rattle.bike_batch.specs.Again.{lines_again}
use Rattle.bike_batch.proofs.PageLemmas.{lines_more}
use Rattle.bike_batch.proofs.history.page_text.Goals as goal

pub loop-request-preserved : goal.loop-request-preserved
loop-request-preserved c =
    let requests = c.args.requests.now in
    let index = c.loop-request.request-index in
    let item = c.request-item.result in
    let next : take (index + 1) requests ≡ take index requests ++ item ∷ [] =
    take_more requests index item c.loop-request-test.true ∙ ap (λ (x : RequestTexts). take index requests ++ x ∷ []) (sym c.request-item.is) in
    c.in_ok-push_line.ensures
    ∙ (ap (λ (bytes : List ℕ). bytes ++ (line_again item ++ 10 ∷ [])) c.loop-request.invariant
    ∙ sym (ap lines_again next ∙ lines_more (take index requests) item))
