use Rattle.std.proofs.Common.{ap, sym, ◌∙◌, ◌∷◌, ◌+◌, drop}
use Rattle.bike_json.proofs.Rows.{rows_start, rows_next, rows_end}
use Rattle.bike_http_response.specs.Bodies.{request_tree}
use Rattle.bike_http_response.proofs.Listed.{drop_get, drop_none, takes_item}
use Rattle.bike_http_response.proofs.requests.write_items.Goals as goal

pub loop-request-init : goal.loop-request-init
loop-request-init g c = rows_start request_tree _ _ _ c.requires.top

pub write_request-requires-clause-value : goal.write_request-requires-clause-value
write_request-requires-clause-value g c = takes_item _ c.loop-request.invariant.inside

pub loop-request-preserved : goal.loop-request-preserved
loop-request-preserved g c =
    let i = c.loop-request.request-index in
    let next = drop_get c.args.requests.now i _ c.loop-request-test.true ∙ ap (λ r. r ∷ drop (i + 1) c.args.requests.now) (sym c.request-item.is) in
    rows_next request_tree c.loop-request.invariant next c.write_request.ensures.wrote c.write_request.ensures.place

pub returns-clause-wrote : goal.returns-clause-wrote
returns-clause-wrote g c = rows_end request_tree c.loop-request.invariant (drop_none c.args.requests.now c.loop-request.request-index c.loop-request-test.false)
