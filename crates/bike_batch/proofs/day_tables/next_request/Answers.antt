use Rattle.std.proofs.Common.{Some, None, ap, arith}
use Rattle.bike_operator.specs.Requests.{RequestTexts}
use Rattle.bike_batch.proofs.DeskLemmas.{asked_as}
use Rattle.bike_batch.proofs.Sources.{found_later}
use Rattle.bike_batch.proofs.day_tables.next_request.Goals as goal

-- a request that was found has a later number
pub returns-clause-query : goal.returns-clause-query
returns-clause-query g c =
    asked_as g.S.Store (Some c.in-Some.request) None
    (λ s found. absurd (let later = found_later c.args.begin c.args.until s c.args.number c.in-Some.request found in omega (arith, later, ap (λ (x : RequestTexts). x.number) c.request.view_is, c.if-request-number.false)))
    (rw c.in-Some.is at c.in_ok-request.ensures.query)
