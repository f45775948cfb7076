use Rattle.std.proofs.Common.{◌≤◌, rules, arith}
use Rattle.bike_book.specs.Numbers.{most_requests}
use Rattle.bike_queries.proofs.RequestLemmas.{columns_read}
use Rattle.bike_queries.proofs.requests.read_request.Goals as goal

pub returns : goal.returns
returns c =
    let few : c.in_ok-count.count ≤ most_requests = omega (arith, c.number-number.type_inv) in
    columns_read c.in_ok-count.count few (search rules) c.in_ok-count.ensures c.in_ok-moment.ensures
    c.in_ok-caller.ensures.ok c.in_ok-key.ensures.ok c.in_ok-command.ensures.ok c.in_ok-reply.ensures.ok
