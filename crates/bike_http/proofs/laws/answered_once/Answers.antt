use Rattle.std.proofs.Common.{sym, ap, ◌∙◌}
use Rattle.bike_http_request.proofs.Once.{asks_once}
use Rattle.bike_http.specs.Exchange.{response_of, operator_after}
use Rattle.bike_http.proofs.laws.answered_once.Goals as goal

pub returns : goal.returns
returns c = λ input s t response other next then a b.
    let same = asks_once input a.asked b.asked a.received.1 b.received.1 in
    (a.gives ∙ ap (response_of s t) same ∙ sym b.gives, a.leads ∙ ap (operator_after s t) same ∙ sym b.leads)
