use Rattle.bike_http_request.proofs.Receiving.{received_whole, received_wants, want_told}
use Rattle.bike_http_request.proofs.incoming.receive.Goals as goal

pub returns-in_ok-receive_body-in-Whole-clause-received : goal.returns-in_ok-receive_body-in-Whole-clause-received
returns-in_ok-receive_body-in-Whole-clause-received g c =
    received_whole _ _ _ c.in-Whole.head _ (rw c.new-input.ensures at c.in_ok-receive_head.ensures.grew) (rw c.in-Whole.is at c.in_ok-receive_head.ensures.opens)
    c.in_ok-receive_body-in-Whole.ensures.asks

pub returns-in_err-receive_body-in-Whole-clause-memory : goal.returns-in_err-receive_body-in-Whole-clause-memory
returns-in_err-receive_body-in-Whole-clause-memory g c is =
    received_wants _ _ _ (rw c.new-input.ensures at c.in_ok-receive_head.ensures.grew) (c.in_err-receive_body-in-Whole.ensures.memory
    (want_told c.in_err-receive_body-in-Whole.field-0.0 _ c.from_residual-in_err-receive_body-in-Whole.ensures.1 is))
