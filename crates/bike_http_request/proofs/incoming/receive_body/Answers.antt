use Rattle.std.proofs.Common.{◌≡◌, ◌++◌, ◌+◌, false, true, ap, sym, ◌∙◌, List, ℕ, slice_range, arith}
use Rattle.bike_http_head.specs.declared.length.BodyLength.{BodyLength}
use Rattle.bike_http_request.specs.Asked.{asked_behind}
use Rattle.bike_http_request.proofs.Receiving.{opened_within, asks_known, cut_body, whole_asked, wants_asked}
use Rattle.bike_http_request.proofs.incoming.receive_body.Goals as goal

pub returns-in-Malformed-clause-asks : goal.returns-in-Malformed-clause-asks
returns-in-Malformed-clause-asks g c =
    asks_known _ _ c.args.head _ c.requires (λ left known. ap (λ (b : BodyLength). asked_behind b c.requires.head (c.requires.rest ++ left)) (sym c.in-Malformed.is))

pub returns-in-TooLong-clause-asks : goal.returns-in-TooLong-clause-asks
returns-in-TooLong-clause-asks g c =
    asks_known _ _ c.args.head _ c.requires (λ left known. ap (λ (b : BodyLength). asked_behind b c.requires.head (c.requires.rest ++ left)) (sym c.in-TooLong.is))

pub overflow_add-end : goal.overflow_add-end
overflow_add-end g c = let within = opened_within _ c.args.head c.in-Of.size c.requires c.in-Of.is in record { fits = omega (arith, within) }

pub receive_until-requires : goal.receive_until-requires
receive_until-requires g c = opened_within _ c.args.head c.in-Of.size c.requires c.in-Of.is

pub returns-then-not-branch-clause-asks : goal.returns-then-not-branch-clause-asks
returns-then-not-branch-clause-asks g c =
    let cut : c.in_ok-receive_until.field-0 ≡ false = search in
    cut_body _ _ _ _ c.args.head c.in-Of.size c.requires c.in-Of.is (rw cut at c.in_ok-receive_until.ensures.fills)

pub returns-clause-asks : goal.returns-clause-asks
returns-clause-asks g c =
    let whole : c.in_ok-receive_until.field-0 ≡ true = search in
    whole_asked _ _ _ _ c.args.head c.in-Of.size _ _ _ _ c.requires c.in-Of.is (rw whole at c.in_ok-receive_until.ensures.fills)
    (rw c.as_slice-bytes.ensures.value at c.of-method.ensures) (c.in-Ok.ensures.cases.0 ∙ (rw c.as_slice-bytes.ensures.value at c.of.ensures))
    (ap (λ (l : List ℕ). slice_range l c.args.head.length (c.args.head.length + c.in-Of.size)) c.as_slice-bytes.ensures.value) c.in_ok-ask.ensures.asked

pub returns-in_err-ask-clause-memory : goal.returns-in_err-ask-clause-memory
returns-in_err-ask-clause-memory g c is =
    let whole : c.in_ok-receive_until.field-0 ≡ true = search in
    wants_asked _ _ _ _ c.args.head c.in-Of.size c.of-method.result.now c.in-Ok.target.now c.requires c.in-Of.is (rw whole at c.in_ok-receive_until.ensures.fills)
    (rw c.as_slice-bytes.ensures.value at c.of-method.ensures) (c.in-Ok.ensures.cases.0 ∙ (rw c.as_slice-bytes.ensures.value at c.of.ensures)) c.in_err-ask.ensures.memory
