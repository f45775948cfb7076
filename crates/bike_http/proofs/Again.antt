-- A request that was accepted and comes again: its response is the first one, and nothing changes.
use Rattle.std.proofs.Common.{◌≡◌, inl, inr, ℕ, List, [], length, Option, Some, IfSome, Result, Ok, Err, true, false, refl, sym, ap, subst, ◌∙◌, arith}
use Rattle.std.specs.Str.{bytes_eq}
use Rattle.std.proofs.lemmas.Slice.Eq.{bytes_eq-Decides}
use Rattle.sqlite_trees.specs.declared.store.Store.{Ghosts}
use Rattle.bike_commands.specs.declared.reply.Reply.{Reply}
use Rattle.bike_operator.specs.Operator.{Operator}
use Rattle.bike_commands.specs.Commands.{text_of}
use Rattle.bike_operator.specs.Runs.{step}
use Rattle.bike_laws.proofs.RetryLemmas.{answered_again}
use Rattle.bike_desk.specs.Desk.{DeskValue, IsAt}
use Rattle.bike_http_request.specs.declared.action.Action.{Action}
use Rattle.bike_http_request.specs.declared.action.Action.TheVariants.{Apply}
use Rattle.bike_http_request.specs.Received.{Received}
use Rattle.bike_http_request.proofs.Once.{asks_once}
use Rattle.bike_http_response.specs.declared.answer.Answer.TheVariants as answer
use Rattle.bike_http.specs.Exchange.{Response, answered, response_of, operator_after, Answers}
use Rattle.bike_http.specs.Telling.{Tells, TellsFor, Serves}
use Rattle.bike_http.proofs.Told.{tells_any}
use Rattle.bike_http.specs.Again.{CameBefore, IsFirstOrNone, SendsAgain}
use Rattle.bike_http.specs.declared.exchange.Served.{Served}
use Rattle.bike_http.specs.declared.exchange.Served.TheVariants.{Empty, Status}
use Rattle.bike_http.specs.declared.exchange.ServeFault.{ServeFault}
use Rattle.bike_http.specs.declared.exchange.ServeFault.TheVariants.{Read, Write, Cut}

-- a command is the same as itself
same_command : (text : List ℕ) → bytes_eq text text ≡ true
same_command text = (bytes_eq-Decides text text).1 refl

module _ (input : Option (List ℕ)) (s : Operator) (first : Response) (came : CameBefore input s first) where
  -- its step is the first reply, and leaves the operator as it is
  again_is : (t : ℕ) → step s t came.request ≡ ((step came.earlier came.moment came.request).0, s)
  again_is t =
      subst (λ (o : Operator). step o t came.request ≡ ((step came.earlier came.moment came.request).0, o)) (sym came.now)
      (answered_again came.earlier came.moment t came.request came.request came.since came.accepted refl (same_command (text_of came.request.command)))

  -- what the input asks for is that request
  asks_again : (asked : Action) → IfSome input (λ bytes. Received bytes (Some asked)) → asked ≡ Apply came.request
  asks_again asked received =
      let known : Received came.bytes (Some asked) = subst (λ (o : Option (List ℕ)). IfSome o (λ bytes. Received bytes (Some asked))) came.known received in
      asks_once came.bytes asked (Apply came.request) known.1 came.asks.1

  pub response_again : (t : ℕ) (response : Response) (next : Operator) → Answers input s t response next → (response ≡ first) × (next ≡ s)
  response_again t response next answers =
      let asked = asks_again answers.asked answers.received in
      let step_is = again_is t in (
        answers.gives ∙ ap (response_of s t) asked ∙ ap (λ (p : Reply × Operator). answered (answer.Replied p.0)) step_is ∙ sym came.first_is,
        answers.leads ∙ ap (operator_after s t) asked ∙ ap (λ (p : Reply × Operator). p.1) step_is,
      )

  not_empty : IfSome input (λ bytes. bytes ≡ []) → ⊥
  not_empty is =
      let none : came.bytes ≡ [] = subst (λ (o : Option (List ℕ)). IfSome o (λ bytes. bytes ≡ [])) came.known is in
      let some = came.asks.0 in
      let zero : length came.bytes ≡ 0 = ap (λ (xs : List ℕ). length xs) none in
      absurd (omega (arith, some, zero))

module _ {S : Type 0} (g : Ghosts S) (d : DeskValue S) (s : Operator) (t : ℕ) (input before after : Option (List ℕ)) (first : Response) (came : CameBefore input s first) where
  told_again : (response sent : Response) (next : Operator) → Answers input s t response next → Tells g d s response next sent → IsFirstOrNone first sent × (d.is_stopped ≡ false → IsAt g d s)
  told_again response sent next answers tells =
      let again = response_again input s first came t response next answers in
      elim tells [
        | inl told ↦ (inl (told.0 ∙ again.0), λ going. subst (λ (o : Operator). IsAt g d o) again.1 told.1)
        | inr none ↦ (inr none.0, λ going. none.1.goes_on going)
      ]

  sent_again : (sent : Response) → TellsFor g d s t input sent → IsFirstOrNone first sent × (d.is_stopped ≡ false → IsAt g d s)
  sent_again sent told = elim told [
    | inl none ↦ (inr none.0, λ going. none.2)
    | inr some ↦ told_again some.response sent some.next some.answers (tells_any g d s some.answers.asked some.told)
  ]

  pub sends_again : (r : Result Served ServeFault) → Serves g d s t input before after r → SendsAgain g d s first before after r
  sends_again (Ok Empty) h = not_empty input s first came h
  sends_again (Ok (Status status)) h = let it = sent_again h.0 h.1 in (h.0, it.0, h.2, h.3, it.1)
  sends_again (Err Read) h = tt
  sends_again (Err Write) h = let it = sent_again h.0 h.1 in (h.0, it.0, h.2, it.1)
  sends_again (Err Cut) h = h
