-- How an exchange ends, from what is sent.
use Rattle.std.proofs.Common.{◌≡◌, inl, inr, ℕ, List, Option, Some, None, Result, Ok, Err, IfSome, IsSomeAnd, refl, sym, ap, ◌∙◌, subst, arith}
use Rattle.sqlite_trees.specs.declared.store.Store.{Ghosts}
use Rattle.bike_stream.specs.declared.write.WriteFault.{WriteFault}
use Rattle.bike_http_response.specs.declared.status.Status.{Status}
use Rattle.bike_http_response.specs.Status.{code_of}
use Rattle.bike_http_response.specs.Sent.{Sends}
use Rattle.bike_operator.specs.Operator.{Operator}
use Rattle.bike_http_request.specs.declared.action.Action.{Action}
use Rattle.bike_http_request.specs.Received.{Received, WantsMemory}
use Rattle.bike_http_request.proofs.Once.{asks_once}
use Rattle.bike_http_response.specs.declared.answer.Answer.TheVariants as answer
use Rattle.bike_desk.specs.Desk.{DeskValue, IsAt}
use Rattle.bike_http.specs.Exchange.{answered, response_of, operator_after, response_status, IsGood, Answers}
use Rattle.bike_http.specs.Telling.{RespondsTo, Serves, RestsAfter, LeavesTables, Rests, Refuses, IsDone, end_of_sending, refusal_of}
use Rattle.bike_http.proofs.Told.{tells_any}
use Rattle.bike_http.specs.declared.exchange.Served.{Served}
use Rattle.bike_http.specs.declared.exchange.Served.TheVariants as served
use Rattle.bike_http.specs.declared.exchange.ServeFault.{ServeFault}

-- the status that is told, or 0
abbrev told_status : Result Served ServeFault → ℕ
told_status (Ok served.Empty) = 0
told_status (Ok (served.Status code)) = code
told_status (Err e) = 0

module _ {S : Type 0} (g : Ghosts S) (d : DeskValue S) (s : Operator) (t : ℕ) (input before after : Option (List ℕ)) where
  -- what the input asks for was known
  module _ (asked : Action) (received : IfSome input (λ bytes. Received bytes (Some asked))) (good : IsGood t asked) where
    abbrev answers : Answers input s t (response_of s t asked) (operator_after s t asked)
    answers = record { asked = asked; received = received; good = good; gives = refl; leads = refl }

    pub serves : (r : Result Status WriteFault) → RespondsTo g d s t asked before after r → Serves g d s t input before after (end_of_sending r)
    serves (Ok status) h = (h.0, inr (record { response = response_of s t asked; next = operator_after s t asked; answers = answers; told = h.1 }), ap code_of h.2, h.3)
    serves (Err fault) h = (h.0, inr (record { response = response_of s t asked; next = operator_after s t asked; answers = answers; told = h.1 }), h.2)

    done_at : (status : Status) → RespondsTo g d s t asked before after (Ok status) → code_of status ≡ 200 → IsDone g d s t input
    done_at status h is = elim (tells_any g d s asked h.1) [
      | inl told ↦ (response_of s t asked, operator_after s t asked, answers, told.1)
      | inr none ↦ absurd (let wrong : 200 ≡ 503 = sym is ∙ ap code_of h.2 ∙ ap response_status none.0 in omega (arith, wrong))
    ]

    pub is_done : (r : Result Status WriteFault) → RespondsTo g d s t asked before after r → end_of_sending r ≡ Ok (served.Status 200) → IsDone g d s t input
    is_done (Ok status) h is = done_at status h (ap told_status is)
    is_done (Err fault) h is = absurd (let wrong : 0 ≡ 200 = ap told_status is in omega (arith, wrong))

  -- memory was refused while it was read
  pub refuses : (r : Result Status WriteFault) → IfSome input WantsMemory → IsAt g d s → Sends before after answer.Unavailable r
      → Serves g d s t input before after (end_of_sending r)
  refuses (Ok status) wants at h = (answered answer.Unavailable, inl (refl, wants, at), ap code_of h.0, h.1)
  refuses (Err fault) wants at h = (answered answer.Unavailable, inl (refl, wants, at), h)

  pub never_done : (r : Result Status WriteFault) → Sends before after answer.Unavailable r → end_of_sending r ≡ Ok (served.Status 200) → IsDone g d s t input
  never_done (Ok status) h is = absurd (let wrong : 200 ≡ 503 = sym (ap told_status is) ∙ ap code_of h.0 in omega (arith, wrong))
  never_done (Err fault) h is = absurd (let wrong : 0 ≡ 200 = ap told_status is in omega (arith, wrong))

-- what a known input asks for is one thing
same_asked : (input : Option (List ℕ)) (asked other : Action) → IfSome input (λ bytes. Received bytes (Some asked))
    → IsSomeAnd input (λ bytes. Received bytes (Some other)) → asked ≡ other
same_asked None asked other received known = absurd known
same_asked (Some bytes) asked other received known = asks_once bytes asked other received.1 known.1

pub leaves_tables : {S : Type 0} (g : Ghosts S) (old new : DeskValue S) (s : Operator) (t : ℕ) (input : Option (List ℕ)) (asked : Action)
    → IfSome input (λ bytes. Received bytes (Some asked)) → RestsAfter g old new s t asked → LeavesTables g old new s t input
leaves_tables g old new s t input asked received rests other known =
    subst (λ (a : Action). RestsAfter g old new s t a) (same_asked input asked other received known) rests

pub rests : {S : Type 0} (old new : DeskValue S) (before after : Option (List ℕ)) (r : Result Status WriteFault) → Rests old new before after (end_of_sending r)
rests old new before after (Ok status) = tt
rests old new before after (Err fault) = tt

-- ---- a stopped desk

module _ (input before after : Option (List ℕ)) where
  -- what the input asks for was known
  pub stopped_refuses : (asked : Action) → IfSome input (λ bytes. Received bytes (Some asked)) → (r : Result Status WriteFault)
      → Sends before after (refusal_of asked) r → Refuses input before after (end_of_sending r)
  stopped_refuses asked received (Ok status) h = (refusal_of asked, inr (asked, received, refl), ap code_of h.0, h.1)
  stopped_refuses asked received (Err fault) h = (refusal_of asked, inr (asked, received, refl), h)

  -- memory was refused while it was read
  pub stopped_unread : (r : Result Status WriteFault) → IfSome input WantsMemory → Sends before after answer.Unavailable r
      → Refuses input before after (end_of_sending r)
  stopped_unread (Ok status) wants h = (answer.Unavailable, inl (refl, wants), ap code_of h.0, h.1)
  stopped_unread (Err fault) wants h = (answer.Unavailable, inl (refl, wants), h)
