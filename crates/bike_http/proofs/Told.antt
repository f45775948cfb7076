-- What is told of a request, after a call of the desk and the sending of an answer.
use Rattle.std.proofs.Common.{◌≡◌, inl, ℕ, List, Option, false, IsTrue, Result, Ok, Err, refl, sym, ap, subst}
use Rattle.std.proofs.lemmas.Bool.{both_ways}
use Rattle.sqlite_trees.specs.declared.store.Store.{Ghosts}
use Rattle.sqlite.specs.State.{HasCleanDisk}
use Rattle.bike_stream.specs.declared.write.WriteFault.{WriteFault}
use Rattle.bike_http_response.specs.declared.status.Status.{Status}
use Rattle.bike_http_response.specs.Sent.{Sends}
use Rattle.bike_operator.specs.Operator.{Operator}
use Rattle.bike_schema.specs.Stands.{AllLeft}
use Rattle.bike_http_head.specs.declared.rejection.Rejection.{Rejection}
use Rattle.bike_http_request.specs.declared.action.Action.{Action}
use Rattle.bike_http_request.specs.declared.action.Action.TheVariants.{Reject, Apply, Show, Publish}
use Rattle.bike_http_response.specs.declared.answer.Answer.{Answer}
use Rattle.bike_http_response.specs.declared.answer.Answer.TheVariants as answer
use Rattle.bike_desk.specs.declared.fault.DeskFault.{DeskFault}
use Rattle.bike_desk.specs.declared.fault.DeskFault.TheVariants.{NoMemory, StoreFailed, Stopped}
use Rattle.bike_desk.specs.Desk.{DeskValue, desk_state, IsAt, TreesStandForEither}
use Rattle.bike_desk.specs.Queries.{Queries}
use Rattle.bike_http.specs.Exchange.{Response, answered, response_of, operator_after}
use Rattle.bike_http.specs.Telling.{IsUndone, Tells, TellsAsked, Responds, RespondsTo}

module _ {S : Type 0} (g : Ghosts S) (d : DeskValue S) (s next : Operator) where
  pub at_first : IsAt g d s → IsUndone g d s next
  at_first at = record { goes_on = λ going. at; left = λ db h. inl (at.keeps.left db h) }

  pub responds : (response : Response) (a : Answer) (before after : Option (List ℕ)) (r : Result Status WriteFault) → Tells g d s response next (answered a)
      → Sends before after a r → Responds g d s response next before after r
  responds response a before after (Ok status) told h = (answered a, told, h.0, h.1)
  responds response a before after (Err fault) told h = (answered a, told, h)

module _ {S : Type 0} (g : Ghosts S) (old new : DeskValue S) (s next : Operator) (clean : HasCleanDisk (desk_state g new)) (at : IsAt g old s) where
  -- a request failed
  pub act_undone : (e : DeskFault) → (e ≡ NoMemory → new ≡ old) → (e ≡ StoreFailed → AllLeft (desk_state g new) (TreesStandForEither s next))
      → (e ≡ StoreFailed → IsTrue new.is_stopped) → (e ≡ Stopped → IsTrue old.is_stopped) → IsUndone g new s next
  act_undone NoMemory same failed stops stopped = at_first g new s next (subst (λ (d : DeskValue S). IsAt g d s) (sym (same refl)) at)
  act_undone StoreFailed same failed stops stopped = record { goes_on = λ going. absurd (both_ways new.is_stopped going (stops refl)); left = failed refl }
  act_undone Stopped same failed stops stopped = absurd (both_ways old.is_stopped at.goes_on (stopped refl))

  -- .. and left the database, where the desk goes on
  pub act_rests : (e : DeskFault) → (e ≡ NoMemory → new ≡ old) → (e ≡ StoreFailed → IsTrue new.is_stopped) → (e ≡ Stopped → IsTrue old.is_stopped)
      → new.is_stopped ≡ false → (desk_state g new).now ≡ (desk_state g old).now
  act_rests NoMemory same stops stopped on = ap (λ (d : DeskValue S). (desk_state g d).now) (same refl)
  act_rests StoreFailed same stops stopped on = absurd (both_ways new.is_stopped on (stops refl))
  act_rests Stopped same stops stopped on = absurd (both_ways old.is_stopped at.goes_on (stopped refl))

  -- a query failed
  pub query_undone : {A : Type 0} (says : Operator → A → Type 0) (e : DeskFault) → Queries g old new {A = A} (Err e) says → IsUndone g new s next
  query_undone says NoMemory q = at_first g new s next (subst (λ (d : DeskValue S). IsAt g d s) (sym (q.no_memory refl)) at)
  query_undone says StoreFailed q =
      record { goes_on = λ going. absurd (both_ways new.is_stopped going (q.stops refl)); left = λ db h. inl (at.keeps.left db (q.left clean s at db h)) }
  query_undone says Stopped q = absurd (both_ways old.is_stopped at.goes_on (q.stopped refl))

-- what is told of what was asked
pub tells_any : {S : Type 0} (g : Ghosts S) (d : DeskValue S) (s : Operator) (asked : Action) {response sent : Response} {next : Operator}
    → TellsAsked g d s asked response next sent → Tells g d s response next sent
tells_any g d s (Reject rejection) told = inl told
tells_any g d s (Apply q) told = told
tells_any g d s (Show row) told = told
tells_any g d s (Publish named) told = told

module _ {S : Type 0} (g : Ghosts S) (d : DeskValue S) (s : Operator) (t : ℕ) (before after : Option (List ℕ)) (r : Result Status WriteFault) where
  -- the response to what was asked, of what is asked of the desk
  pub responds_so : (asked : Action)
      → ((sent : Response) → Tells g d s (response_of s t asked) (operator_after s t asked) sent → TellsAsked g d s asked (response_of s t asked) (operator_after s t asked) sent)
      → Responds g d s (response_of s t asked) (operator_after s t asked) before after r → RespondsTo g d s t asked before after r
  responds_so asked so h = go r h where
    go : (r : Result Status WriteFault) → Responds g d s (response_of s t asked) (operator_after s t asked) before after r → RespondsTo g d s t asked before after r
    go (Ok status) h = (h.0, so h.0 h.1, h.2, h.3)
    go (Err fault) h = (h.0, so h.0 h.1, h.2)

  -- .. and of what is answered at once
  pub rejects : (rejection : Rejection) → IsAt g d s → Sends before after (answer.Rejected rejection) r → RespondsTo g d s t (Reject rejection) before after r
  rejects rejection at h = go r h where
    go : (r : Result Status WriteFault) → Sends before after (answer.Rejected rejection) r → RespondsTo g d s t (Reject rejection) before after r
    go (Ok status) h = (answered (answer.Rejected rejection), (refl, at), h.0, h.1)
    go (Err fault) h = (answered (answer.Rejected rejection), (refl, at), h)

  pub responds_to : (asked a : Action) → asked ≡ a → RespondsTo g d s t a before after r → RespondsTo g d s t asked before after r
  responds_to asked a is h = subst (λ (x : Action). RespondsTo g d s t x before after r) (sym is) h
