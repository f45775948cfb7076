-- One connection after the other.
use Rattle.std.proofs.Common.{◌≡◌, ℕ, ◌≤◌, List, [], ◌∷◌, ◌++◌, length, refl, sym, subst, ◌∙◌, append_assoc, Option, Result, Ok, Err, inl, inr, arith}
use Rattle.sqlite_trees.specs.declared.store.Store.{Ghosts}
use Rattle.sqlite.specs.Held.{Held}
use Rattle.bike_operator.specs.Operator.{Operator}
use Rattle.bike_operator.specs.Runs.{Call, after}
use Rattle.bike_operator.specs.Sound.{AreCalls}
use Rattle.bike_laws.proofs.RunLemmas.{after-append}
use Rattle.bike_http_request.specs.declared.action.Action.{Action}
use Rattle.bike_http_request.specs.declared.action.Action.TheVariants.{Reject, Apply, Show, Publish}
use Rattle.bike_schema.specs.Stands.{AllLeft}
use Rattle.bike_desk.specs.Desk.{DeskValue, desk_state, IsAt}
use Rattle.bike_http.specs.Exchange.{Response, operator_after, IsGood}
use Rattle.bike_http.specs.Telling.{IsUndone, Tells, TellsFor, Serves, Rests}
use Rattle.bike_http.specs.declared.exchange.Served.{Served}
use Rattle.bike_http.specs.declared.exchange.Served.TheVariants.{Empty, Status}
use Rattle.bike_http.specs.declared.exchange.ServeFault.{ServeFault}
use Rattle.bike_http.specs.declared.exchange.ServeFault.TheVariants.{Read, Write, Cut}
use Rattle.bike_http.proofs.Told.{tells_any}
use Rattle.bike_console.specs.declared.end.Fault.{Fault}
use Rattle.bike_server.specs.declared.fault.ServerFault.{ServerFault}
use Rattle.bike_server.specs.Listening.{end_of_serving, EndsListening}
use Rattle.bike_server.specs.Serving.{ServesRequests, StandsAfterRequests}

-- what an input asks for is at most one request, and a good one
asked_once : (s : Operator) (t : ℕ) (asked : Action) → IsGood t asked
    → (calls : List Call) × (length calls ≤ 1) × (operator_after s t asked ≡ after s calls) × AreCalls calls
asked_once s t (Reject rejection) good = ([], omega arith, refl, tt)
asked_once s t (Apply q) good = ((t, q) ∷ [], omega arith, refl, (good, tt))
asked_once s t (Show row) good = ([], omega arith, refl, tt)
asked_once s t (Publish feed) good = ([], omega arith, refl, tt)

both_good : (calls more : List Call) → AreCalls calls → AreCalls more → AreCalls (calls ++ more)
both_good [] more first second = second
both_good (c ∷ calls) more first second = (first.0, both_good calls more first.1 second)

module _ {S : Type 0} (g : Ghosts S) (desk : DeskValue S) where
  -- the desk is at the operator after requests
  pub served : (s : Operator) (calls : List Call) → AreCalls calls → IsAt g desk (after s calls) → ServesRequests g desk s
  served s calls good at = record {
    calls = calls;
    more = [];
    one = omega arith;
    good = good;
    good_more = tt;
    goes_on = λ on. at;
    left = λ db crash. inl (at.keeps.left db crash);
  }

  -- a request failed
  undone : (s : Operator) (calls : List Call) → length calls ≤ 1 → AreCalls calls → IsUndone g desk s (after s calls) → ServesRequests g desk s
  undone s calls few good it = record { calls = []; more = calls; one = few; good = tt; good_more = good; goes_on = it.goes_on; left = it.left }

  told : (s : Operator) (t : ℕ) (response sent : Response) (asked : Action) (next : Operator) → next ≡ operator_after s t asked → IsGood t asked
      → Tells g desk s response next sent → ServesRequests g desk s
  told s t response sent asked next leads good (inl it) =
      let once = asked_once s t asked good in
      served s once.0 once.3 (subst (IsAt g desk) (leads ∙ once.2) it.1)
  told s t response sent asked next leads good (inr it) =
      let once = asked_once s t asked good in
      undone s once.0 once.1 once.3 (subst (IsUndone g desk s) (leads ∙ once.2) it.1)

  told_for : (s : Operator) (t : ℕ) (input : Option (List ℕ)) (sent : Response) → TellsFor g desk s t input sent → ServesRequests g desk s
  told_for s t input sent (inl it) = served s [] tt it.2
  told_for s t input sent (inr it) =
      told s t it.response sent it.answers.asked it.next it.answers.leads it.answers.good (tells_any g desk s it.answers.asked it.told)

  -- one exchange, of a known input or not
  pub exchanged : (old : DeskValue S) (s : Operator) (t : ℕ) (input before written : Option (List ℕ)) (result : Result Served ServeFault)
      → IsAt g old s → Rests old desk before written result → Serves g desk s t input before written result → ServesRequests g desk s
  exchanged old s t input before written (Ok Empty) at rests it = served s [] tt (subst (λ (d : DeskValue S). IsAt g d s) (sym rests.0) at)
  exchanged old s t input before written (Ok (Status status)) at rests it = told_for s t input it.0 it.1
  exchanged old s t input before written (Err Read) at rests it = served s [] tt (subst (λ (d : DeskValue S). IsAt g d s) (sym rests.0) at)
  exchanged old s t input before written (Err Write) at rests it = told_for s t input it.0 it.1
  exchanged old s t input before written (Err Cut) at rests it = absurd it

  -- requests, and then others
  pub joined : (s : Operator) (calls : List Call) → AreCalls calls → ServesRequests g desk (after s calls) → ServesRequests g desk s
  joined s calls good it = record {
    calls = calls ++ it.calls;
    more = it.more;
    one = it.one;
    good = both_good calls it.calls good it.good;
    good_more = it.good_more;
    goes_on = λ on. subst (IsAt g desk) (sym (after-append s calls it.calls)) (it.goes_on on);
    left = λ db crash. rw (after-append s calls it.calls, append_assoc calls it.calls it.more, after-append s calls (it.calls ++ it.more)) (it.left db crash);
  }

  -- what a crash may leave then
  pub requests_left : (s : Operator) → ServesRequests g desk s → AllLeft (desk_state g desk) (StandsAfterRequests s)
  requests_left s it db crash = elim (it.left db crash) [
    | inl before ↦ (it.calls, it.good, before)
    | inr later ↦ (it.calls ++ it.more, both_good it.calls it.more it.good it.good_more, later)
  ]

-- serving ended, and so listening
pub ends_listening : {S : Type 0} (g : Ghosts S) (first last : Held S) (old new : Option (List ℕ)) (served : Result (Unit {0}) ServerFault) (result : Result ℕ Fault)
    → result ≡ end_of_serving served → EndsListening g first last old new result
ends_listening g first last old new served result is = subst (EndsListening g first last old new) (sym is) (ends served) where
  ends : (served : Result (Unit {0}) ServerFault) → EndsListening g first last old new (end_of_serving served)
  ends (Ok x) = refl
  ends (Err fault) = inl (fault, refl)
