-- Serving one row.
use Rattle.std.proofs.Common.{◌≡◌, ℕ, ◌≤◌, List, max, Option, None, Some, Result, Ok, Err, IsTrue, refl, ap, sym, subst, ◌∙◌}
use Rattle.std.specs.Prelude.{◌≢◌, IsErrAnd, option_map}
use Rattle.std.specs.FinMap as map
use Rattle.std.proofs.lemmas.Bool.{both_ways}
use Rattle.sqlite_trees.specs.declared.store.Store.{Ghosts}
use Rattle.bike_fixed.specs.Whole.{last_moment}
use Rattle.bike_catalogue.specs.Rows.{StationRow}
use Rattle.bike_commands.specs.declared.refusal.Refusal.{Refusal}
use Rattle.bike_commands.specs.declared.reply.Reply.TheVariants.{Refused}
use Rattle.bike_commands.specs.declared.request.Request.{Request}
use Rattle.bike_operator.specs.Operator.{Operator, AcceptedRequest, key_in, kept_under}
use Rattle.bike_operator.specs.Steps.{refusal_of}
use Rattle.bike_operator.specs.Runs.{Call, step, outcome_with_kept, outcome}
use Rattle.bike_schema.specs.Stands.{AllLeft}
use Rattle.bike_desk.specs.Desk.{DeskValue, desk_state, IsAt, KeepsDatabase, TreesStandForEither}
use Rattle.bike_desk.specs.declared.fault.DeskFault.{DeskFault}
use Rattle.bike_desk.specs.declared.fault.DeskFault.TheVariants.{NoMemory, StoreFailed, Stopped}
use Rattle.bike_batch.specs.declared.import_fault.ImportFault.{ImportFault}
use Rattle.bike_batch.specs.declared.import_fault.ImportFault.TheVariants.{BadHeader, Unreadable, Row, Read, TooManyRows, Desk}
use Rattle.bike_batch.specs.Rows.{Record, station_of, request_of, call_of, ChangesNothing}
use Rattle.bike_batch.specs.ImportServing.{ServesCall, ServesRow, MakesRequest}

-- what a `?` tells
pub err_is : {A : Type 0} (result : Result A ImportFault) (fault : ImportFault) → IsErrAnd result (λ told. told ≡ fault) → result ≡ Err fault
err_is (Ok x) fault told = absurd told
err_is (Err e) fault told = ap Err told

-- the desk didn't fail for its store
pub told_other : (result : Result ℕ ImportFault) (fault : ImportFault) (row : Result (Unit {0}) ImportFault) → result ≡ Err fault → row ≡ Err fault → result ≢ Err (Desk StoreFailed)
    → row ≢ Err (Desk StoreFailed)
told_other result fault row told is other failed =
    let same : fault ≡ Desk StoreFailed = cc in
    other (told ∙ ap Err same)

-- ---- a refused request changes nothing

decided_stays : (s : Operator) (now : ℕ) (name : List ℕ) (number : ℕ) (station : StationRow) (why : Option Refusal) (r : Refusal)
    → (outcome s now (request_of name number station) why).0 ≡ Refused r → (outcome s now (request_of name number station) why).1 ≡ s
decided_stays s now name number station None r is = absurd cc
decided_stays s now name number station (Some why) r is = refl

answered_stays : (s : Operator) (t : ℕ) (name : List ℕ) (number : ℕ) (station : StationRow) (kept : Option AcceptedRequest) (r : Refusal)
    → (outcome_with_kept s t (request_of name number station) kept).0 ≡ Refused r → (outcome_with_kept s t (request_of name number station) kept).1 ≡ s
answered_stays s t name number station None r is = decided_stays s (max t s.now) name number station (refusal_of s (request_of name number station).command) r is
answered_stays s t name number station (Some k) r is = refl

pub refused_stays : (s : Operator) (t : ℕ) (name : List ℕ) (number : ℕ) (station : StationRow) (r : Refusal)
    → (step s t (request_of name number station)).0 ≡ Refused r → (step s t (request_of name number station)).1 ≡ s
refused_stays s t name number station r is = answered_stays s t name number station (kept_under (key_in (request_of name number station)) s.history.items) r is

-- ---- the desk

module _ {S : Type 0} (g : Ghosts S) (old new : DeskValue S) (s : Operator) where
  -- the desk failed at the request
  pub fails : (number : ℕ) (c : Call) (result : Result (Unit {0}) ImportFault) (fault : DeskFault) → IsErrAnd result (λ told. told ≡ Desk fault) → IsAt g old s
      → (fault ≡ NoMemory → new ≡ old) → (fault ≡ StoreFailed → IsTrue new.is_stopped)
      → (fault ≡ StoreFailed → AllLeft (desk_state g new) (TreesStandForEither s (step s c.0 c.1).1)) → (fault ≡ Stopped → IsTrue old.is_stopped)
      → ServesCall g new s number c result
  fails number c result fault told at same stops failed stopped = subst (ServesCall g new s number c) (sym (err_is result (Desk fault) told)) (by fault same stops failed stopped)
    where
      by : (fault : DeskFault) → (fault ≡ NoMemory → new ≡ old) → (fault ≡ StoreFailed → IsTrue new.is_stopped)
          → (fault ≡ StoreFailed → AllLeft (desk_state g new) (TreesStandForEither s (step s c.0 c.1).1)) → (fault ≡ Stopped → IsTrue old.is_stopped)
          → ServesCall g new s number c (Err (Desk fault))
      by NoMemory same stops failed stopped = subst (λ (d : DeskValue S). IsAt g d s) (sym (same refl)) at
      by StoreFailed same stops failed stopped = (stops refl, failed refl)
      by Stopped same stops failed stopped = both_ways old.is_stopped at.goes_on (stopped refl)

  -- a request that changes nothing of the operator, and at which the desk failed
  pub keeps_database : (result : Result (Unit {0}) ImportFault) (fault : DeskFault) → IsErrAnd result (λ told. told ≡ Desk fault) → (fault ≡ NoMemory → new ≡ old)
      → (fault ≡ Stopped → new ≡ old) → result ≢ Err (Desk StoreFailed) → KeepsDatabase g old new
  keeps_database result NoMemory told same stopped other = ap (λ (d : DeskValue S). (desk_state g d).now) (same refl)
  keeps_database result StoreFailed told same stopped other = absurd (other (err_is result (Desk StoreFailed) told))
  keeps_database result Stopped told same stopped other = ap (λ (d : DeskValue S). (desk_state g d).now) (stopped refl)

  -- ---- the row

  module _ (moment : ℕ) (name : List ℕ) (number : ℕ) (fields : Record) where
    -- what is known of a row's request
    pub record HasRequest (q : Request) : Type 0 where
      pub station : StationRow
      pub is : q ≡ request_of name number station
      pub call : call_of moment name number fields ≡ Some (moment, q)

    request_is : (station : Option StationRow) (q : Request) → option_map (request_of name number) station ≡ Some q
        → (found : StationRow) × (q ≡ request_of name number found) × (option_map {U = Call} (λ station. (moment, request_of name number station)) station ≡ Some (moment, q))
    request_is None q made = absurd cc
    request_is (Some station) q made = let is : q ≡ request_of name number station = cc in (station, is, ap (λ (q : Request). Some (moment, q)) (sym is))

    has_request : (q : Request) → option_map (request_of name number) (station_of fields) ≡ Some q → HasRequest q
    has_request q made = let it = request_is (station_of fields) q made in record { station = it.0; is = it.1; call = it.2 }

    -- a row that changes nothing has a request that changes nothing
    pub request_none : (q : Request) → MakesRequest name number fields (Ok q) → ChangesNothing s (call_of moment name number fields) → ChangesNothing s (Some (moment, q))
    request_none q made none = subst (ChangesNothing s) (has_request q made.1).call none

    -- its request was served
    pub served_row : (q : Request) (result : Result (Unit {0}) ImportFault) → moment ≤ last_moment → MakesRequest name number fields (Ok q)
        → ServesCall g new s number (moment, q) result → ServesRow g new s number fields (call_of moment name number fields) result
    served_row q (Ok x) last made it =
        let r = has_request q made.1 in
        ((moment, q), r.call, record { good = record { moment = last; request = made.2 }; accepted = it.0; at = it.1 })
    served_row q (Err (Row n refusal)) last made it =
        let r = has_request q made.1 in
        let stays = refused_stays s moment name number r.station refusal (rw r.is at it.1) in
        (it.0, made.0, rw r.call it.1, subst (IsAt g new) stays (rw r.is at it.2))
    served_row q (Err (Desk NoMemory)) last made it = it
    served_row q (Err (Desk StoreFailed)) last made it =
        let r = has_request q made.1 in
        ((moment, q), r.call, record { good = record { moment = last; request = made.2 }; stopped = it.0; left = it.1 })
    served_row q (Err (Desk Stopped)) last made it = absurd it
    served_row q (Err BadHeader) last made it = absurd it
    served_row q (Err (Unreadable n)) last made it = absurd it
    served_row q (Err Read) last made it = absurd it
    served_row q (Err TooManyRows) last made it = absurd it
