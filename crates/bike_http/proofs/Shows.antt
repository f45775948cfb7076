-- What queries tell of an operator is shown as its rows.
use Rattle.std.proofs.Common.{◌≡◌, ℕ, Option, Some, None, Ok, Err, refl, ap}
use Rattle.std.specs.Prelude.{option_map}
use Rattle.sqlite_trees.specs.declared.store.Store.{Ghosts}
use Rattle.bike_operator.specs.declared.records.Bike.{Bike}
use Rattle.bike_operator.specs.declared.records.Order.{Order}
use Rattle.bike_operator.specs.declared.records.Rental.{Rental}
use Rattle.bike_operator.specs.Operator.{Operator, Rider}
use Rattle.bike_queries.specs.Infos.{rider_info, rental_info}
use Rattle.bike_ledger.specs.Ledger.{refunded_of}
use Rattle.bike_http_response.specs.declared.answer.Answer.TheVariants as answer
use Rattle.bike_desk.specs.declared.fault.DeskFault.{DeskFault}
use Rattle.bike_desk.specs.declared.fault.DeskFault.TheVariants.{NoMemory, StoreFailed, Stopped}
use Rattle.bike_desk.specs.Desk.{DeskValue}
use Rattle.bike_desk.specs.Queries.{Queries}
use Rattle.bike_http.specs.Shown.{shown_or_not_found, shown_rider, shown_rental}
use Rattle.bike_http.specs.Rows.{rider_answer, bike_answer, rental_answer, order_answer}

pub rider_shown : (s : Operator) (n : ℕ) (o : Option Rider) → rider_answer n (option_map (rider_info s n) o) ≡ shown_or_not_found (shown_rider s n) o
rider_shown s n None = refl
rider_shown s n (Some r) = refl

pub bike_shown : (n : ℕ) (o : Option Bike) → bike_answer n o ≡ shown_or_not_found (λ bike. answer.Bike n bike) o
bike_shown n None = refl
bike_shown n (Some bike) = refl

pub order_shown : (n : ℕ) (o : Option Order) → order_answer n o ≡ shown_or_not_found (λ order. answer.Order n order) o
order_shown n None = refl
order_shown n (Some order) = refl

pub rental_shown : (s : Operator) (n : ℕ) (o : Option Rental) → rental_answer n (option_map (rental_info (refunded_of n s.entries.items)) o) ≡ shown_or_not_found (shown_rental s n) o
rental_shown s n None = refl
rental_shown s n (Some r) = refl

-- a query's answer, told in other words
module _ {S : Type 0} (g : Ghosts S) (old new : DeskValue S) {A B : Type 0} (says : Operator → A → Type 0) (tells : Operator → B → Type 0) where
  pub query_told : (x : A) (y : B) → ((s : Operator) → says s x → tells s y) → Queries g old new (Ok x) says → Queries g old new (Ok y) tells
  query_told x y tell q = record {
    clean = q.clean;
    ok = λ clean s at. (tell s (q.ok clean s at).0, (q.ok clean s at).1);
    rests = q.rests;
    goes_on = q.goes_on;
    left = q.left;
    no_memory = λ is. absurd cc;
    stops = λ is. absurd cc;
    stopped = λ is. absurd cc;
    stays = λ is_stopped. let same = (q.stays is_stopped).0 in absurd cc;
  }

  pub query_failed : (e : DeskFault) → Queries g old new {A = A} (Err e) says → Queries g old new {A = B} (Err e) tells
  query_failed e q = record {
    clean = q.clean;
    ok = λ clean s at. tt;
    rests = q.rests;
    goes_on = tt;
    left = q.left;
    no_memory = λ is. q.no_memory (let same : e ≡ NoMemory = cc in ap Err same);
    stops = λ is. q.stops (let same : e ≡ StoreFailed = cc in ap Err same);
    stopped = λ is. q.stopped (let same : e ≡ Stopped = cc in ap Err same);
    stays = λ is_stopped. let both = q.stays is_stopped in (let same : e ≡ Stopped = (let r = both.0 in cc) in ap Err same, both.1);
  }
