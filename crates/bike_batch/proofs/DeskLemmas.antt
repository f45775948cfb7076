-- What the desk is after its questions.
use Rattle.std.proofs.Common.{◌≡◌, ◌≤◌, Bool, true, false, IsTrue, Result, Ok, Err, refl, sym, ◌∙◌, subst, arith}
use Rattle.sqlite_trees.specs.View.{doubt}
use Rattle.sqlite_trees.specs.declared.store.Store.{Ghosts}
use Rattle.sqlite.specs.State.{HasCleanDisk}
use Rattle.bike_operator.specs.Operator.{Operator}
use Rattle.bike_fixed.specs.declared.day.DayFault.{DayFault}
use Rattle.bike_desk.specs.declared.fault.DeskFault.{DeskFault}
use Rattle.bike_desk.specs.declared.fault.DeskFault.TheVariants.{NoMemory}
use Rattle.bike_desk.specs.Desk.{DeskValue, desk_state, IsAt}
use Rattle.bike_desk.specs.Queries.{Queries}
use Rattle.bike_batch.specs.declared.day_fault.DayTableFault.{DayTableFault}
use Rattle.bike_batch.specs.declared.day_fault.DayTableFault.TheVariants.{Day, Write, Desk}
use Rattle.bike_batch.specs.Ends.{LeavesDesk}
use Rattle.bike_batch.specs.Walking.{StaysAt}

-- a fault of the desk as its own call told it
told : {A B : Type 0} {x y : DeskFault} → ◌≡◌ {A = Result B DayTableFault} (Err (Desk x)) (Err (Desk y))
    → ◌≡◌ {A = Result A DeskFault} (Err x) (Err y)
told is = cc

fault_is : {A : Type 0} {x y : DeskFault} → ◌≡◌ {A = Result A DeskFault} (Err x) (Err y) → x ≡ y
fault_is is = cc

pub going_only : (stopped : Bool) → stopped ≡ false → IsTrue stopped → ⊥
going_only stopped going is_stopped = let e : true ≡ false = sym is_stopped ∙ going in absurd cc

module _ {S : Type 0} (g : Ghosts S) where
  -- a desk that answered was going on
  was_going : {A : Type 0} {says : Operator → A → Type 0} {d e : DeskValue S} (x : A) → Queries g d e (Ok x) says → d.is_stopped ≡ false
  was_going {d = d} x q = go d.is_stopped refl where
    go : (b : Bool) → d.is_stopped ≡ b → d.is_stopped ≡ false
    go true is = let it = (q.stays is).0 in absurd cc
    go false is = is

  pub earlier : (d e : DeskValue S) → doubt (desk_state g d).is_clean ≤ doubt (desk_state g e).is_clean → HasCleanDisk (desk_state g e)
      → HasCleanDisk (desk_state g d)
  earlier d e le clean = omega (arith, le, clean)

  -- a question that was answered
  pub stays_asked : {A : Type 0} {says : Operator → A → Type 0} {d e : DeskValue S} (x : A) → Queries g d e (Ok x) says → StaysAt g d e
  stays_asked x q = record {
    clean = q.clean;
    same = λ clean s at. (q.ok clean s at).1;
    rests = λ clean s at. q.rests clean s at q.goes_on;
    left = q.left;
    went_on = was_going x q;
    goes_on = q.goes_on;
  }

  -- an answer that says the same of the operator
  pub asked_as : {A : Type 0} {says : Operator → A → Type 0} {d e : DeskValue S} (x y : A) → ((s : Operator) → says s x → says s y)
      → Queries g d e (Ok x) says
      → Queries g d e (Ok y) says
  asked_as x y then_so q = record {
    clean = q.clean;
    ok = λ clean s at. let it = q.ok clean s at in (then_so s it.0, it.1);
    rests = q.rests;
    goes_on = q.goes_on;
    left = q.left;
    no_memory = λ is. absurd cc;
    stops = λ is. absurd cc;
    stopped = λ is. absurd cc;
    stays = λ is_stopped. let it = (q.stays is_stopped).0 in absurd cc;
  }

  pub stays_then : {d e f : DeskValue S} → StaysAt g d e → StaysAt g e f → StaysAt g d f
  stays_then {d} {e} {f} p q = record {
    clean = omega (arith, p.clean, q.clean);
    same = λ clean s at. q.same clean s (p.same (earlier e f q.clean clean) s at);
    rests = λ clean s at. q.rests clean s (p.same (earlier e f q.clean clean) s at) ∙ p.rests (earlier e f q.clean clean) s at;
    left = λ clean s at db h. p.left (earlier e f q.clean clean) s at db (q.left clean s (p.same (earlier e f q.clean clean) s at) db h);
    went_on = p.went_on;
    goes_on = q.goes_on;
  }

  -- ---- the ends of a table

  -- a question failed, the first of all
  pub leaves_first : {A B : Type 0} {says : Operator → A → Type 0} {d e : DeskValue S} (fault : DeskFault)
      → Queries g d e (Err fault) says
      → LeavesDesk g d e {A = B} (Err (Desk fault))
  leaves_first {A} {B} {d = d} fault q = record {
    clean = q.clean;
    same = λ clean s at. tt;
    day = λ refused is. absurd cc;
    write = λ clean s at is. absurd cc;
    no_memory = λ clean s at is. subst (λ (x : DeskValue S). IsAt g x s) (sym (q.no_memory (told {A = A} {B = B} is))) at;
    rests = q.rests;
    left = q.left;
    goes_on = tt;
    stops = λ is. q.stops (told {A = A} {B = B} is);
    stopped = λ is. q.stopped (told {A = A} {B = B} is);
    stays = λ is_stopped. let it = q.stays is_stopped in let at_stopped = it.0 in (it.1, fault_is at_stopped);
  }

  -- or one behind questions that were answered
  pub leaves_failed : {A B : Type 0} {says : Operator → A → Type 0} {d e f : DeskValue S} (fault : DeskFault) → StaysAt g d e
      → Queries g e f (Err fault) says
      → LeavesDesk g d f {A = B} (Err (Desk fault))
  leaves_failed {A} {B} {says} {d} {e} {f} fault p q = record {
    clean = omega (arith, p.clean, q.clean);
    same = λ clean s at. tt;
    day = λ refused is. absurd cc;
    write = λ clean s at is. absurd cc;
    no_memory = λ clean s at is. subst (λ (x : DeskValue S). IsAt g x s) (sym (q.no_memory (told {A = A} {B = B} is)))
        (p.same (earlier e f q.clean clean) s at);
    rests = λ clean s at on. q.rests clean s (p.same (earlier e f q.clean clean) s at) on ∙ p.rests (earlier e f q.clean clean) s at;
    left = λ clean s at db h. p.left (earlier e f q.clean clean) s at db (q.left clean s (p.same (earlier e f q.clean clean) s at) db h);
    goes_on = tt;
    stops = λ is. q.stops (told {A = A} {B = B} is);
    stopped = λ is. absurd (going_only _ p.goes_on (q.stopped (told {A = A} {B = B} is)));
    stays = λ is_stopped. absurd (going_only _ p.went_on is_stopped);
  }

  -- all is well
  pub leaves_ok : {A : Type 0} {d e : DeskValue S} (x : A) → StaysAt g d e → LeavesDesk g d e (Ok x)
  leaves_ok x p = record {
    clean = p.clean;
    same = p.same;
    day = λ refused is. absurd cc;
    write = λ clean s at is. absurd cc;
    no_memory = λ clean s at is. absurd cc;
    rests = λ clean s at on. p.rests clean s at;
    left = p.left;
    goes_on = p.goes_on;
    stops = λ is. absurd cc;
    stopped = λ is. absurd cc;
    stays = λ is_stopped. absurd (going_only _ p.went_on is_stopped);
  }

  -- a write failed
  pub leaves_write : {A : Type 0} {d e : DeskValue S} → StaysAt g d e → LeavesDesk g d e {A = A} (Err Write)
  leaves_write p = record {
    clean = p.clean;
    same = λ clean s at. tt;
    day = λ refused is. absurd cc;
    write = λ clean s at is. p.same clean s at;
    no_memory = λ clean s at is. absurd cc;
    rests = λ clean s at on. p.rests clean s at;
    left = p.left;
    goes_on = tt;
    stops = λ is. absurd cc;
    stopped = λ is. absurd cc;
    stays = λ is_stopped. absurd (going_only _ p.went_on is_stopped);
  }

  -- memory for a line was refused
  pub leaves_short : {A : Type 0} {d e : DeskValue S} → StaysAt g d e → LeavesDesk g d e {A = A} (Err (Desk NoMemory))
  leaves_short p = record {
    clean = p.clean;
    same = λ clean s at. tt;
    day = λ refused is. absurd cc;
    write = λ clean s at is. absurd cc;
    no_memory = λ clean s at is. p.same clean s at;
    rests = λ clean s at on. p.rests clean s at;
    left = p.left;
    goes_on = tt;
    stops = λ is. absurd cc;
    stopped = λ is. absurd cc;
    stays = λ is_stopped. absurd (going_only _ p.went_on is_stopped);
  }

  -- a day is refused before the desk is asked
  pub leaves_unasked : {A : Type 0} (d : DeskValue S) (fault : DayFault) → LeavesDesk g d d {A = A} (Err (Day fault))
  leaves_unasked d fault = record {
    clean = omega arith;
    same = λ clean s at. tt;
    day = λ refused is. refl;
    write = λ clean s at is. absurd cc;
    no_memory = λ clean s at is. absurd cc;
    rests = λ clean s at on. refl;
    left = λ clean s at db h. h;
    goes_on = tt;
    stops = λ is. absurd cc;
    stopped = λ is. absurd cc;
    stays = λ is_stopped. (refl, tt);
  }
