-- What the desk is after its questions.
use Rattle.std.proofs.Common.{◌≡◌, ◌≢◌, ◌≤◌, Bool, true, false, IsTrue, None, Result, Ok, Err, refl, sym, ap, ◌∙◌, subst, arith}
use Rattle.std.specs.Result.{IsErrAnd}
use Rattle.sqlite_trees.specs.View.{doubt}
use Rattle.sqlite_trees.specs.declared.store.Store.{Ghosts}
use Rattle.sqlite.specs.State.{HasCleanDisk}
use Rattle.bike_operator.specs.Operator.{Operator}
use Rattle.bike_desk.specs.declared.fault.DeskFault.{DeskFault}
use Rattle.bike_desk.specs.declared.fault.DeskFault.TheVariants.{NoMemory}
use Rattle.bike_desk.specs.Desk.{DeskValue, desk_state, IsAt}
use Rattle.bike_desk.specs.Queries.{Queries}
use Rattle.bike_feeds.specs.declared.fault.FeedFault.{FeedFault}
use Rattle.bike_feeds.specs.declared.fault.FeedFault.TheVariants.{SystemMissing, Write, Desk}
use Rattle.bike_feeds.specs.Publishing.{LeavesDesk, WantsNoMemory}
use Rattle.bike_feeds.specs.Walking.{StaysAt}

-- the same fault as the end of another function
pub same_fault : {A B : Type 0} {x y : FeedFault} → ◌≡◌ {A = Result A FeedFault} (Err x) (Err y) → ◌≡◌ {A = Result B FeedFault} (Err x) (Err y)
same_fault is = cc

told : {A B : Type 0} {x y : DeskFault} → ◌≡◌ {A = Result B FeedFault} (Err (Desk x)) (Err (Desk y)) → ◌≡◌ {A = Result A DeskFault} (Err x) (Err y)
told is = cc

-- the fault of a question that takes no memory
pub wants_none : {A B : Type 0} (fault : DeskFault) → ◌≢◌ {A = Result A DeskFault} (Err fault) (Err NoMemory) → WantsNoMemory {A = B} (Err (Desk fault))
wants_none fault none = λ is. let same : fault ≡ NoMemory = cc in none (ap (λ (x : DeskFault). Err x) same)

-- .. and handed on
pub no_want : {A B : Type 0} (fault : DeskFault) (result : Result B FeedFault) → IsErrAnd result (λ told. told ≡ Desk fault)
    → ◌≢◌ {A = Result A DeskFault} (Err fault) (Err NoMemory) → WantsNoMemory result
no_want fault (Ok x) told none = absurd told
no_want {B = B} fault (Err other) told none = subst (λ (f : FeedFault). WantsNoMemory {A = B} (Err f)) (sym told) (wants_none fault none)

pub going_only : (stopped : Bool) → stopped ≡ false → IsTrue stopped → ⊥
going_only stopped going is_stopped = let e : true ≡ false = sym is_stopped ∙ going in absurd cc

module _ {S : Type 0} (g : Ghosts S) where
  pub earlier : (d e : DeskValue S) → doubt (desk_state g d).is_clean ≤ doubt (desk_state g e).is_clean → HasCleanDisk (desk_state g e) → HasCleanDisk (desk_state g d)
  earlier d e le clean = omega (arith, le, clean)

  -- nothing was asked
  pub stays_still : (d : DeskValue S) → d.is_stopped ≡ false → StaysAt g d d
  stays_still d going = record {
    clean = omega arith;
    same = λ clean s at. at;
    rests = λ clean s at. refl;
    left = λ clean s at db h. h;
    went_on = going;
    goes_on = going;
  }

  -- a question that was answered
  pub stays_asked : {A : Type 0} {says : Operator → A → Type 0} {d e : DeskValue S} (x : A) → d.is_stopped ≡ false → Queries g d e (Ok x) says → StaysAt g d e
  stays_asked x going q = record {
    clean = q.clean;
    same = λ clean s at. (q.ok clean s at).1;
    rests = λ clean s at. q.rests clean s at q.goes_on;
    left = q.left;
    went_on = going;
    goes_on = q.goes_on;
  }

  pub stays_then : {d e f : DeskValue S} → StaysAt g d e → StaysAt g e f → StaysAt g d f
  stays_then {d} {e} {f} p q = record {
    clean = omega (arith, p.clean, q.clean);
    same = λ clean s at. q.same clean s (p.same (earlier e f q.clean clean) s at);
    rests = λ clean s at. q.rests clean s (p.same (earlier e f q.clean clean) s at) ∙ p.rests (earlier e f q.clean clean) s at;
    left = λ clean s at db h. p.left (earlier e f q.clean clean) s at db (q.left clean s (p.same (earlier e f q.clean clean) s at) db h);
    went_on = p.went_on;
    goes_on = q.goes_on;
  }

  -- what an end is after questions that were answered: one that failed comes behind them
  pub leaves_failed : {A B : Type 0} {says : Operator → A → Type 0} {d e f : DeskValue S} (fault : DeskFault) → StaysAt g d e → Queries g e f (Err fault) says
      → LeavesDesk g d f {A = B} (Err (Desk fault))
  leaves_failed {A} {B} {says} {d} {e} {f} fault p q = record {
    clean = omega (arith, p.clean, q.clean);
    same = λ clean s at. tt;
    missing = λ clean s at is. absurd cc;
    write = λ clean s at is. absurd cc;
    no_memory = λ clean s at is. subst (λ (x : DeskValue S). IsAt g x s) (sym (q.no_memory (told is))) (p.same (earlier e f q.clean clean) s at);
    rests = λ clean s at on. q.rests clean s (p.same (earlier e f q.clean clean) s at) on ∙ p.rests (earlier e f q.clean clean) s at;
    left = λ clean s at db h. p.left (earlier e f q.clean clean) s at db (q.left clean s (p.same (earlier e f q.clean clean) s at) db h);
    goes_on = tt;
    stops = λ is. q.stops (told is);
    stopped = λ is. absurd (going_only _ p.goes_on (q.stopped (told is)));
    stays = λ is_stopped. absurd (going_only _ p.went_on is_stopped);
  }

  -- or all is well
  pub leaves_ok : {A : Type 0} {d e : DeskValue S} (x : A) → StaysAt g d e → LeavesDesk g d e (Ok x)
  leaves_ok x p = record {
    clean = p.clean;
    same = p.same;
    missing = λ clean s at is. absurd cc;
    write = λ clean s at is. absurd cc;
    no_memory = λ clean s at is. absurd cc;
    rests = λ clean s at on. p.rests clean s at;
    left = p.left;
    goes_on = p.goes_on;
    stops = λ is. absurd cc;
    stopped = λ is. absurd cc;
    stays = λ is_stopped. absurd (going_only _ p.went_on is_stopped);
  }

  -- or a write failed
  pub leaves_write : {A : Type 0} {d e : DeskValue S} → StaysAt g d e → LeavesDesk g d e {A = A} (Err Write)
  leaves_write p = record {
    clean = p.clean;
    same = λ clean s at. tt;
    missing = λ clean s at is. absurd cc;
    write = λ clean s at is. p.same clean s at;
    no_memory = λ clean s at is. absurd cc;
    rests = λ clean s at on. p.rests clean s at;
    left = p.left;
    goes_on = tt;
    stops = λ is. absurd cc;
    stopped = λ is. absurd cc;
    stays = λ is_stopped. absurd (going_only _ p.went_on is_stopped);
  }

  -- a desk that was asked and left as it is told stays
  pub left_well : {A : Type 0} {d e : DeskValue S} (x : A) → d.is_stopped ≡ false → LeavesDesk g d e (Ok x) → StaysAt g d e
  left_well x going l = record { clean = l.clean; same = l.same; rests = λ clean s at. l.rests clean s at l.goes_on; left = l.left; went_on = going; goes_on = l.goes_on }

  -- no system is set
  pub leaves_missing : {A : Type 0} {d e : DeskValue S} → StaysAt g d e → (HasCleanDisk (desk_state g e) → (s : Operator) → IsAt g d s → s.system ≡ None)
      → LeavesDesk g d e {A = A} (Err SystemMissing)
  leaves_missing p none = record {
    clean = p.clean;
    same = λ clean s at. tt;
    missing = λ clean s at is. (none clean s at, p.same clean s at);
    write = λ clean s at is. absurd cc;
    no_memory = λ clean s at is. absurd cc;
    rests = λ clean s at on. p.rests clean s at;
    left = p.left;
    goes_on = tt;
    stops = λ is. absurd cc;
    stopped = λ is. absurd cc;
    stays = λ is_stopped. absurd (going_only _ p.went_on is_stopped);
  }

  -- more was done behind questions that were answered
  pub leaves_then : {A : Type 0} {d e f : DeskValue S} {result : Result A FeedFault} → StaysAt g d e → LeavesDesk g e f result → LeavesDesk g d f result
  leaves_then {e = e} {f = f} {result = Ok x} p l = leaves_ok x (stays_then p (left_well x p.goes_on l))
  leaves_then {e = e} {f = f} {result = Err fault} p l = record {
    clean = omega (arith, p.clean, l.clean);
    same = λ clean s at. tt;
    missing = λ clean s at is. l.missing clean s (p.same (earlier e f l.clean clean) s at) is;
    write = λ clean s at is. l.write clean s (p.same (earlier e f l.clean clean) s at) is;
    no_memory = λ clean s at is. l.no_memory clean s (p.same (earlier e f l.clean clean) s at) is;
    rests = λ clean s at on. l.rests clean s (p.same (earlier e f l.clean clean) s at) on ∙ p.rests (earlier e f l.clean clean) s at;
    left = λ clean s at db h. p.left (earlier e f l.clean clean) s at db (l.left clean s (p.same (earlier e f l.clean clean) s at) db h);
    goes_on = tt;
    stops = l.stops;
    stopped = λ is. absurd (going_only _ p.goes_on (l.stopped is));
    stays = λ is_stopped. absurd (going_only _ p.went_on is_stopped);
  }

  -- the same fault of another function
  pub leaves_same : {A B : Type 0} {d e : DeskValue S} (fault : FeedFault) → LeavesDesk g d e {A = A} (Err fault) → LeavesDesk g d e {A = B} (Err fault)
  leaves_same fault l = record {
    clean = l.clean;
    same = λ clean s at. tt;
    missing = λ clean s at is. l.missing clean s at (same_fault is);
    write = λ clean s at is. l.write clean s at (same_fault is);
    no_memory = λ clean s at is. l.no_memory clean s at (same_fault is);
    rests = l.rests;
    left = l.left;
    goes_on = tt;
    stops = λ is. l.stops (same_fault is);
    stopped = λ is. l.stopped (same_fault is);
    stays = λ is_stopped. (same_fault (l.stays is_stopped).0, (l.stays is_stopped).1);
  }
