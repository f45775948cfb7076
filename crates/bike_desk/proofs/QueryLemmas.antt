-- What a query owes, from what its one read tells.
use Rattle.std.proofs.Common.{◌≡◌, ℕ, IfOk, Bool, ◌||◌, true, false, IsTrue, Option, Some, Result, Ok, Err, refl, sym, ap, subst, ◌∙◌, arith}
use Rattle.sqlite_trees.specs.declared.store.Store.{Ghosts}
use Rattle.sqlite.specs.Held.{Held, state}
use Rattle.bike_operator.specs.Operator.{Operator}
use Rattle.bike_book.specs.Stored.{Listed}
use Rattle.bike_schema.specs.Answers.{Answers}
use Rattle.bike_schema.specs.declared.fault.StatementFault.{StatementFault}
use Rattle.bike_schema.proofs.AnswerLemmas.{reads_weaker}
use Rattle.bike_office_reads.specs.Newest.{NewestTells}
use Rattle.bike_booking.specs.declared.figures.Figures.{Figures}
use Rattle.bike_booking.specs.Figures.{figures_of}
use Rattle.bike_desk.specs.declared.fault.DeskFault.{DeskFault}
use Rattle.bike_desk.specs.declared.fault.DeskFault.TheVariants.{NoMemory, StoreFailed, Stopped}
use Rattle.sqlite.specs.State.{HasCleanDisk}
use Rattle.bike_desk.specs.declared.remembered.DeskMemory.{DeskMemory}
use Rattle.bike_desk.specs.Desk.{DeskValue, desk_state, IsAt, IsRemembered}
use Rattle.bike_desk.specs.Newest.{knows_newest}
use Rattle.bike_desk.specs.declared.newest.Newest.{Newest}
use Rattle.bike_queries.specs.Requests.{history_begin}
use Rattle.bike_desk.specs.Queries.{BeginsAt, Queries, TellsOf}
use Rattle.bike_desk.proofs.KeepLemmas.{kept_ours, kept_stores, quiet, still, still_going}

going_stays : (stopped before after : Bool) → (stopped || before) ≡ false → (before ≡ false → after ≡ false) → (stopped || after) ≡ false
going_stays true before after going mode = absurd cc
going_stays false before after going mode = mode going

outside : (stopped before : Bool) → (stopped || before) ≡ false → before ≡ false
outside true before going = absurd cc
outside false before going = going

-- nothing is read where the desk was stopped before, or memory is refused
module _ {S : Type 0} (g : Ghosts S) (desk : DeskValue S) {A : Type 0} (says : Operator → A → Type 0) where
  pub stopped_before : IsTrue desk.is_stopped → Queries g desk desk (Err Stopped) says
  stopped_before is_stopped = record {
    clean = omega arith;
    ok = λ clean s at. tt;
    rests = λ clean s at on. refl;
    goes_on = tt;
    left = λ clean s at db h. h;
    no_memory = λ is. refl;
    stops = λ is. is_stopped;
    stopped = λ is. is_stopped;
    stays = λ stopped. (refl, refl);
  }

  pub no_room : desk.is_stopped ≡ false → Queries g desk desk (Err NoMemory) says
  no_room going = record {
    clean = omega arith;
    ok = λ clean s at. tt;
    rests = λ clean s at on. refl;
    goes_on = tt;
    left = λ clean s at db h. h;
    no_memory = λ is. refl;
    stops = λ is. absurd cc;
    stopped = λ is. absurd cc;
    stays = λ is_stopped. absurd (let e : true ≡ false = sym is_stopped ∙ going in cc);
  }

-- one read
module _ {S : Type 0} (g : Ghosts S) (conn next : Held S) (stopped : Bool) (newest : Newest) (figures : Option Figures) {A : Type 0} (says : Operator → A → Type 0)
    (going : (stopped || conn.in_transaction) ≡ false) where
  abbrev pub before : DeskValue S
  before = record { conn = conn; is_stopped = stopped || conn.in_transaction; remembered = record { newest_tells = knows_newest newest; figures = figures } }

  abbrev pub after : DeskValue S
  after = record { conn = next; is_stopped = stopped || next.in_transaction; remembered = record { newest_tells = knows_newest newest; figures = figures } }

  abbrev pub remembered_before : DeskMemory
  remembered_before = record { newest_tells = knows_newest newest; figures = figures }

  -- what the desk becomes where it remembers this from then on
  abbrev pub after_learning : DeskMemory → DeskValue S
  after_learning later = record { conn = next; is_stopped = stopped || next.in_transaction; remembered = later }

  learnt : (later : DeskMemory) (x : A) → Answers g conn next {E = StatementFault} (Ok x) (λ s m y. IsRemembered s remembered_before → IsRemembered s later × says s y)
      → Queries g before (after_learning later) (Ok x) says
  learnt later x reads = record {
    clean = reads.quiet.survives.clean;
    ok = λ clean s at.
        let told = reads.found clean (kept_ours (state g conn) s at.keeps) s (kept_stores (state g conn) s at.keeps) at.remembers in (
          told.1,
          record {
            goes_on = still_going stopped conn.in_transaction next.in_transaction at.goes_on (reads.quiet.mode at.keeps.autocommit);
            keeps = still g conn next s at.keeps clean (reads.same clean (kept_ours (state g conn) s at.keeps)) reads.quiet;
            remembers = told.0;
          },
        );
    rests = λ clean s at on. (reads.same clean (kept_ours (state g conn) s at.keeps)).0.now_is;
    goes_on = going_stays stopped conn.in_transaction next.in_transaction going reads.quiet.mode;
    left = λ clean s at. quiet g conn next s at.keeps clean reads.quiet;
    no_memory = λ is. absurd cc;
    stops = λ is. absurd cc;
    stopped = λ is. absurd cc;
    stays = λ is_stopped. absurd (let e : true ≡ false = sym is_stopped ∙ going in cc);
  }

  pub learns : (later : DeskMemory) (x : A) (old : DeskValue S) → before ≡ old
      → Answers g conn next {E = StatementFault} (Ok x) (λ s m y. IsRemembered s remembered_before → IsRemembered s later × says s y)
      → Queries g old (after_learning later) (Ok x) says
  learns later x old is reads = subst (λ (d : DeskValue S). Queries g d (after_learning later) (Ok x) says) is (learnt later x reads)

  pub failed : {X : Type 0} (tells : Operator → Listed → X → Type 0) (e : StatementFault) → Answers g conn next {A = X} (Err e) tells
      → Queries g before (record after { is_stopped = true }) (Err StoreFailed) says
  failed tells e reads = record {
    clean = reads.quiet.survives.clean;
    ok = λ clean s at. tt;
    rests = λ clean s at on. absurd (let e : true ≡ false = on in cc);
    goes_on = tt;
    left = λ clean s at. quiet g conn next s at.keeps clean reads.quiet;
    no_memory = λ is. absurd cc;
    stops = λ is. refl;
    stopped = λ is. absurd cc;
    stays = λ is_stopped. absurd (let e : true ≡ false = sym is_stopped ∙ going in cc);
  }

  -- what was read is so where what is known of newest rentals is
  pub queries_knowing : (read : Result A StatementFault) (new : DeskValue S) (result : Result A DeskFault)
      → Answers g conn next read (λ s m x. (IsTrue (knows_newest newest) → NewestTells s) → says s x) → TellsOf read after new result
      → Queries g before new result says
  queries_knowing (Ok x) new result reads tells =
      subst (λ (d : DeskValue S). Queries g before d result says) (sym tells.1)
      (subst (λ (r : Result A DeskFault). Queries g before after r says) (sym tells.0) (learnt remembered_before x (reads_weaker reads (λ db y is s h known. (known, is s h known.newest)))))
  queries_knowing (Err e) new result reads tells =
      subst (λ (d : DeskValue S). Queries g before d result says) (sym tells.1)
      (subst (λ (r : Result A DeskFault). Queries g before (record after { is_stopped = true }) r says) (sym tells.0) (failed _ e reads))

  pub queries : (read : Result A StatementFault) (new : DeskValue S) (result : Result A DeskFault) → Answers g conn next read (λ s m. says s) → TellsOf read after new result
      → Queries g before new result says
  queries read new result reads tells = queries_knowing read new result (reads_weaker reads (λ db y is s h known. is s h)) tells

  -- what was read of the history's begin is so of each way in which the operator's tables stand there
  pub begins : (read : Result ℕ StatementFault) (new : DeskValue S) (result : Result ℕ DeskFault) → Answers g conn next read (λ s m number. number ≡ history_begin m.since s)
      → TellsOf read after new result → HasCleanDisk (desk_state g new) → (s : Operator) → IsAt g before s → IfOk result (BeginsAt (state g conn).now s)
  begins (Ok x) new result reads tells clean s at =
      subst (λ (r : Result ℕ DeskFault). IfOk r (BeginsAt (state g conn).now s)) (sym tells.0)
      (λ h. reads.found (subst (λ (d : DeskValue S). HasCleanDisk (desk_state g d)) tells.1 clean) (kept_ours (state g conn) s at.keeps) s h)
  begins (Err e) new result reads tells clean s at = subst (λ (r : Result ℕ DeskFault). IfOk r (BeginsAt (state g conn).now s)) (sym tells.0) tt

-- what is remembered is told, and nothing is read
pub told_now : {S : Type 0} (g : Ghosts S) (desk : DeskValue S) (figures : Figures) → desk.is_stopped ≡ false → desk.remembered.figures ≡ Some figures
    → Queries g desk desk (Ok figures.now) (λ s now. now ≡ s.now)
told_now g desk figures going known = record {
  clean = omega arith;
  ok = λ clean s at. (let are : figures ≡ figures_of s = rw known at at.remembers.figures in ap (λ (f : Figures). f.now) are, at);
  rests = λ clean s at on. refl;
  goes_on = going;
  left = λ clean s at db h. h;
  no_memory = λ is. absurd cc;
  stops = λ is. absurd cc;
  stopped = λ is. absurd cc;
  stays = λ is_stopped. absurd (let e : true ≡ false = sym is_stopped ∙ going in cc);
}

-- one query after another that gave an answer, where the second takes no memory
pub queries_then : {S : Type 0} (g : Ghosts S) (old mid new : DeskValue S) {A B : Type 0} {x : A} {result : Result B DeskFault} {says : Operator → A → Type 0} {told : Operator → B → Type 0}
    → Queries g old mid (Ok x) says → Queries g mid new result told → (result ≡ Err NoMemory → ⊥) → Queries g old new result told
queries_then g old mid new one two enough =
    let going : mid.is_stopped ≡ false = one.goes_on in
    record {
      clean = omega (arith, one.clean, two.clean);
      ok = λ clean s at. two.ok clean s (one.ok (mid_clean clean) s at).1;
      rests = λ clean s at on. two.rests clean s (one.ok (mid_clean clean) s at).1 on ∙ one.rests (mid_clean clean) s at one.goes_on;
      goes_on = two.goes_on;
      left = λ clean s at db h. one.left (mid_clean clean) s at db (two.left clean s (one.ok (mid_clean clean) s at).1 db h);
      no_memory = λ is. absurd (enough is);
      stops = two.stops;
      stopped = λ is. absurd (let e : true ≡ false = sym (two.stopped is) ∙ going in cc);
      stays = λ is_stopped. absurd (let e = (one.stays is_stopped).0 in cc);
    }
  where
    mid_clean : HasCleanDisk (desk_state g new) → HasCleanDisk (desk_state g mid)
    mid_clean clean = omega (arith, clean, two.clean)
