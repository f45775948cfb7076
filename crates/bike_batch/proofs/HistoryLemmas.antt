-- The history, read page by page, each page written before the next is read.
use Rattle.std.proofs.Common.{◌≡◌, ℕ, List, [], ◌++◌, Option, Some, None, IsTrue, Result, Ok, Err, refl, sym, ap, ◌∙◌, subst, arith, append_assoc, append-nil, length-append}
use Rattle.std.specs.Result.{IsErrAnd}
use Rattle.std.specs.Io.KnownBytes.{Keeps, Appends}
use Rattle.std.proofs.KnownBytes.{Appends-nil, Appends-trans, Appends-kept, Keeps-refl}
use Rattle.sqlite_trees.specs.declared.store.Store.{Ghosts}
use Rattle.sqlite.specs.State.{HasCleanDisk}
use Rattle.bike_stream.specs.Writing.{AppendsFront}
use Rattle.bike_operator.specs.Operator.{Operator}
use Rattle.bike_operator.specs.Requests.{RequestTexts}
use Rattle.bike_queries.specs.Requests.{request_page}
use Rattle.bike_day_texts.specs.declared.fault.LineFault.{LineFault}
use Rattle.bike_day_texts.specs.declared.fault.LineFault.TheVariants as line
use Rattle.bike_day_texts.specs.Writing.{WritesLine}
use Rattle.bike_desk.specs.declared.fault.DeskFault.{DeskFault}
use Rattle.bike_desk.specs.declared.fault.DeskFault.TheVariants.{NoMemory}
use Rattle.bike_desk.specs.Desk.{DeskValue, desk_state, IsAt, OfOperator}
use Rattle.bike_desk.specs.Queries.{Queries}
use Rattle.bike_batch.specs.declared.day_fault.DayTableFault.{DayTableFault}
use Rattle.bike_batch.specs.declared.day_fault.DayTableFault.TheVariants as day
use Rattle.bike_batch.specs.declared.history_fault.HistoryFault.{HistoryFault}
use Rattle.bike_batch.specs.declared.history_fault.HistoryFault.TheVariants.{Write, Desk}
use Rattle.bike_batch.specs.Ends.{AppendsSome, LeavesDesk}
use Rattle.bike_batch.specs.Walking.{StaysAt}
use Rattle.bike_batch.specs.Again.{lines_again, history_text}
use Rattle.bike_batch.specs.HistoryFaults.{page_fault}
use Rattle.bike_batch.specs.HistoryEnds.{LeavesHistory, WritesHistory}
use Rattle.bike_batch.proofs.DeskLemmas.{earlier, going_only, stays_asked, stays_then, leaves_first, leaves_failed, leaves_ok, leaves_write, leaves_short}
use Rattle.bike_batch.proofs.WalkLemmas.{front_first, front_then, some_first, part_first, until_some}
use Rattle.bike_batch.proofs.PageLemmas.{TellsLast, page_ended, page_goes}

-- ---- the desk

-- the end, as a day's table tells it
abbrev pub as_table : {A : Type 0} → Result A HistoryFault → Result A DayTableFault
as_table (Ok x) = Ok x
as_table (Err Write) = Err day.Write
as_table (Err (Desk fault)) = Err (day.Desk fault)

told_by_table : {A : Type 0} {x y : DeskFault} → ◌≡◌ {A = Result A HistoryFault} (Err (Desk x)) (Err (Desk y))
    → ◌≡◌ {A = Result A DayTableFault} (Err (day.Desk x)) (Err (day.Desk y))
told_by_table is = cc

leaves_as : {S A : Type 0} (g : Ghosts S) (old new : DeskValue S) (result : Result A HistoryFault) → LeavesDesk g old new (as_table result)
    → LeavesHistory g old new result
leaves_as g old new (Ok x) h = record {
  clean = h.clean;
  same = h.same;
  write = λ clean s at is. absurd cc;
  no_memory = λ clean s at is. absurd cc;
  rests = h.rests;
  left = h.left;
  goes_on = h.goes_on;
  stops = λ is. absurd cc;
  stopped = λ is. absurd cc;
  stays = λ is_stopped. absurd (h.stays is_stopped).1;
}
leaves_as g old new (Err Write) h = record {
  clean = h.clean;
  same = λ clean s at. tt;
  write = λ clean s at is. h.write clean s at refl;
  no_memory = λ clean s at is. absurd cc;
  rests = h.rests;
  left = h.left;
  goes_on = tt;
  stops = λ is. absurd cc;
  stopped = λ is. absurd cc;
  stays = λ is_stopped. absurd (h.stays is_stopped).1;
}
leaves_as {A = A} g old new (Err (Desk fault)) h = record {
  clean = h.clean;
  same = λ clean s at. tt;
  write = λ clean s at is. absurd cc;
  no_memory = λ clean s at is. h.no_memory clean s at (told_by_table {A = A} is);
  rests = h.rests;
  left = h.left;
  goes_on = tt;
  stops = λ is. h.stops (told_by_table {A = A} is);
  stopped = λ is. h.stopped (told_by_table {A = A} is);
  stays = λ is_stopped. let it = h.stays is_stopped in (ap (λ (f : DeskFault). Err (Desk f)) it.1, it.0);
}

-- ---- what is owed

module _ {S : Type 0} (g : Ghosts S) where
  -- all clauses of writing the history
  pub record Wrote (old new : DeskValue S) (after : ℕ) (before behind : Option (List ℕ)) {A : Type 0} (result : Result A HistoryFault) : Type 0 where
    pub desk : LeavesHistory g old new result
    pub wrote : OfOperator g old new (λ s. WritesHistory s after before behind result)
    pub nothing : IsTrue old.is_stopped → Keeps before behind

  -- the fault that a function hands on
  pub wrote_told : {A : Type 0} {d e : DeskValue S} {after : ℕ} {a b : Option (List ℕ)} (fault : HistoryFault) (result : Result A HistoryFault)
      → IsErrAnd result (λ told. told ≡ fault) → Wrote d e after a b {A = A} (Err fault) → Wrote d e after a b result
  wrote_told fault (Ok x) is w = absurd is
  wrote_told {A} {d} {e} {after} {a} {b} fault (Err told) is w = subst (λ (f : HistoryFault). Wrote d e after a b {A = A} (Err f)) (sym is) w

  -- the page is the one behind a number, and all up to that number is written
  pub record IsWritten (s : Operator) (after number : ℕ) (page : List RequestTexts) (before behind : Option (List ℕ)) : Type 0 where
    pub page_is : page ≡ request_page s number
    pub front : List ℕ
    pub split : history_text s after ≡ front ++ history_text s number
    pub wrote : Appends before behind front

  -- after a page was read
  pub record Follows (after number : ℕ) (page : List RequestTexts) (old new : DeskValue S) (before behind : Option (List ℕ)) : Type 0 where
    pub stays : StaysAt g old new
    pub ahead : HasCleanDisk (desk_state g new) → (s : Operator) → IsAt g old s → IsWritten s after number page before behind

  -- what the desk answered is the page behind a number
  abbrev pub IsPage : ℕ → Operator → List RequestTexts → Type 0
  IsPage number s page = page ≡ request_page s number

  pub follow_begins : {after : ℕ} {d e : DeskValue S} {a : Option (List ℕ)} (page : List RequestTexts) → Queries g d e (Ok page) (IsPage after)
      → Follows after after page d e a a
  follow_begins {after = after} {a = a} page q = record {
    stays = stays_asked g page q;
    ahead = λ clean s at. record { page_is = (q.ok clean s at).0; front = []; split = refl; wrote = Appends-nil a };
  }

  not_stopped : {d e : DeskValue S} {P : Type 0} → StaysAt g d e → IsTrue d.is_stopped → P
  not_stopped p stopped = absurd (going_only _ p.went_on stopped)

  -- nothing is left
  pub follow_ends : {A : Type 0} {after number : ℕ} {page : List RequestTexts} {d e : DeskValue S} {a b : Option (List ℕ)} (u : A)
      → Follows after number page d e a b → TellsLast page number None
      → Wrote d e after a b (Ok u)
  follow_ends {after = after} {number = number} {page = page} {d = d} {e = e} {a = a} {b = b} u w tells = record {
    desk = leaves_as g d e (Ok u) (leaves_ok g u w.stays);
    wrote = λ clean s at.
        let it = w.ahead clean s at in
        let whole : history_text s after ≡ it.front =
        it.split ∙ (ap (λ (bytes : List ℕ). it.front ++ bytes) (page_ended s number page it.page_is tells) ∙ append-nil it.front) in
        subst (Appends a b) (sym whole) it.wrote;
    nothing = not_stopped w.stays;
  }

  -- a fault of the desk at the first page
  pub first_failed : {A : Type 0} {says : Operator → List RequestTexts → Type 0} {d e : DeskValue S} (after : ℕ) (a : Option (List ℕ)) (fault : DeskFault)
      → (fault ≡ NoMemory → ⊥)
      → Queries g d e (Err fault) says
      → Wrote d e after a a {A = A} (Err (Desk fault))
  first_failed {A = A} {d = d} {e = e} after a fault other q = record {
    desk = leaves_as g d e (Err (Desk fault)) (leaves_first g {B = A} fault q);
    wrote = λ clean s at. until_some fault a a (history_text s after) other (some_first a a [] (history_text s after) (Appends-nil a));
    nothing = λ stopped. Keeps-refl a;
  }

  module _ {after number last : ℕ} {page : List RequestTexts} {d e : DeskValue S} {a b : Option (List ℕ)} (w : Follows after number page d e a b)
      (tells : TellsLast page number (Some last)) where
    -- the page wasn't written whole
    pub page_failed : {A : Type 0} (c : Option (List ℕ)) (fault : LineFault) → WritesLine {A = Unit {0}} b c (lines_again page) (Err fault)
        → Wrote d e after a c {A = A} (Err (page_fault fault))
    page_failed {A = A} c line.Write wrote = record {
      desk = leaves_as g d e (Err Write) (leaves_write g {A = A} w.stays);
      wrote = λ clean s at.
          let it = w.ahead clean s at in
          let next = page_goes s number last page it.page_is tells in
          subst (AppendsFront a c) (sym (it.split ∙ ap (λ (bytes : List ℕ). it.front ++ bytes) next.text))
          (front_then a b c it.front (lines_again page ++ history_text s last) it.wrote (front_first b c (lines_again page) (history_text s last) wrote));
      nothing = not_stopped w.stays;
    }
    page_failed {A = A} c line.NoMemory kept = record {
      desk = leaves_as g d e (Err (Desk NoMemory)) (leaves_short g {A = A} w.stays);
      wrote = λ clean s at.
          let it = w.ahead clean s at in
          let next = page_goes s number last page it.page_is tells in
          subst (AppendsFront a c) (sym (it.split ∙ ap (λ (bytes : List ℕ). it.front ++ bytes) next.text))
          (part_first a c it.front (lines_again page ++ history_text s last)
          (omega (arith, length-append (lines_again page) (history_text s last), next.some)) (Appends-kept a b c it.front it.wrote kept));
      nothing = not_stopped w.stays;
    }

    -- it was, and what it holds stands behind what was written before
    module _ (c : Option (List ℕ)) (wrote : Appends b c (lines_again page)) where
      written : (s : Operator) → IsWritten s after number page a b
          → (front : List ℕ) × (history_text s after ≡ front ++ history_text s last) × Appends a c front
      written s it =
          let next = page_goes s number last page it.page_is tells in (
            it.front ++ lines_again page,
            it.split ∙ (ap (λ (bytes : List ℕ). it.front ++ bytes) next.text ∙ sym (append_assoc it.front (lines_again page) (history_text s last))),
            Appends-trans a b c it.front (lines_again page) it.wrote wrote,
          )

      -- the next page
      pub follow_goes : {f : DeskValue S} (next : List RequestTexts) → Queries g e f (Ok next) (IsPage last) → Follows after last next d f a c
      follow_goes {f = f} next q = record {
        stays = stays_then g w.stays (stays_asked g next q);
        ahead = λ clean s at.
            let before = earlier g e f q.clean clean in
            let it = written s (w.ahead before s at) in
            record { page_is = (q.ok clean s (w.stays.same before s at)).0; front = it.0; split = it.1; wrote = it.2 };
      }

      -- or a fault of the desk
      pub next_failed : {A : Type 0} {f : DeskValue S} (fault : DeskFault) → (fault ≡ NoMemory → ⊥) → Queries g e f (Err fault) (IsPage last)
          → Wrote d f after a c {A = A} (Err (Desk fault))
      next_failed {A = A} {f = f} fault other q = record {
        desk = leaves_as g d f (Err (Desk fault)) (leaves_failed g {B = A} fault w.stays q);
        wrote = λ clean s at.
            let it = written s (w.ahead (earlier g e f q.clean clean) s at) in
            until_some fault a c (history_text s after) other
            (subst (AppendsSome a c) (sym it.1) (some_first a c it.0 (history_text s last) it.2));
        nothing = not_stopped w.stays;
      }
