-- The steps of a query whose lines are shown, one after another.
use Rattle.std.proofs.Common.{◌≡◌, inl, false, fold, refl, Err, IsErr, List, [], ◌∷◌, Option, Some, None, Result, Ok, subst, sym, arith}
use Rattle.std.specs.Prelude.{option_map}
use Rattle.sqlite_value.specs.Order.{Row}
use Rattle.sqlite_trees.specs.declared.store.Store.{Ghosts}
use Rattle.sqlite.specs.Effect.{Database}
use Rattle.sqlite.specs.Given.{Advances}
use Rattle.sqlite.specs.Held.{Held, state}
use Rattle.sqlite.specs.State.{HasCleanDisk, IsUnchanged, Survives}
use Rattle.sqlite.proofs.Callers.{unchanged_then}
use Rattle.bike_sql.specs.Calls.{IsQuiet, ReadsWhere}
use Rattle.bike_sql.specs.Walk.{IsWalking, GoesOn}
use Rattle.sqlite.proofs.StateLemmas.{survives_weaker}
use Rattle.bike_sql.proofs.ChainLaws.{quiet_step, reads_both, reads_failed, reads_refused}
use Rattle.bike_sql.proofs.WalkLaw.{walk_goes}
use Rattle.bike_schema.specs.Tables.{IsOurs, tables_of}
use Rattle.bike_judges.specs.declared.key.BadKey.{BadKey}
use Rattle.bike_judges.specs.declared.query.Query.{Query}
use Rattle.bike_judges.specs.Judging.{key_row, Continues}
use Rattle.bike_judges.specs.Lines.{lines_of}
use Rattle.bike_judges.specs.declared.lines.Step.{Step}
use Rattle.bike_judges.specs.declared.lines.Step.TheVariants.{Shown, Found, End}
use Rattle.bike_judges.specs.Showing.{ComesTo, GoesTo, Steps, IsUnderWay}

-- ---- one step

module _ {S J : Type 0} (g : Ghosts S) (says : J → List Row → Option Row → Type 0) (old new : Held S) where
  -- a walk that went on to this row, or to its end
  abbrev Goes : Option Row → Type 0
  Goes row = (left : List Row) → IsWalking g old left → GoesOn g new left row

  -- what the judge answered of the line
  abbrev Takes : J → J → Row → Option BadKey → Type 0
  Takes before after line found = (left : List Row) (verdict : Option Row) → says before (line ∷ left) verdict → Continues says after left verdict found

  pub shown_next : (before after : J) (line : Row) → Goes (Some line) → Takes before after line None → (left : List Row) → IsWalking g old left → GoesTo g says new before after left Shown
  shown_next before after line goes takes left it =
      let on = goes left it in
      record { left = on.0; walking = on.2; told = λ verdict said. takes on.0 verdict (subst (λ lines. says before lines verdict) on.1 said) }

  pub found_next : (before after : J) (line : Row) (key : BadKey) → Goes (Some line) → Takes before after line (Some key) → (left : List Row) → IsWalking g old left
      → GoesTo g says new before after left (Found key)
  found_next before after line key goes takes left it verdict said =
      let on = goes left it in
      takes on.0 verdict (subst (λ lines. says before lines verdict) on.1 said)

  pub none_next : (before : J) → Goes None → (left : List Row) → IsWalking g old left → GoesTo g says new before before left End
  none_next before goes left it verdict said = subst (λ lines. says before lines verdict) (goes left it) said

  -- a step over a row, or past the last
  pub steps_on : {E : Type 0} (before after : J) (step : Step) (row : Option Row) → (HasCleanDisk (state g new) → Advances g old new row)
      → (HasCleanDisk (state g new) → IsUnchanged (state g old) (state g new))
      → (old.in_transaction ≡ false → new.in_transaction ≡ false) → Survives (state g old) (state g new) (λ _. ⊥)
      → (Goes row → (left : List Row) → IsWalking g old left → GoesTo g says new before after left step) → Steps g says old new before after {E = E} (Ok step)
  steps_on before after step row moved same mode survives told = record {
    next = λ clean left it. told (walk_goes g old new row (moved clean) (same clean)) left it;
    same = same;
    failed = λ clean. tt;
    mode = mode;
    survives = survives;
  }

-- ---- the steps of a query

module _ {S J : Type 0} (g : Ghosts S) (says : J → List Row → Option Row → Type 0) (query : Query) where
  -- what is told of the key that was found
  abbrev pub Finds : J → Database → Option BadKey → Type 0
  Finds first db found = (verdict : Option Row) → says first (lines_of query (tables_of db)) verdict → option_map key_row found ≡ verdict

  module _ (old mid new : Held S) (first before after : J) (was : IsUnderWay g says query old mid first before) where
    quiet_after : {E : Type 0} {result : Result Step E} → Steps g says mid new before after result → IsQuiet g IsOurs old new
    quiet_after it = quiet_step was.quiet it.mode it.survives

    clean_before : {E : Type 0} {result : Result Step E} → Steps g says mid new before after result → HasCleanDisk (state g new) → HasCleanDisk (state g mid)
    clean_before it clean = let kept = it.survives.clean in omega (arith, clean, kept)

    same_after : {E : Type 0} {step : Step} → Steps g says mid new before after {E = E} (Ok step) → HasCleanDisk (state g new) → IsOurs (state g old).now → IsUnchanged (state g old) (state g new)
    same_after it clean ours = unchanged_then (state g old) (state g mid) (state g new) (was.same (clean_before it clean) ours) (it.same clean)

    -- a line was shown
    pub goes_on : {E : Type 0} → Steps g says mid new before after {E = E} (Ok Shown) → IsUnderWay g says query old new first after
    goes_on it = record {
      quiet = quiet_after it;
      same = same_after it;
      showing = λ clean ours.
          let so_far = was.showing (clean_before it clean) ours in
          let more = it.next clean so_far.left so_far.walking in
          record { left = more.left; walking = more.walking; told = λ verdict said. more.told verdict (so_far.told verdict said) };
    }

    -- the first bad key was found
    pub ends_at : {E F : Type 0} (key : BadKey) → Steps g says mid new before after {E = E} (Ok (Found key)) → ReadsWhere g IsOurs old new {E = F} (Ok (Some key)) (Finds first)
    ends_at key it = record {
      found = λ clean ours verdict said.
          let so_far = was.showing (clean_before it clean) ours in
          sym (it.next clean so_far.left so_far.walking verdict (so_far.told verdict said));
      same = same_after it;
      failed = λ clean ours. tt;
      quiet = quiet_after it;
    }

    -- no line was left
    pub ends : {E F : Type 0} (found : Option BadKey) → ((verdict : Option Row) → says after [] verdict → option_map key_row found ≡ verdict) → Steps g says mid new before after {E = E} (Ok End)
        → ReadsWhere g IsOurs old new {E = F} (Ok found) (Finds first)
    ends found told it = record {
      found = λ clean ours verdict said.
          let so_far = was.showing (clean_before it clean) ours in
          told verdict (it.next clean so_far.left so_far.walking verdict (so_far.told verdict said));
      same = same_after it;
      failed = λ clean ours. tt;
      quiet = quiet_after it;
    }

-- ---- a run that fails

module _ {S J : Type 0} (g : Ghosts S) (says : J → List Row → Option Row → Type 0) (query : Query) (old mid : Held S) where
  -- the database is as it was so far
  pub so_far_read : {E : Type 0} (first before : J) → IsUnderWay g says query old mid first before → ReadsWhere g IsOurs old mid {E = E} (Ok (tt {0})) (λ db _. Unit {0})
  so_far_read first before was = record { found = λ clean ours. tt; same = was.same; failed = λ clean ours. tt; quiet = was.quiet }

  pub still_failed : {X E : Type 0} {e : E} {told : Database → X → Type 0} (first before : J) → IsUnderWay g says query old mid first before → ReadsWhere g IsOurs old mid {X = X} (Err e) told
  still_failed {E = E} first before was = reads_refused (so_far_read {E = E} first before was) refl

  module _ (new : Held S) (first before after : J) (was : IsUnderWay g says query old mid first before) where
    step_read : {X E : Type 0} {result : Result X E} {step : Result Step E} → IsErr result → IsErr step → Steps g says mid new before after step → ReadsWhere g IsOurs mid new result (λ db _. Unit {0})
    step_read {result = Ok x} never is it = absurd (let e = never in cc)
    step_read {result = Err e} {step = Ok x} told never it = absurd (let e = never in cc)
    step_read {result = Err e} {step = Err f} told is it = record {
      found = λ clean ours. tt;
      same = λ clean ours. tt;
      failed = λ clean ours. it.failed clean;
      quiet = record { mode = it.mode; survives = survives_weaker (state g mid) (state g new) _ _ (λ clean db none. absurd none) it.survives };
    }

    -- a step failed, and the run with it
    pub step_failed : {X E : Type 0} {result : Result X E} {e : E} {told : Database → X → Type 0} → IsErr result → Steps g says mid new before after (Err e) → ReadsWhere g IsOurs old new result told
    step_failed {result = Ok x} never it = absurd (let e = never in cc)
    step_failed {X = X} {E = E} {result = Err e} is it = reads_failed {X = X} (reads_both (so_far_read {E = E} first before was) (step_read {X = X} {result = Err e} refl refl it)) refl

    -- the run fails after a step
    pub step_refused : {X E F : Type 0} {e : F} {step : Step} {told : Database → X → Type 0} → Steps g says mid new before after {E = E} (Ok step) → ReadsWhere g IsOurs old new {X = X} (Err e) told
    step_refused it = record {
      found = λ clean ours. tt;
      same = λ clean ours. tt;
      failed = λ clean ours. inl (same_after g says query old mid new first before after was it clean ours);
      quiet = quiet_after g says query old mid new first before after was it;
    }

-- ---- what is computed over lines

module _ {F : Type 0} (after : F → Row → F) where
  -- a line was added
  pub adds_next : (total before new : F) (line : Row) → new ≡ after before line → (left : List Row) (verdict : Option Row) → ComesTo after total before (line ∷ left) verdict
      → Continues (ComesTo after total) new left verdict None
  adds_next total before new line is left verdict said = subst (λ (f : F). fold after f left ≡ total) (sym is) said

  -- no line was left
  pub comes_to : {S : Type 0} (g : Ghosts S) (query : Query) (old mid new : Held S) (first before last : F) → ((total : F) → IsUnderWay g (ComesTo after total) query old mid first before)
      → {E G : Type 0} → ((total : F) → Steps g (ComesTo after total) mid new before last {E = E} (Ok End))
      → ReadsWhere g IsOurs old new {E = G} (Ok last) (λ db total. total ≡ fold after first (lines_of query (tables_of db)))
  comes_to g query old mid new first before last was {E} {G} it =
      record {
        found = λ clean ours.
            let total = fold after first (lines_of query (tables_of (state g old).now)) in
            let so_far = (was total).showing (clean_before g (ComesTo after total) query old mid new first before last (was total) (it total) clean) ours in
            (it total).next clean so_far.left so_far.walking None (so_far.told None refl);
        same = same_after g (ComesTo after last) query old mid new first before last (was last) (it last);
        failed = λ clean ours. tt;
        quiet = quiet_after g (ComesTo after last) query old mid new first before last (was last) (it last);
      }
