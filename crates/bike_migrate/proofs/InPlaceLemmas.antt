-- From the begin of the transaction to its end.
use Rattle.std.proofs.Common.{◌≡◌, ◌⊎◌, inl, inr, true, List, Option, Some, None, Result, Ok, Err, IsErr, IsTrue, refl, sym, subst, ◌∙◌, arith}
use Rattle.std.specs.Prelude.{option_map}
use Rattle.std.proofs.lemmas.Result.{IfOk-weaker}
use Rattle.sqlite_value.specs.Order.{Row}
use Rattle.sqlite_trees.specs.Tree.{Trees}
use Rattle.sqlite_trees.specs.declared.store.Store.{Ghosts}
use Rattle.sqlite.specs.Effect.{Database}
use Rattle.sqlite.specs.Held.{Held, state}
use Rattle.sqlite.specs.State.{HasCleanDisk, IsLive, Shows, Survives}
use Rattle.sqlite.proofs.StateLemmas.{survives_weaker, survives_then}
use Rattle.bike_sql.specs.Calls.{ReadsWhere}
use Rattle.bike_schema.specs.Makes.{Continues}
use Rattle.bike_schema.specs.declared.fault.StatementFault.{StatementFault}
use Rattle.bike_audit.specs.Audit.{row_name}
use Rattle.bike_audit.specs.declared.tables.BadRow.{BadRow}
use Rattle.bike_recognition.specs.declared.earlier_versions.earlier.Earlier.{Earlier}
use Rattle.bike_migrate.specs.Calls.{DoesInside}
use Rattle.bike_migrate.specs.Raised.{IsEarlier, AreOldRows, HasOldTables, WasRead, Raises, tables_raised}
use Rattle.bike_migrate.specs.Raising.{MayCommit, IsJudged, Attempts, Ends, CommitsBy, EndsTransaction, BecomesAt, RaisesInPlace}
use Rattle.bike_migrate.specs.Verdicts.{IsVerdictAt}
use Rattle.bike_migrate.proofs.FillLemmas.{old_table, riders_there}

module _ {S : Type 0} (g : Ghosts S) (e : Earlier) where
  -- ---- the attempt

  has_old : (db : Database) → IsEarlier e db → HasOldTables e db
  has_old db was = (old_table e db was.is_at, riders_there e db was.is_at, was.is_at.counts, was.is_at.kept)

  -- it failed before anything was done
  pub attempt_failed : {X E : Type 0} {old new : Held S} {result : Result X E} {told : Result (Option BadRow) StatementFault} {says : Database → X → Type 0} → ReadsWhere g (HasOldTables e) old new result says
      → IsErr told → Attempts g e old new told
  attempt_failed {old = old} {new = new} {told = Ok x} it is = absurd (let never = is in cc)
  attempt_failed {old = old} {new = new} {told = Err f} it is = record {
    judged = λ clean was. tt;
    survives = survives_weaker (state g old) (state g new) _ _ (λ clean db none was. none (has_old (state g old).now was)) it.quiet.survives;
  }

  module _ (old mid : Held S) (stations riders kept : List Row) {X E : Type 0} {x : X}
      (read : ReadsWhere g (HasOldTables e) old mid {E = E} (Ok x) (λ db _. AreOldRows e stations riders kept db)) where
    read_survives : {P : Trees → Type 0} (new : Held S) → Survives (state g mid) (state g new) P → Survives (state g old) (state g new) (λ db. (¬ HasOldTables e (state g old).now) ⊎ P db)
    read_survives new calm = survives_then (state g old) (state g mid) (state g new) _ _ _ (λ clean db none. inl none) (λ clean db it. inr it) read.quiet.survives calm

    -- the transaction didn't begin
    pub begin_failed : {told : Result (Option BadRow) StatementFault} (new : Held S) → IsErr told → Survives (state g mid) (state g new) (λ _. ⊥) → Attempts g e old new told
    begin_failed {told = Ok y} new is calm = absurd (let never = is in cc)
    begin_failed {told = Err f} new is calm = record {
      judged = λ clean was. tt;
      survives = survives_weaker (state g old) (state g new) _ _ (λ clean db either was. elim either [ inl none ↦ none (has_old (state g old).now was) | inr never ↦ never ]) (read_survives new calm);
    }

    module _ (begun new : Held S) (begins : HasCleanDisk (state g begun) → Shows (state g mid) (state g begun) (state g mid).now (state g mid).committed true)
        (calm : Survives (state g mid) (state g begun) (λ _. ⊥))
        {told : Result (Option BadRow) StatementFault} (does : DoesInside g (WasRead e stations riders kept) begun new told
        (λ a b bad. IsJudged e a b (option_map row_name bad))) where
      -- what is so as it begins
      record Starts : Type 0 where
        inside : IsTrue begun.in_transaction
        was_open : IsTrue (state g old).is_open
        now_is : (state g begun).now ≡ (state g old).now
        committed_is : (state g begun).committed ≡ (state g old).committed
        rows_are : AreOldRows e stations riders kept (state g old).now

      starts : HasCleanDisk (state g begun) → IsEarlier e (state g old).now → Starts
      starts clean was =
          let early : HasCleanDisk (state g mid) = omega (arith, clean, calm.clean) in
          let has = has_old (state g old).now was in
          let same = read.same early has in
          let b = begins clean in
          record {
            inside = b.mode;
            was_open = same.0.was_open;
            now_is = b.now_is ∙ same.0.now_is;
            committed_is = b.committed_is ∙ same.0.committed_is;
            rows_are = read.found early has;
          }

      has_begun : HasCleanDisk (state g begun) → (was : IsEarlier e (state g old).now) → WasRead e stations riders kept (state g begun).now
      has_begun clean was = let it = starts clean was in subst (WasRead e stations riders kept) (sym it.now_is) (was, it.rows_are)

      pub attempted : Attempts g e old new told
      attempted = record {
        judged = λ clean was.
            let early : HasCleanDisk (state g begun) = omega (arith, clean, does.survives.clean) in
            let it = starts early was in
            IfOk-weaker told _ _ (λ bad at. (
              record { was_open = it.was_open; is_open = at.0.is_open; now_is = refl; committed_is = at.0.committed_is ∙ it.committed_is; mode = at.0.mode },
              subst (λ db. IsJudged e db (state g new).now (option_map row_name bad)) it.now_is at.1,
            )) (does.done clean it.inside (has_begun early was));
        survives = survives_then (state g old) (state g begun) (state g new) _ _ _ (λ clean db either was. elim either [ inl none ↦ none (has_old (state g old).now was) | inr never ↦ never ])
            (λ clean db none was. let early : HasCleanDisk (state g begun) = omega (arith, clean, does.survives.clean) in none ((starts early was).inside, has_begun early was))
            (read_survives begun calm) does.survives;
      }

  -- ---- the end

  module _ (old mid : Held S) where
    -- it failed
    pub place_failed : {told result : Result (Option BadRow) StatementFault} → Attempts g e old mid told → IsErr result → RaisesInPlace g e old mid result
    place_failed {result = Ok x} it is = absurd (let never = is in cc)
    place_failed {result = Err f} it is = record {
      ends = λ clean was. tt;
      outside = tt;
      survives = survives_weaker (state g old) (state g mid) _ _ (λ clean db none was. absurd (none was)) it.survives;
    }

    module _ (new : Held S) (bad : Option BadRow) (settled : IsTrue (state g old).is_open → (state g old).now ≡ (state g old).committed) (live : IsLive (state g old))
        (it : Attempts g e old mid (Ok bad)) {result : Result (Option BadRow) StatementFault} (ended : EndsTransaction g mid new bad result) where
      early : HasCleanDisk (state g new) → HasCleanDisk (state g mid)
      early clean = omega (arith, clean, ended.survives.clean)

      ends_as : (b : Option BadRow) → Continues (state g old) (state g mid) × IsJudged e (state g old).now (state g mid).now (option_map row_name b) → Ends g mid new b
          → IsVerdictAt e (tables_raised e (state g old).now) (option_map row_name b) × BecomesAt g e old new b
      ends_as None at end = (
        at.1.verdict,
        (
          record { was_open = at.0.was_open; is_open = end.is_open; now_is = refl; committed_is = end.committed_is ∙ sym end.now_is; mode = end.mode },
          subst (Raises e (state g old).now) (sym end.now_is) at.1.becomes,
        ),
      )
      ends_as (Some row) at end = (
        at.1.verdict,
        record {
          was_open = at.0.was_open;
          is_open = end.is_open;
          now_is = end.now_is ∙ at.0.committed_is ∙ sym (settled at.0.was_open);
          committed_is = end.committed_is ∙ at.0.committed_is;
          mode = end.mode;
        },
      )

      commits : (b : Option BadRow) (trees : Trees) → CommitsBy g mid b trees → Continues (state g old) (state g mid) × IsJudged e (state g old).now (state g mid).now (option_map row_name b)
          → MayCommit e (state g old).now trees
      commits None trees is at = record { sound = (live at.0.was_open).0; db = (state g mid).now; raises = at.1.becomes; good = at.1.verdict; trees_are = is }
      commits (Some row) trees is at = absurd is

      pub ends_in_place : RaisesInPlace g e old new result
      ends_in_place = record {
        ends = λ clean was. let at = it.judged (early clean) was in
            IfOk-weaker result _ _ (λ b is. subst (λ o. IsVerdictAt e (tables_raised e (state g old).now) (option_map row_name o) × BecomesAt g e old new o) (sym is.0) (ends_as bad at is.1))
            (ended.ended clean);
        outside = ended.outside;
        survives =
            survives_then (state g old) (state g mid) (state g new) _ _ _ (λ clean db none was. absurd (none was))
            (λ clean db by was. commits bad db by (it.judged (early clean) was)) it.survives ended.survives;
      }

  -- a transaction that is undone after a failure
  pub undone_in_place : (old mid new : Held S) {told result : Result (Option BadRow) StatementFault} → RaisesInPlace g e old mid told → IsErr result → Survives (state g mid) (state g new) (λ _. ⊥)
      → RaisesInPlace g e old new result
  undone_in_place old mid new {result = Ok x} it is calm = absurd (let never = is in cc)
  undone_in_place old mid new {result = Err f} it is calm = record {
    ends = λ clean was. tt;
    outside = tt;
    survives = survives_then (state g old) (state g mid) (state g new) _ _ _ (λ clean db may. may) (λ clean db none. absurd none) it.survives calm;
  }
