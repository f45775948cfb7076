-- All rows of an answer at once.
use Rattle.std.proofs.Common.{◌≡◌, ℕ, false, List, Result, Ok, Err, IsErr}
use Rattle.sqlite_value.specs.Order.{Row}
use Rattle.sqlite_trees.specs.declared.store.Store.{Ghosts}
use Rattle.sqlite.specs.declared.error.Error.{Error}
use Rattle.sqlite.specs.Effect.{Database}
use Rattle.sqlite.specs.Held.{Held, state}
use Rattle.sqlite.specs.State.{HasCleanDisk, Survives, Shown, FailsToQuery, CommitsShowing}
use Rattle.sqlite.proofs.Callers.{never_commits}
use Rattle.sqlite.proofs.StateLemmas.{survives_weaker}
use Rattle.bike_sql.specs.Answer.{HasOneAnswer}
use Rattle.bike_sql.specs.Calls.{IsQuiet, ReadsWhere}
use Rattle.bike_sql.proofs.ReadLemmas.{query_stopped}
use Rattle.bike_sql.proofs.WalkLaw.{answers_all}

module _ {S : Type 0} (g : Ghosts S) (P : Database → Type 0) (all : Database → List Row) (text : List ℕ) (params : Row) (one : (db : Database) → P db → HasOneAnswer db text params (all db))
    (old new : Held S) where
  quiet : (old.in_transaction ≡ false → new.in_transaction ≡ false) → Survives (state g old) (state g new) (CommitsShowing text params (state g old)) → IsQuiet g P old new
  quiet mode s =
      record {
        mode = mode;
        survives = survives_weaker (state g old) (state g new) _ _
            (λ clean db commits has. never_commits text params (state g old) db (one (state g old).now has).means.1 commits) s;
      }

  -- the text's answer was read
  pub reads_all : {E : Type 0} (rows : List Row) → (HasCleanDisk (state g new) → Shown text params (state g old) (state g new) rows) → (old.in_transaction ≡ false → new.in_transaction ≡ false)
      → Survives (state g old) (state g new) (CommitsShowing text params (state g old)) → ReadsWhere g P old new {E = E} (Ok rows) (λ db rs. rs ≡ all db)
  reads_all rows shown mode s = record {
    found = λ clean has. (answers_all text params (state g old) (state g new) (all (state g old).now) (one (state g old).now has) rows (shown clean)).0;
    same = λ clean has. (answers_all text params (state g old) (state g new) (all (state g old).now) (one (state g old).now has) rows (shown clean)).1;
    failed = λ clean has. tt;
    quiet = quiet mode s;
  }

  -- or it was refused
  pub reads_none : {X E : Type 0} {result : Result X E} {says : Database → X → Type 0} (e : Error) → IsErr result
      → (HasCleanDisk (state g new) → FailsToQuery text params (state g old) (state g new) e) → (old.in_transaction ≡ false → new.in_transaction ≡ false)
      → Survives (state g old) (state g new) (CommitsShowing text params (state g old)) → ReadsWhere g P old new result says
  reads_none {result = Ok x} e is fails mode s = absurd (let never = is in cc)
  reads_none {result = Err f} e is fails mode s = record {
    found = λ clean has. tt;
    same = λ clean has. tt;
    failed = λ clean has. query_stopped text params (state g old) (state g new) (one (state g old).now has).means.1 e (fails clean);
    quiet = quiet mode s;
  }

-- a read where more was known
pub reads_under : {S X E : Type 0} {g : Ghosts S} {P Q : Database → Type 0} {old new : Held S} {result : Result X E} {says : Database → X → Type 0} → ((db : Database) → Q db → P db)
    → ReadsWhere g P old new result says → ReadsWhere g Q old new result says
reads_under {g = g} {old = old} {new = new} tells it = record {
  found = λ clean has. it.found clean (tells _ has);
  same = λ clean has. it.same clean (tells _ has);
  failed = λ clean has. it.failed clean (tells _ has);
  quiet = record { mode = it.quiet.mode; survives = survives_weaker (state g old) (state g new) _ _ (λ clean db none has. none (tells _ has)) it.quiet.survives };
}
