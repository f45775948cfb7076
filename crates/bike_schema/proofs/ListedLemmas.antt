-- All rows that a statement answers, told of the operator whose tables it read.
use Rattle.std.proofs.Common.{◌≡◌, ℕ, List, false, Result, Ok, Err, IsErr, sym, ap, subst, ◌∙◌}
use Rattle.sqlite_value.specs.Order.{Row}
use Rattle.sqlite_trees.specs.declared.store.Store.{Ghosts}
use Rattle.sqlite.specs.declared.error.Error.{Error}
use Rattle.sqlite.specs.Effect.{Database}
use Rattle.sqlite.specs.Held.{Held, state}
use Rattle.sqlite.specs.State.{HasCleanDisk, Survives, CommitsShowing, Shown, FailsToQuery}
use Rattle.sqlite.proofs.Callers.{never_commits}
use Rattle.sqlite.proofs.StateLemmas.{survives_weaker}
use Rattle.bike_sql.specs.Answer.{HasOneAnswer}
use Rattle.bike_sql.specs.Calls.{IsQuiet, ReadsWhere}
use Rattle.bike_sql.proofs.ReadLemmas.{query_stopped}
use Rattle.bike_sql.proofs.WalkLaw.{answers_all}
use Rattle.bike_book.specs.Tables.{Tables}
use Rattle.bike_book.specs.Stored.{tables_for}
use Rattle.bike_schema.specs.Tables.{HasTables, IsOurs, tables_of}
use Rattle.bike_schema.specs.Answers.{Answers}

-- In a database that has the tables the text answers these rows of them, in this order.
pub record ListsIn (text : List ℕ) (params : Row) (rows : Tables → List Row) : Type 0 where
  pub lists : (db : Database) → HasTables db → HasOneAnswer db text params (rows (tables_of db))

module _ {S : Type 0} (g : Ghosts S) (old new : Held S) {text : List ℕ} {params sent : Row} {rows : Tables → List Row} (it : ListsIn text params rows) (same : sent ≡ params)
    (mode : old.in_transaction ≡ false → new.in_transaction ≡ false)
    (survives : Survives (state g old) (state g new) (CommitsShowing text sent (state g old))) where
  one : (db : Database) → IsOurs db → HasOneAnswer db text sent (rows (tables_of db))
  one db ours = subst (λ values. HasOneAnswer db text values (rows (tables_of db))) (sym same) (it.lists db ours.has)

  quiet : IsQuiet g IsOurs old new
  quiet = record {
    mode = mode;
    survives =
        survives_weaker (state g old) (state g new) _ (λ _. ¬ IsOurs (state g old).now)
        (λ clean db commits ours. never_commits text sent (state g old) db (one (state g old).now ours).means.1 commits) survives;
  }

  -- A function of one statement answers all rows that the text answers in the tables of the operator.
  pub all_answer : {X E : Type 0} {x : X} (items : X → List Row) → (HasCleanDisk (state g new) → Shown text sent (state g old) (state g new) (items x))
      → Answers g old new {E = E} (Ok x) (λ s m y. items y ≡ rows (tables_for s m))
  all_answer items shown =
      let told = λ (clean : HasCleanDisk (state g new)) (ours : IsOurs (state g old).now). answers_all text sent (state g old) (state g new) (rows (tables_of (state g old).now)) (one (state g old).now ours) (items _) (shown clean) in record {
        found = λ clean ours s h. (told clean ours).0 ∙ ap rows h.tables;
        same = λ clean ours. (told clean ours).1;
        failed = λ clean ours. tt;
        quiet = quiet;
      }

  -- .. or fails
  pub all_refused : {X E : Type 0} (e : Error) {result : Result X E} {told : Database → X → Type 0} → IsErr result → (HasCleanDisk (state g new) → FailsToQuery text sent (state g old) (state g new) e)
      → ReadsWhere g IsOurs old new result told
  all_refused e {result = Ok x} is fails = absurd (let it = is in cc)
  all_refused e {result = Err fault} is fails = record {
    found = λ clean ours. tt;
    same = λ clean ours. tt;
    failed = λ clean ours. query_stopped text sent (state g old) (state g new) (one (state g old).now ours).means.1 e (fails clean);
    quiet = quiet;
  }
