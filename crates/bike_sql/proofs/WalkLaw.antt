-- What is answered of a query that has one answer: row by row, all at once, or its first row.
use Rattle.std.proofs.Common.{◌≡◌, inl, inr, ℕ, List, [], ◌∷◌, ◌++◌, slice_get, append_assoc, append-nil, Option, Some, None, Result, Ok, Err, IfOk, OnErr, refl, sym, ap, subst, ◌∙◌}
use Rattle.std.specs.Option.{option_to_list}
use Rattle.sqlite_value.specs.declared.value.Value.TheVariants.{Null}
use Rattle.sqlite_value.specs.Order.{Row}
use Rattle.sqlite_trees.specs.declared.store.Store.{Ghosts}
use Rattle.sqlite_sql.specs.Query.{Query, IsAnswerAs}
use Rattle.sqlite_sql.specs.Program.{overlay}
use Rattle.sqlite.specs.declared.error.Error.{Error}
use Rattle.sqlite.specs.declared.error.Error.TheVariants.{QueryReturnedNoRows}
use Rattle.sqlite.specs.Effect.{Database}
use Rattle.sqlite.specs.Given.{HasBegun, Advances}
use Rattle.sqlite.specs.Held.{Held, state}
use Rattle.sqlite.specs.State.{State, Shown, QueriesRow, IsUnchanged, Survives, CommitsShowing}
use Rattle.sqlite.proofs.Callers.{reads_as, begins_as, first_as, given_begin, begun_plain}
use Rattle.bike_sql.specs.Answer.{MeansQuery, HasOneAnswer}
use Rattle.bike_sql.specs.Outcome.{IsLeft, if_any}
use Rattle.bike_sql.specs.Walk.{IsWalking, GoesOn}
use Rattle.bike_sql.proofs.CrashLemmas.{read_survives}
use Rattle.bike_sql.proofs.ReadLemmas.{shown_same, row_stopped, never_none}

-- a query that computes no table first
pub one_answer : (db : Database) (text : List ℕ) (params : Row) (query : Query) (names : List (List ℕ)) (all : List Row) → MeansQuery db.schema text query names
    → ((rows : List Row) → IsAnswerAs Null query (overlay db.trees []) params rows → rows ≡ all)
    → HasOneAnswer db text params all
one_answer db text params query names all means only = record {
  program = record { lets = []; body = query };
  names = names;
  means = means;
  whole = λ rows answer. only rows (answer Null);
  begins = λ rows start. (start.0, only (rows ++ start.0) (start.1 Null));
}

append_same : {X : Type 0} (front xs ys : List X) → front ++ xs ≡ front ++ ys → xs ≡ ys
append_same [] xs ys same = same
append_same (x ∷ front) xs ys same = append_same front xs ys (cc)

-- ---- row by row

module _ {S : Type 0} (g : Ghosts S) where
  pub walk_opens : (old new : Held S) (text : List ℕ) (params : Row) (all : List Row) → HasOneAnswer (state g old).now text params all → HasBegun g text params old new
      → IsWalking g new all × IsUnchanged (state g old) (state g new)
  walk_opens old new text params all one begun =
      let both = begun_plain g text params old new one.means.1 begun in
      (record { text = text; params = params; given = []; gave = both.0; answer = subst (λ db. HasOneAnswer db text params all) (sym both.1.0.now_is) one }, both.1)

  pub walk_goes : (old new : Held S) (row : Option Row) → Advances g old new row → IsUnchanged (state g old) (state g new) → (left : List Row) → IsWalking g old left → GoesOn g new left row
  walk_goes old new (Some row) goes same left it =
      let gave = goes it.text it.params it.given it.gave in
      let one = subst (λ db. HasOneAnswer db it.text it.params (it.given ++ left)) (sym same.0.now_is) it.answer in
      let first = (begins_as it.text it.params (state g new) (state g new) new.schema refl _ one.means.0 one.means.1 one.means.2 (it.given ++ row ∷ []) (given_begin g it.text it.params new (it.given ++ row ∷ []) gave)).1 in
      let rest = one.begins (it.given ++ row ∷ []) first in
      let split : left ≡ row ∷ rest.0 = append_same it.given left (row ∷ rest.0) (sym rest.1 ∙ append_assoc it.given (row ∷ []) rest.0) in
      (rest.0, split, record { text = it.text; params = it.params; given = it.given ++ row ∷ []; gave = gave; answer = subst (HasOneAnswer (state g new).now it.text it.params) (sym rest.1) one })
  walk_goes old new None goes same left it =
      let answer = reads_as it.text it.params (state g old) (state g new) old.schema refl _ it.answer.means.0 it.answer.means.1 it.answer.means.2 it.given (goes it.text it.params it.given it.gave) in
      let end = it.answer.whole it.given answer.answer in
      append_same it.given left [] (sym end ∙ sym (append-nil it.given))

-- A query that has one answer leaves unchanged what a crash may leave.
pub answer_survives : (text : List ℕ) (params : Row) (old new : State) (all : List Row) → HasOneAnswer old.now text params all → Survives old new (CommitsShowing text params old)
    → Survives old new (λ _. ⊥)
answer_survives text params old new all one = read_survives text params old new one.means.1

-- ---- all at once, or the first row

module _ (text : List ℕ) (params : Row) (old new : State) (all : List Row) (one : HasOneAnswer old.now text params all) where
  pub answers_all : (rows : List Row) → Shown text params old new rows → (rows ≡ all) × IsUnchanged old new
  answers_all rows h = (one.whole rows (reads_as text params old new old.now.schema refl _ one.means.0 one.means.1 one.means.2 rows h).answer, shown_same text params old new one.means.1 rows h)

  begins_all : (row : Row) → QueriesRow text params old new (Ok row) → slice_get all 0 ≡ Some row
  begins_all row h =
      let rest = one.begins (row ∷ []) (first_as text params old new old.now.schema refl _ one.means.0 one.means.1 one.means.2 row h).1 in
      ap (λ rows. slice_get rows 0) (sym rest.1)

  same_after : (row : Row) → QueriesRow text params old new (Ok row) → IsUnchanged old new
  unfolding QueriesRow
  same_after row (inl begun) = begun.1
  same_after row (inr shown) = shown_same text params old new one.means.1 shown.0 shown.1

  none_of : QueriesRow text params old new (Err QueryReturnedNoRows) → (slice_get all 0 ≡ None) × IsUnchanged old new
  unfolding QueriesRow
  none_of (inl failed) = absurd (never_none text params old new one.means.1 failed)
  none_of (inr h) = let it = answers_all [] h.1 in (ap (λ rows. slice_get rows 0) (sym it.0), it.1)

  -- the first row, or that there is none
  pub answers_first : (r : Result Row Error) → QueriesRow text params old new r → IfOk (if_any r) (λ row. (slice_get all 0 ≡ row) × IsUnchanged old new) × OnErr (if_any r) (IsLeft old new)
  answers_first (Ok row) h = ((begins_all row h, same_after row h), tt)
  answers_first (Err QueryReturnedNoRows) h = (none_of h, tt)
  answers_first (Err e) h = (tt, row_stopped text params old new one.means.1 _ h)

-- ---- the one row of a look-up

-- The text is a query that answers this row first, or no row.
pub record Finds (db : Database) (text : List ℕ) (params : Row) (found : Option Row) : Type 0 where
  pub all : List Row
  pub one : HasOneAnswer db text params all
  pub first : slice_get all 0 ≡ found

pub of_option : (found : Option Row) → slice_get (option_to_list found) 0 ≡ found
of_option None = refl
of_option (Some row) = refl

pub finds_first : (text : List ℕ) (params : Row) (old new : State) (found : Option Row) → Finds old.now text params found → (r : Result Row Error) → QueriesRow text params old new r
    → IfOk (if_any r) (λ row. (found ≡ row) × IsUnchanged old new) × OnErr (if_any r) (IsLeft old new)
finds_first text params old new found it r h =
    subst (λ (o : Option Row). IfOk (if_any r) (λ row. (o ≡ row) × IsUnchanged old new) × OnErr (if_any r) (IsLeft old new)) it.first (answers_first text params old new it.all it.one r h)
