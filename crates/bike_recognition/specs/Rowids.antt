-- The rowids of a table of which its columns alone are known: that
-- they are numbers and apart is found out by a pass over them.
use Rattle.std.specs.Prelude.{◌≡◌, ℕ, ℤ, ◌<ℤ◌, int_lt, Bool, true, false, List, [], ◌∷◌, ◌++◌, map, Option, Some, None}
use Rattle.std.specs.Prelude.{Result, IfOk, OnOk, OnErr}
use Rattle.std.specs.List.{AllByRecursion}
use Rattle.sqlite_value.specs.declared.value.Value.TheVariants.{Int}
use Rattle.sqlite_value.specs.Order.{Row}
use Rattle.sqlite_sql.specs.Term.{col}
use Rattle.sqlite_sql.specs.Query.{Query}
use Rattle.sqlite_trees.specs.Tree.{rowid, IsAscending}
use Rattle.sqlite_trees.specs.declared.store.Store.{Ghosts}
use Rattle.sqlite.specs.Effect.{Database}
use Rattle.sqlite.specs.Given.{HasGiven}
use Rattle.sqlite.specs.Held.{Held, state}
use Rattle.sqlite.specs.State.{Shown, HasCleanDisk, IsUnchanged, Survives}
use Rattle.bike_sql.specs.Answer.{MeansQuery}
use Rattle.bike_sql.specs.Calls.{IsQuiet}
use Rattle.bike_sql.specs.Outcome.{IsLeft}
use Rattle.bike_sql.specs.Queries.{table_query, by_columns}
use Rattle.bike_sql.specs.View.{AreSpread, AreNumbered}
use Rattle.bike_recognition.specs.declared.rowids.Rowid.{Rowid}
use Rattle.bike_recognition.specs.declared.rowids.NextRowid.{NextRowid}
use Rattle.bike_recognition.specs.declared.rowids.NextRowid.TheVariants.{Number, Other, End}

-- ---- the query

-- SELECT rowid FROM the table in the tree ORDER BY rowid
abbrev pub rowids_query : ℕ → Query
rowids_query tree = table_query tree [] (by_columns (0 ∷ [])) (col 1 0 ∷ [])

-- in the database the text asks for the rowids of the table in this tree
pub record AsksRowids (db : Database) (text : List ℕ) : Type 0 where
  pub tree : ℕ
  pub names : List (List ℕ)
  pub means : MeansQuery db.schema text (rowids_query tree) names

-- the rowids are numbers, and no two rows have one
abbrev pub AreApart : List Row → Type 0
AreApart rows = AreSpread rows × AreNumbered rows

-- the answer's row of a number
abbrev pub rowid_row : ℤ → Row
rowid_row n = Int n ∷ []

-- the answer's row of a stored row
abbrev pub shown_rowid : Row → Row
shown_rowid row = rowid row ∷ []

-- ---- a pass over them

-- what a row of the answer holds
abbrev pub Holds : Row → NextRowid → Type 0
Holds row (Number id) = row ≡ rowid_row id.number
Holds row Other = Unit {0}
Holds row End = ⊥

-- the number is above the last one
abbrev pub is_above : Option Rowid → Rowid → Bool
is_above None id = true
is_above (Some last) id = int_lt last.number id.number

-- each number is below each later one
abbrev pub Climb : List ℤ → Type 0
Climb = IsAscending (λ m n. m <ℤ n)

-- a number that is above the last is above all of them
abbrev pub ReachUpTo : Option Rowid → List ℤ → Type 0
ReachUpTo None ids = ids ≡ []
ReachUpTo (Some last) ids = (n : ℤ) → last.number <ℤ n → AllByRecursion (λ m. m <ℤ n) ids

module _ {S : Type 0} (g : Ghosts S) where
  -- after these rows of the answer: a number more, a row that is none, or the end
  abbrev pub GoesTo : List ℕ → Held S → Held S → List Row → NextRowid → Type 0
  GoesTo text old new given (Number id) = HasGiven g text [] new (given ++ rowid_row id.number ∷ [])
  GoesTo text old new given Other = Unit {0}
  GoesTo text old new given End = Shown text [] (state g old) (state g new) given

  -- the rows that were given are numbers that climb, up to the last
  pub record IsClimbing (text : List ℕ) (h : Held S) (last : Option Rowid) : Type 0 where
    pub ids : List ℤ
    pub climb : Climb ids
    pub reach : ReachUpTo last ids
    pub gave : HasGiven g text [] h (map rowid_row ids)

  -- A pass that began: no row was given yet.
  pub record BeginsPass (text : List ℕ) (old new : Held S) : Type 0 where
    pub gave : HasGiven g text [] new []
    pub same : IsUnchanged (state g old) (state g new)

  -- A pass is under way: the database is as it was, and the numbers climb so far.
  pub record IsPassing (text : List ℕ) (old now : Held S) (last : Option Rowid) : Type 0 where
    pub quiet : IsQuiet g (λ db. AsksRowids db text) old now
    pub same : HasCleanDisk (state g now) → AsksRowids (state g old).now text → IsUnchanged (state g old) (state g now)
    pub climbing : HasCleanDisk (state g now) → AsksRowids (state g old).now text → IsClimbing text now last

  -- What one step of a pass tells.
  pub record Steps (old new : Held S) {E : Type 0} (result : Result NextRowid E) : Type 0 where
    pub next : HasCleanDisk (state g new) → IfOk result
        (λ next. (text : List ℕ) (given : List Row) → HasGiven g text [] old given → GoesTo text old new given next)
    pub same : HasCleanDisk (state g new) → OnOk result (IsUnchanged (state g old) (state g new))
    pub failed : HasCleanDisk (state g new) → OnErr result (IsLeft (state g old) (state g new))
    pub mode : old.in_transaction ≡ false → new.in_transaction ≡ false
    pub survives : Survives (state g old) (state g new) (λ _. ⊥)
