-- The lines of a query are shown to a judge, one after another.
use Rattle.std.specs.Prelude.{◌≡◌, false, fold, List, [], Option, Some, Result, IfOk, OnOk, OnErr}
use Rattle.sqlite_value.specs.Order.{Row}
use Rattle.sqlite_trees.specs.declared.store.Store.{Ghosts}
use Rattle.sqlite.specs.Held.{Held, state}
use Rattle.sqlite.specs.State.{HasCleanDisk, IsUnchanged, Survives}
use Rattle.bike_sql.specs.Calls.{IsQuiet}
use Rattle.bike_sql.specs.Outcome.{IsLeft}
use Rattle.bike_sql.specs.Walk.{IsWalking}
use Rattle.bike_schema.specs.Tables.{IsOurs, tables_of}
use Rattle.bike_judges.specs.declared.query.Query.{Query}
use Rattle.bike_judges.specs.Judging.{key_row}
use Rattle.bike_judges.specs.Lines.{lines_of}
use Rattle.bike_judges.specs.declared.lines.Step.{Step}
use Rattle.bike_judges.specs.declared.lines.Step.TheVariants.{Shown, Found, End}

-- what is computed comes to this total over the lines that are to come
abbrev pub ComesTo : {F : Type 0} → (F → Row → F) → F → F → List Row → Option Row → Type 0
ComesTo after total so_far left verdict = fold after so_far left ≡ total

module _ {S J : Type 0} (g : Ghosts S) (says : J → List Row → Option Row → Type 0) where
  -- what the judge says now of the lines that are to come is what it said of those that were
  abbrev pub SaysAs : J → List Row → J → List Row → Type 0
  SaysAs before all after left = (verdict : Option Row) → says before all verdict → says after left verdict

  -- The walk has these lines left, and what the judge said of all it says of them.
  pub record IsShowing (now : Held S) (first : J) (all : List Row) (judge : J) : Type 0 where
    pub left : List Row
    pub walking : IsWalking g now left
    pub told : SaysAs first all judge left

  -- of the lines that were to come: one was shown, or it held the first bad key, or there was none
  abbrev pub GoesTo : Held S → J → J → List Row → Step → Type 0
  GoesTo new before after left Shown = IsShowing new before left after
  GoesTo new before after left (Found key) =
      (verdict : Option Row) → says before left verdict → verdict ≡ Some (key_row key)
  GoesTo new before after left End = SaysAs before left after []

  -- What one step tells.
  pub record Steps (old new : Held S) (before after : J) {E : Type 0} (result : Result Step E) : Type 0 where
    pub next : HasCleanDisk (state g new) → IfOk result
        (λ step. (left : List Row) → IsWalking g old left → GoesTo new before after left step)
    pub same : HasCleanDisk (state g new) → OnOk result (IsUnchanged (state g old) (state g new))
    pub failed : HasCleanDisk (state g new) → OnErr result (IsLeft (state g old) (state g new))
    pub mode : old.in_transaction ≡ false → new.in_transaction ≡ false
    pub survives : Survives (state g old) (state g new) (λ _. ⊥)

  -- The lines of the query are being shown: the database is as it was,
  -- and what the judge said of all it says of those that are left.
  pub record IsUnderWay (query : Query) (old now : Held S) (first judge : J) : Type 0 where
    pub quiet : IsQuiet g IsOurs old now
    pub same : HasCleanDisk (state g now) → IsOurs (state g old).now → IsUnchanged (state g old) (state g now)
    pub showing : HasCleanDisk (state g now) → IsOurs (state g old).now
        → IsShowing now first (lines_of query (tables_of (state g old).now)) judge
