-- What a function answers that reads nothing in some of its cases, of a connection that is open.
use Rattle.std.specs.Prelude.{Result, IsTrue, OnOk}
use Rattle.sqlite_trees.specs.declared.store.Store.{Ghosts}
use Rattle.sqlite.specs.Held.{Held, state}
use Rattle.sqlite.specs.State.{HasCleanDisk}
use Rattle.bike_sql.specs.Calls.{IsQuiet}
use Rattle.bike_operator.specs.Operator.{Operator}
use Rattle.bike_book.specs.Stored.{Listed}
use Rattle.bike_schema.specs.Tables.{IsOurs}
use Rattle.bike_schema.specs.Answers.{Answers}

-- The connection is left as it was where nothing is read, but only a read tells that it is open.
pub record AnswersOpen {S : Type 0} (g : Ghosts S) (old new : Held S) {A E : Type 0} (result : Result A E)
    (says : Operator → Listed → A → Type 0) : Type 0 where
  pub answers : IsTrue (state g old).is_open → Answers g old new result says
  pub quiet : IsQuiet g IsOurs old new
  -- where it gives a value, the tables still stand
  pub ours : HasCleanDisk (state g new) → IsOurs (state g old).now → OnOk result (IsOurs (state g new).now)
