-- How the clauses begin that speak of the operator which a connection keeps.
use Rattle.std.specs.Prelude.{◌≡◌, ℕ, List, Option, None, Result, OnOk}
use Rattle.std.specs.FinMap as map
use Rattle.sqlite_trees.specs.declared.store.Store.{Ghosts}
use Rattle.sqlite.specs.State.{State, HasCleanDisk}
use Rattle.sqlite.specs.Held.{Held, state}
use Rattle.bike_commands.specs.declared.request.Request.{Request}
use Rattle.bike_operator.specs.declared.view.View.{View}
use Rattle.bike_operator.specs.Operator.{Operator, key_in, kept_under}
use Rattle.bike_accepted.specs.declared.accepted.Accepted.{Accepted}
use Rattle.bike_book.specs.declared.row_change.RowChange.{RowChange}
use Rattle.bike_schema.specs.Stands.{AllLeft, Keeps}
use Rattle.bike_booking.specs.declared.texts.KeptTexts.{KeptTexts}
use Rattle.bike_booking.specs.declared.figures.Figures.{Figures}
use Rattle.bike_booking.specs.declared.stored.Stored.{Stored}
use Rattle.bike_views.specs.declared.view_and_docks.StationDocks.{StationDocks}
use Rattle.bike_desk.specs.declared.serve.RequestTexts.{RequestTexts}
use Rattle.bike_desk.specs.Desk.{TreesStandForEither}
use Rattle.bike_desk.specs.Serving.{IsNextBy, IsReadFor, IsAcceptedIn}

-- So it is of each operator that the connection kept, where the disk is clean afterwards.
abbrev pub ForEachKept : {S : Type 0} → Ghosts S → Held S → Held S → (Operator → Type 0) → Type 0
ForEachKept g old new says = HasCleanDisk (state g new) → (s : Operator) → Keeps (state g old) s → says s

-- So it is of each of them and the next one by the row changes.
abbrev pub ForEachNext : {S : Type 0} → Ghosts S → Held S → Held S → List RowChange
    → (Operator → Operator → Type 0) → Type 0
ForEachNext g old new changes says =
    HasCleanDisk (state g new) → (s next : Operator) → IsNextBy (state g old) changes s next → says s next

-- So it is of each of them and each moment for which all this was read.
abbrev pub ForEachRead : {S : Type 0} → Ghosts S → Held S → Held S → ℕ → Request → Figures → View
    → Option StationDocks → (Operator → ℕ → Type 0) → Type 0
ForEachRead g old new now q figures view docks says =
    HasCleanDisk (state g new) → (s : Operator) (moment : ℕ) → Keeps (state g old) s
    → IsReadFor (state g old).now s moment now q figures (record { view = view; docks = docks }) → says s moment

-- So it is of each of them and each request that it accepts so, of which this is stored.
abbrev pub ForEachStored : {S : Type 0} → Ghosts S → Held S → Held S → ℕ → Accepted → Stored → ℕ → KeptTexts
    → (Operator → Request → Type 0) → Type 0
ForEachStored g old new now a n number texts says =
    HasCleanDisk (state g new) → (s : Operator) (q : Request) → Keeps (state g old) s
    → IsAcceptedIn (state g old).now s now q a n number texts → says s q

-- nothing is kept under the request's key
abbrev pub IsAnew : Operator → RequestTexts → Type 0
IsAnew s asked = kept_under (key_in asked.request.now) s.history.items ≡ None

-- The database stays as it was where the operator does.
abbrev pub StaysWith : {S A E : Type 0} → Ghosts S → Held S → Held S → Operator → Operator → Result A E → Type 0
StaysWith g old new s next result = next ≡ s → OnOk result ((state g new).now ≡ (state g old).now)

-- all that a crash may leave stands for the one operator or the other
abbrev pub CrashLeavesEither : State → Operator → Operator → Type 0
CrashLeavesEither c s next = AllLeft c (TreesStandForEither s next)
