-- What the rules of a table answer, by what a judge finds in the lines of a database.
use Rattle.std.proofs.Common.{Result, Ok}
use Rattle.std.proofs.lemmas.Result.{IfOk-weaker}
use Rattle.sqlite_trees.specs.declared.store.Store.{Ghosts}
use Rattle.sqlite.specs.Effect.{Database}
use Rattle.sqlite.specs.Held.{Held, state}
use Rattle.bike_sql.specs.Calls.{ReadsWhere}

-- More follows of what was read, in databases of which `P` holds.
pub reads_told : {S X E : Type 0} {g : Ghosts S} {P : Database → Type 0} {old new : Held S} {result : Result X E} {says told : Database → X → Type 0}
    → ReadsWhere g P old new result says → ((db : Database) (x : X) → P db → says db x → told db x) → ReadsWhere g P old new result told
reads_told {g = g} {old = old} {result = result} {says = says} {told = told} it then = record {
  found = λ clean has. IfOk-weaker result (says (state g old).now) (told (state g old).now) (λ x at. then (state g old).now x has at) (it.found clean has);
  same = it.same;
  failed = it.failed;
  quiet = it.quiet;
}

-- The same of what was made of it.
pub reads_then : {S X Y E F : Type 0} {g : Ghosts S} {P : Database → Type 0} {old new : Held S} {x : X} {y : Y} {says : Database → X → Type 0} {told : Database → Y → Type 0}
    → ReadsWhere g P old new {E = E} (Ok x) says → ((db : Database) → P db → says db x → told db y) → ReadsWhere g P old new {E = F} (Ok y) told
reads_then {g = g} {old = old} it then = record { found = λ clean has. then (state g old).now has (it.found clean has); same = it.same; failed = λ clean has. tt; quiet = it.quiet }
