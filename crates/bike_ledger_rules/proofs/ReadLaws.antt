-- Reads of databases that have the tables.
use Rattle.std.proofs.Common.{Result, Ok}
use Rattle.std.proofs.lemmas.Result.{IfOk-weaker}
use Rattle.sqlite_trees.specs.declared.store.Store.{Ghosts}
use Rattle.sqlite.specs.Effect.{Database}
use Rattle.sqlite.specs.Held.{Held}
use Rattle.bike_sql.specs.Calls.{ReadsWhere}
use Rattle.bike_schema.specs.Tables.{IsOurs}

-- what follows of the value that was read, where the database has the tables
pub reads_ours : {S X E : Type 0} {g : Ghosts S} {old new : Held S} {result : Result X E} {says told : Database → X → Type 0} → ReadsWhere g IsOurs old new result says
    → ((db : Database) → IsOurs db → (x : X) → says db x → told db x) → ReadsWhere g IsOurs old new result told
reads_ours {result = result} it then = record { found = λ clean ours. IfOk-weaker result _ _ (λ x. then _ ours x) (it.found clean ours); same = it.same; failed = it.failed; quiet = it.quiet }

-- what follows of a value that was read, told of another
pub reads_ours_as : {S X Y E F : Type 0} {g : Ghosts S} {old new : Held S} {x : X} {y : Y} {says : Database → X → Type 0} {told : Database → Y → Type 0}
    → ReadsWhere g IsOurs old new {E = E} (Ok x) says
    → ((db : Database) → IsOurs db → says db x → told db y) → ReadsWhere g IsOurs old new {E = F} (Ok y) told
reads_ours_as it then = record { found = λ clean ours. then _ ours (it.found clean ours); same = it.same; failed = λ clean ours. tt; quiet = it.quiet }
