-- A read that tells one thing tells what follows from that.
use Rattle.std.proofs.Common.{inl, Result, Ok, Err, IfOk}
use Rattle.std.proofs.lemmas.Result.{IfOk-weaker}
use Rattle.sqlite_trees.specs.declared.store.Store.{Ghosts}
use Rattle.sqlite.specs.Effect.{Database}
use Rattle.sqlite.specs.Held.{Held}
use Rattle.bike_sql.specs.Calls.{ReadsWhere}
use Rattle.bike_sql.proofs.ChainLaws.{reads_as}

-- where `P` holds of the database that it read
pub reads_told : {S X E : Type 0} {g : Ghosts S} {P : Database → Type 0} {old new : Held S} {result : Result X E} {says told : Database → X → Type 0} → ReadsWhere g P old new result says
    → ((db : Database) → P db → (x : X) → says db x → told db x) → ReadsWhere g P old new result told
reads_told {g = g} {old = old} {result = result} it then = record {
  found = λ clean has. IfOk-weaker result _ _ (λ x at. then _ has x at) (it.found clean has);
  same = it.same;
  failed = it.failed;
  quiet = it.quiet;
}

-- What a caller makes of the value that was read tells what follows from that, or the caller fails.
pub reads_further : {S X Y E F : Type 0} {g : Ghosts S} {P : Database → Type 0} {old new : Held S} {x : X} {result : Result Y F} {says : Database → X → Type 0} {told : Database → Y → Type 0}
    → ReadsWhere g P old new {E = E} (Ok x) says → IfOk result (λ y. (db : Database) → says db x → told db y) → ReadsWhere g P old new result told
reads_further {result = Ok y} it then = reads_as it then
reads_further {result = Err f} it then = record { found = λ clean has. tt; same = λ clean has. tt; failed = λ clean has. inl (it.same clean has); quiet = it.quiet }
