-- Rows that are read where the engine has them, one after another.
use Rattle.std.specs.Prelude.{◌≡◌, List, ◌∷◌, [], Option, Some, None, Ok}
use Rattle.sqlite_value.specs.Order.{Row}
use Rattle.sqlite_trees.specs.declared.store.Store.{Ghosts}
use Rattle.sqlite.specs.Effect.{Database}
use Rattle.sqlite.specs.Held.{Held}
use Rattle.bike_sql.specs.Calls.{ReadsWhere}
use Rattle.bike_sql.specs.Walk.{IsWalking}
use Rattle.bike_schema.specs.Tables.{IsOurs}
use Rattle.bike_schema.specs.declared.fault.StatementFault.{StatementFault}

module _ {S : Type 0} (g : Ghosts S) where
  -- of the rows that were to come one more was read, or there was none
  abbrev pub ReadsNext : {X : Type 0} → (Row → X → Type 0) → Held S → List Row → Option X → Type 0
  ReadsNext Reads now left (Some x) =
      (row : Row) × (rest : List Row) × (left ≡ row ∷ rest) × Reads row x × IsWalking g now rest
  ReadsNext Reads now left None = left ≡ []

  -- in a database of ours these rows are to come
  abbrev pub WalksOver : Held S → Held S → (Database → List Row) → Type 0
  WalksOver first now all =
      ReadsWhere g IsOurs first now {X = Unit {0}} {E = StatementFault} (Ok tt) (λ db _. IsWalking g now (all db))
