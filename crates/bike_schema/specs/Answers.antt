-- What a read answers, told of the operator whose tables it read.
use Rattle.std.specs.Prelude.{◌≡◌, Result, IfOk}
use Rattle.sqlite_value.specs.Order.{Row}
use Rattle.sqlite_trees.specs.declared.store.Store.{Ghosts}
use Rattle.sqlite.specs.Effect.{Database}
use Rattle.sqlite.specs.Held.{Held}
use Rattle.bike_sql.specs.Calls.{ReadsWhere}
use Rattle.bike_operator.specs.Operator.{Operator}
use Rattle.bike_book.specs.Stored.{Listed}
use Rattle.bike_schema.specs.Tables.{IsOurs}
use Rattle.bike_schema.specs.Stands.{Stores}

-- a fact of each operator whose tables the database has, and of the rows that are listed there
abbrev pub OfEach : {A : Type 0} → (Operator → Listed → A → Type 0) → Database → A → Type 0
OfEach says db value = (s : Operator) (h : Stores db s) → says s h.listed value

-- A read: its value is what it says of the operator whose tables stand in the database, which it leaves as it was.
abbrev pub Answers : {S : Type 0} → Ghosts S → Held S → Held S → {A E : Type 0} → Result A E
    → (Operator → Listed → A → Type 0) → Type 0
Answers g old new result says = ReadsWhere g IsOurs old new result (OfEach says)

-- What was read of a row is that of which the row was made.
abbrev pub IsReadOf : {X : Type 0} → (X → Row) → Row → {E : Type 0} → Result X E → Type 0
IsReadOf row_of row result = IfOk result (λ x. (y : _) → row ≡ row_of y → x ≡ y)
