-- A walk over the rows of an answer, one at a time.
use Rattle.std.specs.Prelude.{◌≡◌, ℕ, List, [], ◌∷◌, ◌++◌, Option, Some, None}
use Rattle.sqlite_value.specs.Order.{Row}
use Rattle.sqlite_trees.specs.declared.store.Store.{Ghosts}
use Rattle.sqlite.specs.Given.{HasGiven}
use Rattle.sqlite.specs.Held.{Held, state}
use Rattle.bike_sql.specs.Answer.{HasOneAnswer}

module _ {S : Type 0} (g : Ghosts S) where
  -- the connection runs a query that has one answer, of which these rows are to come
  pub record IsWalking (h : Held S) (left : List Row) : Type 0 where
    pub text : List ℕ
    pub params : Row
    pub given : List Row
    pub gave : HasGiven g text params h given
    pub answer : HasOneAnswer (state g h).now text params (given ++ left)

  -- of the rows that were to come one more was given, or there was none
  abbrev pub GoesOn : Held S → List Row → Option Row → Type 0
  GoesOn h left (Some row) = (rest : List Row) × (left ≡ row ∷ rest) × IsWalking h rest
  GoesOn h left None = left ≡ []
