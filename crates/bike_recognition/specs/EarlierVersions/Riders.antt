-- The table `riders`, in which every earlier version has its riders. It tells neither a plan of a rider's own nor what
-- was archived, since there was neither.
use Rattle.std.specs.Prelude.{ℕ, pos, List, [], ◌∷◌, codes}
use Rattle.sqlite_value.specs.declared.value.Value.TheVariants.{Null, Int}
use Rattle.sqlite_value.specs.Order.{Row, column}
use Rattle.sqlite.specs.Effect.{Database}
use Rattle.bike_sql.specs.Layout.{Layout}
use Rattle.bike_sql.specs.Stands.{rows_of, Stands}
use Rattle.bike_schema.specs.Layouts.{number, numbered_layout}

abbrev pub riders_name : List ℕ
riders_name = codes "riders"

-- its columns are the first three of today's
abbrev pub riders_layout : Layout
riders_layout = numbered_layout riders_name (codes "rider") (number (codes "blocked") ∷ number (codes "balance") ∷ [])

abbrev pub HasRiders : Database → Type 0
HasRiders db = Stands db 1 riders_layout

-- its rows, in the order of the riders
abbrev pub old_riders : Database → List Row
old_riders = rows_of 1 riders_name

-- THE ROW OF A RIDER AS ONE OF TODAY: nothing of the balance is by archived entries, and the rider has no plan
abbrev pub completed_rider : Row → Row
completed_rider row = column row 0 ∷ column row 1 ∷ column row 2 ∷ Int (pos 0) ∷ Null ∷ []
