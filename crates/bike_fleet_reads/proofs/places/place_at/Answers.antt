use Rattle.std.proofs.Common.{◌≡◌, List, ◌∷◌, ℕ, Option, Some, None, IfOk, sym, ap₂, subst, ◌∙◌}
use Rattle.std.specs.Prelude.{IfSome, ok_or}
use Rattle.sqlite_value.specs.declared.value.Value.TheVariants.{Text}
use Rattle.sqlite_value.specs.Order.{Row, column}
use Rattle.sqlite.specs.Values.{or_null}
use Rattle.bike_operator.specs.declared.records.Place.{Place}
use Rattle.bike_book.specs.Rows.{place_columns}
use Rattle.bike_schema.specs.declared.fault.StatementFault.{StatementFault}
use Rattle.bike_fleet_reads.specs.Holds.{columns_at, HoldsPlace}
use Rattle.bike_fleet_reads.proofs.ColumnLemmas.{holds_optional_ident}
use Rattle.bike_fleet_reads.proofs.places.place_at.Goals as goal

-- the station's column before those of the numbers
place_held : (row numbers : Row) (station : Option (List ℕ)) (place : Option Place) (fault : StatementFault) → column row 3 ≡ or_null Text station → columns_at 4 4 row ≡ numbers
    → IfSome place (λ p. or_null Text station ∷ numbers ≡ place_columns p) → IfOk (ok_or place fault) (HoldsPlace row)
place_held row numbers station None fault first rest is = tt
place_held row numbers station (Some p) fault first rest is = ap₂ ◌∷◌ first rest ∙ is

pub returns : goal.returns
returns c =
    subst (λ r. IfOk r (HoldsPlace c.args.row.now)) (sym c.ok_or.ensures.value)
    (place_held c.args.row.now _ c.in_ok-station.station c.place_of.result _ (holds_optional_ident _ _ c.in_ok-station.ensures.ok) c.in_ok-numbers.ensures c.place_of.ensures)
