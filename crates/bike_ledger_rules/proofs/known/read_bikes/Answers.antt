use Rattle.std.proofs.Common.{◌∙◌, ap}
use Rattle.std.specs.List.{fold}
use Rattle.bike_schema.specs.Tables.{tables_of}
use Rattle.bike_judges.specs.declared.query.Query.TheVariants as query
use Rattle.bike_judges.specs.Lines.{lines_of}
use Rattle.bike_readings.proofs.RulesLaws.{stored_in_order}
use Rattle.bike_ledger_rules.specs.declared.known.BikeSet.{BikeSet}
use Rattle.bike_ledger_rules.specs.Known.{value_at, with_bike}
use Rattle.bike_ledger_rules.proofs.KnownRows.{bikes_known}
use Rattle.bike_ledger_rules.proofs.ReadLaws.{reads_ours_as}
use Rattle.bike_ledger_rules.proofs.Widths.{bikes_wide}
use Rattle.bike_ledger_rules.proofs.known.read_bikes.Goals as goal

pub returns : goal.returns
returns g c = reads_ours_as c.in_ok-bikes.ensures (λ db ours is.
    ap (λ (a : BikeSet). value_at a.rentals) is
    ∙ ap (λ (none : _). value_at (fold with_bike (record { rentals = none }) (lines_of query.BikeTrucks (tables_of db))).rentals) c.new.ensures
    ∙ bikes_known (tables_of db) (stored_in_order db) (bikes_wide db ours.has))
