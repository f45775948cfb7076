use Rattle.std.proofs.Common.{◌∙◌, ap}
use Rattle.std.specs.FinSet as set
use Rattle.std.specs.List.{fold}
use Rattle.bike_schema.specs.Tables.{tables_of}
use Rattle.bike_judges.specs.declared.query.Query.TheVariants as query
use Rattle.bike_judges.specs.Lines.{lines_of}
use Rattle.bike_readings.proofs.RulesLaws.{stored_in_order}
use Rattle.bike_ledger_rules.specs.declared.known.StationSet.{StationSet}
use Rattle.bike_ledger_rules.specs.Known.{with_station}
use Rattle.bike_ledger_rules.proofs.KnownRows.{stations_known}
use Rattle.bike_ledger_rules.proofs.ReadLaws.{reads_ours_as}
use Rattle.bike_ledger_rules.proofs.Widths.{stations_wide}
use Rattle.bike_ledger_rules.proofs.known.read_stations.Goals as goal

pub returns : goal.returns
returns g c = reads_ours_as c.in_ok-stations.ensures (λ db ours is.
    ap (λ (a : StationSet). set.contains a.idents) is
    ∙ ap (λ (none : _). set.contains (fold with_station (record { idents = none }) (lines_of query.StationRows (tables_of db))).idents) c.new.ensures
    ∙ stations_known (tables_of db) (stored_in_order db) (stations_wide db ours.has))
