use Rattle.std.proofs.Common.{◌∙◌, ap}
use Rattle.std.specs.List.{fold}
use Rattle.bike_schema.specs.Tables.{tables_of}
use Rattle.bike_judges.specs.declared.query.Query.TheVariants as query
use Rattle.bike_judges.specs.Lines.{lines_of}
use Rattle.bike_readings.proofs.RulesLaws.{stored_in_order}
use Rattle.bike_ledger_rules.specs.declared.known.RiderSet.{RiderSet}
use Rattle.bike_ledger_rules.specs.Known.{is_listed, with_rider}
use Rattle.bike_ledger_rules.proofs.KnownRows.{riders_known}
use Rattle.bike_ledger_rules.proofs.ReadLaws.{reads_ours_as}
use Rattle.bike_ledger_rules.proofs.Widths.{riders_wide}
use Rattle.bike_ledger_rules.proofs.known.read_riders.Goals as goal

pub returns : goal.returns
returns g c = reads_ours_as c.in_ok-riders.ensures (λ db ours is.
    ap (λ (a : RiderSet). is_listed a.numbers) is
    ∙ ap (λ (none : _). is_listed (fold with_rider (record { numbers = none }) (lines_of query.RiderRows (tables_of db))).numbers) c.new.ensures
    ∙ riders_known (tables_of db) (stored_in_order db) (riders_wide db ours.has))
