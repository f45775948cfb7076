use Rattle.std.proofs.Common.{◌∙◌, ap}
use Rattle.std.specs.FinSet as set
use Rattle.std.specs.List.{fold}
use Rattle.bike_schema.specs.Tables.{tables_of}
use Rattle.bike_readings.proofs.RulesLaws.{stored_in_order}
use Rattle.bike_ledger_rules.specs.declared.known.PlanSet.{PlanSet}
use Rattle.bike_ledger_rules.specs.Known.{with_plan}
use Rattle.bike_ledger_rules.proofs.KnownRows.{plans_known}
use Rattle.bike_ledger_rules.proofs.ReadLaws.{reads_ours_as}
use Rattle.bike_ledger_rules.proofs.known.read_plans.Goals as goal

pub returns : goal.returns
returns g c = reads_ours_as c.in_ok-plans.ensures (λ db ours is.
    ap (λ (a : PlanSet). set.contains a.idents) is
    ∙ ap (λ (none : _). set.contains (fold with_plan (record { idents = none }) (tables_of db).plans).idents) c.new.ensures
    ∙ plans_known (tables_of db) (stored_in_order db))
