use Rattle.std.proofs.Common.{◌≡◌, None, refl, sym, subst}
use Rattle.std.specs.Prelude.{take, option_map}
use Rattle.bike_book.specs.Tables.{Trucks}
use Rattle.bike_schema.specs.Tables.{tables_of}
use Rattle.bike_readings.proofs.RulesLaws.{stored_in_order}
use Rattle.bike_judges.specs.declared.query.Query.TheVariants as query
use Rattle.bike_judges.specs.Judging.{key_row}
use Rattle.bike_judges.specs.Lines.{lines_of}
use Rattle.bike_judges.specs.Passes.{pass}
use Rattle.bike_judges.specs.Verdicts.{IsTableVerdict}
use Rattle.bike_fleet_rules.specs.Loads.{truck_begins, truck_more, truck_good, truck_key}
use Rattle.bike_fleet_rules.proofs.Parts.{tables_wide}
use Rattle.bike_fleet_rules.proofs.TruckLaw.{trucks_verdict}
use Rattle.bike_fleet_rules.proofs.Told.{reads_told}
use Rattle.bike_fleet_rules.proofs.trucks.judge_trucks.Goals as goal

pub returns : goal.returns
returns g c =
    reads_told c.judge_lines.ensures (λ db found ours it early.
    let verdict = pass truck_begins truck_more truck_good truck_key (take 1) None 0 (lines_of query.Trucks (tables_of db)) in
    let is : option_map key_row found ≡ verdict = it verdict (λ i. pass truck_begins truck_more truck_good truck_key (take 1) (c.new-judge.ensures.account i) (c.new-judge.ensures.closed i) (lines_of query.Trucks (tables_of db))) in
    subst (IsTableVerdict (tables_of db) Trucks) (sym is) (trucks_verdict (tables_of db) (stored_in_order db) (tables_wide db ours.has) verdict refl))
