use Rattle.std.proofs.Common.{◌≡◌, None, refl, sym, ap₂, subst, rules, ◌∙◌}
use Rattle.std.specs.Prelude.{option_map, option_and_then}
use Rattle.bike_sql.proofs.ChainLaws.{reads_both, reads_failed}
use Rattle.bike_book.specs.Tables.{Bikes}
use Rattle.bike_schema.specs.Tables.{tables_of}
use Rattle.bike_readings.proofs.RulesLaws.{stored_in_order}
use Rattle.bike_judges.specs.declared.query.Query.TheVariants as query
use Rattle.bike_judges.specs.Judging.{key_row}
use Rattle.bike_judges.specs.Lines.{lines_of}
use Rattle.bike_judges.specs.Passes.{first_failing}
use Rattle.bike_judges.specs.Verdicts.{IsTableVerdict}
use Rattle.bike_judges.specs.Least.{least_key}
use Rattle.bike_fleet_rules.specs.Docks.{docked_in, dock_pass, number_row}
use Rattle.bike_fleet_rules.specs.Tests.{first_key, bike_names, bike_uses, bike_trucks}
use Rattle.bike_fleet_rules.proofs.Parts.{tables_wide}
use Rattle.bike_fleet_rules.proofs.BikesLaw.{bikes_verdict}
use Rattle.bike_fleet_rules.proofs.Told.{reads_then}
use Rattle.bike_fleet_rules.proofs.bikes.judge_bikes.Goals as goal

pub returns-in_err-borne : goal.returns-in_err-borne
returns-in_err-borne g c = reads_failed (reads_both c.in_ok-named.ensures (reads_both c.in_ok-used.ensures c.in_err-borne.ensures)) (search rules)

pub returns-in_err-shared : goal.returns-in_err-shared
returns-in_err-shared g c = reads_failed (reads_both c.in_ok-named.ensures (reads_both c.in_ok-used.ensures (reads_both c.in_ok-borne.ensures c.in_err-shared.ensures))) (search rules)

pub returns : goal.returns
returns g c =
    reads_then (reads_both c.in_ok-named.ensures (reads_both c.in_ok-used.ensures (reads_both c.in_ok-borne.ensures c.in_ok-shared.ensures))) (λ db ours it early.
    let t = tables_of db in
    let a = first_failing bike_names first_key 0 (lines_of query.BikeNames t) in
    let b = first_failing bike_uses first_key 0 (lines_of query.BikeUses t) in
    let k = first_failing bike_trucks first_key 0 (lines_of query.BikeTrucks t) in
    let n = dock_pass None None (lines_of query.BikeDocks t) in
    let named : option_map key_row c.in_ok-named.named ≡ a = it.0 a (λ i. first_failing bike_names first_key (c.new-names.ensures.before i) (lines_of query.BikeNames t)) in
    let used : option_map key_row c.in_ok-used.used ≡ b = it.1.0 b (λ i. first_failing bike_uses first_key (c.new-uses.ensures.before i) (lines_of query.BikeUses t)) in
    let borne : option_map key_row c.in_ok-borne.borne ≡ k = it.1.1.0 k (λ i. first_failing bike_trucks first_key (c.new-trucks.ensures.before i) (lines_of query.BikeTrucks t)) in
    let shared : option_map key_row c.in_ok-shared.shared ≡ option_map number_row n =
    it.1.1.1 (option_map number_row n) (λ i. option_map number_row (dock_pass (option_and_then docked_in (c.new-docks.ensures.last i)) (c.new-docks.ensures.found i) (lines_of query.BikeDocks t))) in
    let tested : option_map key_row c.least-2.result ≡ least_key (least_key a b) k = c.least-2.ensures ∙ ap₂ least_key (c.least.ensures ∙ ap₂ least_key named used) borne in
    let all : option_map key_row c.least-3.result ≡ least_key (least_key (least_key a b) k) (option_map number_row n) = c.least-3.ensures ∙ ap₂ least_key tested shared in
    subst (IsTableVerdict t Bikes) (sym all) (bikes_verdict t (stored_in_order db) (tables_wide db ours.has) a b k n refl refl refl refl))
