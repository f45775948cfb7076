use Rattle.std.proofs.Common.{◌≡◌, None, refl, sym, ap₂, subst, rules, ◌∙◌}
use Rattle.std.specs.Prelude.{take, option_map}
use Rattle.bike_sql.proofs.ChainLaws.{reads_both, reads_failed}
use Rattle.bike_book.specs.Tables.{Orders}
use Rattle.bike_schema.specs.Tables.{tables_of}
use Rattle.bike_readings.proofs.RulesLaws.{stored_in_order}
use Rattle.bike_judges.specs.declared.query.Query.TheVariants as query
use Rattle.bike_judges.specs.Judging.{key_row}
use Rattle.bike_judges.specs.Lines.{lines_of}
use Rattle.bike_judges.specs.Passes.{first_failing, pass}
use Rattle.bike_judges.specs.Verdicts.{IsTableVerdict}
use Rattle.bike_judges.specs.Least.{least_key}
use Rattle.bike_fleet_rules.specs.Loads.{order_begins, order_more, order_good, order_key}
use Rattle.bike_fleet_rules.specs.Tests.{first_key, order_names, order_ends}
use Rattle.bike_fleet_rules.proofs.Parts.{tables_wide}
use Rattle.bike_fleet_rules.proofs.OrderLaw.{orders_verdict}
use Rattle.bike_fleet_rules.proofs.Told.{reads_then}
use Rattle.bike_fleet_rules.proofs.orders.judge_orders.Goals as goal

pub returns-in_err-loaded : goal.returns-in_err-loaded
returns-in_err-loaded g c = reads_failed (reads_both c.in_ok-named.ensures (reads_both c.in_ok-ended.ensures c.in_err-loaded.ensures)) (search rules)

pub returns : goal.returns
returns g c =
    reads_then (reads_both c.in_ok-named.ensures (reads_both c.in_ok-ended.ensures c.in_ok-loaded.ensures)) (λ db ours it early.
    let t = tables_of db in
    let a = first_failing order_names first_key 0 (lines_of query.OrderNames t) in
    let b = first_failing order_ends first_key 0 (lines_of query.OrderEnds t) in
    let l = pass order_begins order_more order_good order_key (take 1) None 0 (lines_of query.OrderBikes t) in
    let named : option_map key_row c.in_ok-named.named ≡ a = it.0 a (λ i. first_failing order_names first_key (c.new-names.ensures.before i) (lines_of query.OrderNames t)) in
    let ended : option_map key_row c.in_ok-ended.ended ≡ b = it.1.0 b (λ i. first_failing order_ends first_key (c.new-ends.ensures.before i) (lines_of query.OrderEnds t)) in
    let loaded : option_map key_row c.in_ok-loaded.loaded ≡ l =
    it.1.1 l (λ i. pass order_begins order_more order_good order_key (take 1) (c.new-loads.ensures.account i) (c.new-loads.ensures.closed i) (lines_of query.OrderBikes t)) in
    let all : option_map key_row c.least-2.result ≡ least_key (least_key a b) l = c.least-2.ensures ∙ ap₂ least_key (c.least.ensures ∙ ap₂ least_key named ended) loaded in
    subst (IsTableVerdict t Orders) (sym all) (orders_verdict t (stored_in_order db) (tables_wide db ours.has) a b l refl refl refl))
