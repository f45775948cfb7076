use Rattle.std.proofs.Common.{rules}
use Rattle.bike_sql.proofs.ParamLemmas.{bindings}
use Rattle.bike_schema.proofs.ListedLemmas.{all_answer, all_refused}
use Rattle.bike_fleet_reads.proofs.StatementLemmas.{lists_orders}
use Rattle.bike_fleet_reads.proofs.bikes.select_orders.Goals as goal

pub returns : goal.returns
returns g c = all_answer _ _ _ (lists_orders c.args.truck) (search bindings) c.in_ok-rows.ensures.mode c.in_ok-rows.ensures.survives (λ rows. rows.items) c.in_ok-rows.ensures.ok

pub returns-in_err-rows : goal.returns-in_err-rows
returns-in_err-rows g c = all_refused _ _ _ (lists_orders c.args.truck) (search bindings) c.in_err-rows.ensures.mode c.in_err-rows.ensures.survives _ (search rules) c.in_err-rows.ensures.err
