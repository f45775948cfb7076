use Rattle.std.proofs.Common.{rules}
use Rattle.bike_sql.proofs.ChainLaws.{reads_as, reads_both, reads_failed}
use Rattle.bike_views.proofs.OpenLaws.{open_both}
use Rattle.bike_views.proofs.orders.view_to_load.Goals as goal

pub returns-in_err-on_truck : goal.returns-in_err-on_truck
returns-in_err-on_truck g c = reads_failed (open_both (reads_both c.in_ok-load.ensures c.in_ok-row.ensures) c.in_err-on_truck.ensures) (search rules)

pub returns-in_err-truck : goal.returns-in_err-truck
returns-in_err-truck g c = reads_failed (reads_both (open_both (reads_both c.in_ok-load.ensures c.in_ok-row.ensures) c.in_ok-on_truck.ensures) c.in_err-truck.ensures) (search rules)

pub returns-in_err-found : goal.returns-in_err-found
returns-in_err-found g c =
    reads_failed (reads_both (reads_both (open_both (reads_both c.in_ok-load.ensures c.in_ok-row.ensures) c.in_ok-on_truck.ensures) c.in_ok-truck.ensures) c.in_err-found.ensures) (search rules)

pub returns : goal.returns
returns g c = reads_as (reads_both (reads_both (open_both (reads_both c.in_ok-load.ensures c.in_ok-row.ensures) c.in_ok-on_truck.ensures) c.in_ok-truck.ensures) c.in_ok-found.ensures) (λ db it s h.
    let load = it.0.0.0.0 s h in
    let order = it.0.0.0.1 s h in
    let on_truck = it.0.0.1 s h order load in
    let found = it.1 s h in
    record {
      view_is = λ i. record (found.0 i) { truck = it.0.1 s h i; loaded = load.0 i; order = order i; on_truck = on_truck i };
      docks_are = found.1;
    })
