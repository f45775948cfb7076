use Rattle.std.proofs.Common.{rules, ap, ◌∙◌}
use Rattle.bike_operator.specs.View.{is_in_broken_dock}
use Rattle.bike_sql.proofs.ChainLaws.{reads_as, reads_failed}
use Rattle.bike_views.specs.ViewAndDocks.{bike_docks}
use Rattle.bike_views.proofs.OpenLaws.{open_both}
use Rattle.bike_views.proofs.bikes.find_bike_view.Goals as goal

pub returns-in_err-dock : goal.returns-in_err-dock
returns-in_err-dock g c = reads_failed (open_both c.in_ok-found.ensures c.in_err-dock.ensures) (search rules)

pub returns : goal.returns
returns g c = reads_as (open_both c.in_ok-found.ensures c.in_ok-dock.ensures) (λ db it s h.
    let found = it.0 s h in
    let dock = it.1 s h in
    let broken = dock.0 ∙ ap (is_in_broken_dock s) found in (
      λ i. record (c.empty_view.ensures i) { bike = found i; is_dock_broken = broken i },
      dock.1 ∙ ap (bike_docks s) found,
    ))
