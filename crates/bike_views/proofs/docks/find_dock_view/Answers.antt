use Rattle.std.proofs.Common.{rules}
use Rattle.bike_sql.proofs.ChainLaws.{reads_as, reads_both, reads_failed, reads_refused}
use Rattle.bike_views.proofs.OpenLaws.{open_both}
use Rattle.bike_views.proofs.PartLemmas.{docks_read}
use Rattle.bike_views.proofs.docks.find_dock_view.Goals as goal

pub returns-in_err-is_dock_broken : goal.returns-in_err-is_dock_broken
returns-in_err-is_dock_broken g c = reads_failed (open_both c.in_ok-row.ensures c.in_err-is_dock_broken.ensures) (search rules)

pub returns-in_err-docked : goal.returns-in_err-docked
returns-in_err-docked g c = reads_failed (reads_both (open_both c.in_ok-row.ensures c.in_ok-is_dock_broken.ensures) c.in_err-docked.ensures) (search rules)

pub returns-in_err-docks : goal.returns-in_err-docks
returns-in_err-docks g c = reads_refused (reads_both (open_both c.in_ok-row.ensures c.in_ok-is_dock_broken.ensures) c.in_ok-docked.ensures) (search rules)

pub returns : goal.returns
returns g c = reads_as (reads_both (open_both c.in_ok-row.ensures c.in_ok-is_dock_broken.ensures) c.in_ok-docked.ensures) (λ db it s h.
    let row = it.0.0 s h in
    let broken = it.0.1 s h row.numbers_are in (
      λ i. record (c.empty_view.ensures i) { station = row.station_is i; is_dock_broken = broken i; docked = it.1 s h i },
      docks_read s c.args.station.now c.in_ok-docks.ensures row.numbers_are,
    ))
