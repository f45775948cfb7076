use Rattle.std.proofs.Common.{rules, ap, ◌∙◌}
use Rattle.bike_booking.specs.declared.figures.Figures.{Figures}
use Rattle.bike_sql.proofs.ChainLaws.{reads_as, reads_both, reads_failed}
use Rattle.bike_operator.specs.View.{dock_view}
use Rattle.bike_views.proofs.OpenLaws.{open_both}
use Rattle.bike_views.proofs.rentals.view_to_start.Goals as goal

pub returns-in_err-is_ledger_full : goal.returns-in_err-is_ledger_full
returns-in_err-is_ledger_full g c = reads_failed (open_both (reads_both c.in_ok-rider_view.ensures c.in_ok-is_riding.ensures) c.in_err-is_ledger_full.ensures) (search rules)

pub returns-in_err-found : goal.returns-in_err-found
returns-in_err-found g c = reads_failed (reads_both (open_both (reads_both c.in_ok-rider_view.ensures c.in_ok-is_riding.ensures) c.in_ok-is_ledger_full.ensures) c.in_err-found.ensures) (search rules)

pub returns : goal.returns
returns g c = reads_as (reads_both (open_both (reads_both c.in_ok-rider_view.ensures c.in_ok-is_riding.ensures) c.in_ok-is_ledger_full.ensures) c.in_ok-found.ensures) (λ db it s h known.
    let riding = it.0.0.1 s h known.newest in
    let full = it.0.1 s h (ap (λ (f : Figures). f.entries) known.figures) in
    let found = it.1 s h in
    let view = found.0 ∙ ap (dock_view s c.args.station.now) c.get.ensures.value in
    record {
      view_is = λ i. record (view i) { rider = it.0.0.0 s h i; is_riding = riding i; is_ledger_full = full i; rentals = (known.figures i).rentals };
      docks_are = found.1;
    })
