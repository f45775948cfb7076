use Rattle.std.proofs.Common.{rules, ap, ◌∙◌}
use Rattle.bike_sql.proofs.ChainLaws.{reads_as, reads_both, reads_failed}
use Rattle.bike_operator.specs.View.{dock_view, rental_of}
use Rattle.bike_views.proofs.OpenLaws.{open_both}
use Rattle.bike_views.proofs.rentals.view_to_end.Goals as goal

pub returns-in_err-rental : goal.returns-in_err-rental
returns-in_err-rental g c = reads_failed (open_both c.in_ok-bike.ensures c.in_err-rental.ensures) (search rules)

pub returns-in_err-found : goal.returns-in_err-found
returns-in_err-found g c = reads_failed (reads_both (open_both c.in_ok-bike.ensures c.in_ok-rental.ensures) c.in_err-found.ensures) (search rules)

pub returns : goal.returns
returns g c = reads_as (reads_both (open_both c.in_ok-bike.ensures c.in_ok-rental.ensures) c.in_ok-found.ensures) (λ db it s h are.
    let bike = it.0.0 s h in
    let rental = it.0.1 s h ∙ ap (rental_of s) bike in
    let found = it.1 s h in
    let view = found.0 ∙ ap (dock_view s c.args.station.now) c.get.ensures.value in
    record {
      view_is = λ i. record (view i) { bike = bike i; rental = rental i; entries = are i };
      docks_are = found.1;
    })
