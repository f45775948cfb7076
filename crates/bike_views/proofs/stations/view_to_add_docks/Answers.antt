use Rattle.std.proofs.Common.{rules}
use Rattle.bike_sql.proofs.ChainLaws.{reads_as, reads_refused}
use Rattle.bike_views.proofs.PartLemmas.{docks_read}
use Rattle.bike_views.proofs.stations.view_to_add_docks.Goals as goal

pub returns-in_err-docks : goal.returns-in_err-docks
returns-in_err-docks g c = reads_refused c.in_ok-row.ensures (search rules)

pub returns : goal.returns
returns g c = reads_as c.in_ok-row.ensures (λ db it s h count.
    let row = it s h in
    record {
      view_is = λ i. record (c.empty_view.ensures i) { station = row.station_is i };
      docks_are = docks_read s c.args.station.now c.in_ok-docks.ensures row.numbers_are;
    })
