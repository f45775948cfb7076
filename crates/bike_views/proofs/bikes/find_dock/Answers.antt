use Rattle.std.proofs.Common.{rules}
use Rattle.bike_sql.proofs.ChainLaws.{reads_as, reads_failed, reads_refused}
use Rattle.bike_views.proofs.OpenLaws.{open_both}
use Rattle.bike_views.proofs.PartLemmas.{docks_read}
use Rattle.bike_views.proofs.bikes.find_dock.Goals as goal

pub returns-in_err-is_broken : goal.returns-in_err-is_broken
returns-in_err-is_broken g c = reads_failed (open_both c.in_ok-numbers.ensures c.in_err-is_broken.ensures) (search rules)

pub returns-in_err-docks : goal.returns-in_err-docks
returns-in_err-docks g c = reads_refused (open_both c.in_ok-numbers.ensures c.in_ok-is_broken.ensures) (search rules)

pub returns : goal.returns
returns g c = reads_as (open_both c.in_ok-numbers.ensures c.in_ok-is_broken.ensures) (λ db it s h.
    let numbers = it.0 s h in
    let broken = it.1 s h numbers in
    (broken, docks_read s c.args.station.now c.in_ok-docks.ensures numbers))
