use Rattle.std.specs.Int.{w32}
use Rattle.std.proofs.lemmas.Int.{to_z-of_z}
use Rattle.bike_catalogue.specs.RowFaults.{station_fault}
use Rattle.bike_catalogue.proofs.Checks.{checked_ok, five_clear, same_three, fifth_refused}
use Rattle.bike_catalogue.proofs.station.Station.tested.Goals as goal

pub returns-in_err-docks-clause-value : goal.returns-in_err-docks-clause-value
unfolding station_fault
returns-in_err-docks-clause-value c =
    let id = c.in_ok-tested.ensures.value in
    let name = c.in_ok-tested-2.ensures.value in
    let lat = checked_ok _ c.args.lat _ (rw (to_z-of_z w32 c.args.lat c.ranges.lat) at c.in_ok-lat.ensures.value) in
    let lon = checked_ok _ c.args.lon _ (rw (to_z-of_z w32 c.args.lon c.ranges.lon) at c.in_ok-lon.ensures.value) in
    fifth_refused _ _ _ _ _ _ _ _ _ _ id.1 name.1 lat.1 lon.1 c.in_err-docks.ensures c.from_residual-in_err-docks.ensures

pub returns-clause-value : goal.returns-clause-value
unfolding station_fault
returns-clause-value c =
    let id = c.in_ok-tested.ensures.value in
    let name = c.in_ok-tested-2.ensures.value in
    let lat = checked_ok _ c.args.lat _ (rw (to_z-of_z w32 c.args.lat c.ranges.lat) at c.in_ok-lat.ensures.value) in
    let lon = checked_ok _ c.args.lon _ (rw (to_z-of_z w32 c.args.lon c.ranges.lon) at c.in_ok-lon.ensures.value) in
    let docks = checked_ok _ _ _ c.in_ok-docks.ensures in (
      same_three _ _ _ _ _ _ lat.0 lon.0 docks.0,
      five_clear _ _ _ _ _ id.1 name.1 lat.1 lon.1 docks.1,
    )
