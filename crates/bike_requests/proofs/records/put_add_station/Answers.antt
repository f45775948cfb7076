use Rattle.bike_requests.proofs.records.put_add_station.Goals as goal

pub returns : goal.returns
returns c = rw (c.station_id.ensures, c.name.ensures, c.lat.ensures.value, c.lon.ensures, c.docks.ensures) at c.put.ensures
