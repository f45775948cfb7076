-- What is read of a line, as the rules have it.
use Rattle.bike_station_rules.specs.Docked.{Docked}
use Rattle.bike_station_rules.specs.declared.lines.DockedBike.{DockedBike}

abbrev pub docked_of : DockedBike → Docked
docked_of b = record { dock = b.dock; type_id = b.type_id.now; is_fit = b.is_fit }
