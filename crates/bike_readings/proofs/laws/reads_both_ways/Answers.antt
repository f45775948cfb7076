use Rattle.bike_readings.proofs.CatalogueRows.{meta_reading, system_reading, plan_reading, segment_reading, type_reading, region_reading, station_reading, dock_reading, name_reading}
use Rattle.bike_readings.proofs.FleetRows.{bike_reading, truck_reading, order_reading}
use Rattle.bike_readings.proofs.LedgerRows.{rider_reading, rental_reading, entry_reading, books_reading}
use Rattle.bike_readings.proofs.RequestRows.{request_reading}
use Rattle.bike_readings.proofs.laws.reads_both_ways.Goals as goal

pub returns-clause-meta : goal.returns-clause-meta
returns-clause-meta c = meta_reading

pub returns-clause-system : goal.returns-clause-system
returns-clause-system c = system_reading

pub returns-clause-plans : goal.returns-clause-plans
returns-clause-plans c = plan_reading

pub returns-clause-segments : goal.returns-clause-segments
returns-clause-segments c = segment_reading

pub returns-clause-types : goal.returns-clause-types
returns-clause-types c = type_reading

pub returns-clause-regions : goal.returns-clause-regions
returns-clause-regions c = region_reading

pub returns-clause-stations : goal.returns-clause-stations
returns-clause-stations c = station_reading

pub returns-clause-docks : goal.returns-clause-docks
returns-clause-docks c = dock_reading

pub returns-clause-bikes : goal.returns-clause-bikes
returns-clause-bikes c = bike_reading

pub returns-clause-trucks : goal.returns-clause-trucks
returns-clause-trucks c = truck_reading

pub returns-clause-riders : goal.returns-clause-riders
returns-clause-riders c = rider_reading

pub returns-clause-rentals : goal.returns-clause-rentals
returns-clause-rentals c = rental_reading

pub returns-clause-orders : goal.returns-clause-orders
returns-clause-orders c = order_reading

pub returns-clause-entries : goal.returns-clause-entries
returns-clause-entries c = entry_reading

pub returns-clause-history : goal.returns-clause-history
returns-clause-history c = request_reading

pub returns-clause-more_names : goal.returns-clause-more_names
returns-clause-more_names c = name_reading

pub returns-clause-books : goal.returns-clause-books
returns-clause-books c = books_reading
