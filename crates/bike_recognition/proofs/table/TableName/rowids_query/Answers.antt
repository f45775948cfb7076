use Rattle.bike_recognition.proofs.RowidTexts.{meta_rowids, system_rowids, plans_rowids, segments_rowids, types_rowids, regions_rowids, stations_rowids, docks_rowids, bikes_rowids, trucks_rowids}
use Rattle.bike_recognition.proofs.RowidTexts.{riders_rowids, rentals_rowids, orders_rowids, entries_rowids, history_rowids, more_names_rowids, books_rowids}
use Rattle.bike_recognition.proofs.table.TableName.rowids_query.Goals as goal

pub returns-in-Meta : goal.returns-in-Meta
returns-in-Meta c = rw c.in-Meta.is meta_rowids

pub returns-in-System : goal.returns-in-System
returns-in-System c = rw c.in-System.is system_rowids

pub returns-in-Plans : goal.returns-in-Plans
returns-in-Plans c = rw c.in-Plans.is plans_rowids

pub returns-in-Segments : goal.returns-in-Segments
returns-in-Segments c = rw c.in-Segments.is segments_rowids

pub returns-in-Types : goal.returns-in-Types
returns-in-Types c = rw c.in-Types.is types_rowids

pub returns-in-Regions : goal.returns-in-Regions
returns-in-Regions c = rw c.in-Regions.is regions_rowids

pub returns-in-Stations : goal.returns-in-Stations
returns-in-Stations c = rw c.in-Stations.is stations_rowids

pub returns-in-Docks : goal.returns-in-Docks
returns-in-Docks c = rw c.in-Docks.is docks_rowids

pub returns-in-Bikes : goal.returns-in-Bikes
returns-in-Bikes c = rw c.in-Bikes.is bikes_rowids

pub returns-in-Trucks : goal.returns-in-Trucks
returns-in-Trucks c = rw c.in-Trucks.is trucks_rowids

pub returns-in-Riders : goal.returns-in-Riders
returns-in-Riders c = rw c.in-Riders.is riders_rowids

pub returns-in-Rentals : goal.returns-in-Rentals
returns-in-Rentals c = rw c.in-Rentals.is rentals_rowids

pub returns-in-Orders : goal.returns-in-Orders
returns-in-Orders c = rw c.in-Orders.is orders_rowids

pub returns-in-Entries : goal.returns-in-Entries
returns-in-Entries c = rw c.in-Entries.is entries_rowids

pub returns-in-History : goal.returns-in-History
returns-in-History c = rw c.in-History.is history_rowids

pub returns-in-MoreNames : goal.returns-in-MoreNames
returns-in-MoreNames c = rw c.in-MoreNames.is more_names_rowids

pub returns-in-Books : goal.returns-in-Books
returns-in-Books c = rw c.in-Books.is books_rowids
