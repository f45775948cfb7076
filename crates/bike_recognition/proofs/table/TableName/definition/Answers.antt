use Rattle.bike_book.specs.Tables.{Meta, System, Plans, Segments, Types, Regions, Stations, Docks, Bikes, Trucks, Riders, Rentals, Orders, Entries, History, MoreNames, Books}
use Rattle.bike_schema.proofs.MakeFacts.{declared}
use Rattle.bike_recognition.proofs.table.TableName.definition.Goals as goal

pub returns-in-Meta : goal.returns-in-Meta
returns-in-Meta c = rw c.in-Meta.is (declared Meta).defined

pub returns-in-System : goal.returns-in-System
returns-in-System c = rw c.in-System.is (declared System).defined

pub returns-in-Plans : goal.returns-in-Plans
returns-in-Plans c = rw c.in-Plans.is (declared Plans).defined

pub returns-in-Segments : goal.returns-in-Segments
returns-in-Segments c = rw c.in-Segments.is (declared Segments).defined

pub returns-in-Types : goal.returns-in-Types
returns-in-Types c = rw c.in-Types.is (declared Types).defined

pub returns-in-Regions : goal.returns-in-Regions
returns-in-Regions c = rw c.in-Regions.is (declared Regions).defined

pub returns-in-Stations : goal.returns-in-Stations
returns-in-Stations c = rw c.in-Stations.is (declared Stations).defined

pub returns-in-Docks : goal.returns-in-Docks
returns-in-Docks c = rw c.in-Docks.is (declared Docks).defined

pub returns-in-Bikes : goal.returns-in-Bikes
returns-in-Bikes c = rw c.in-Bikes.is (declared Bikes).defined

pub returns-in-Trucks : goal.returns-in-Trucks
returns-in-Trucks c = rw c.in-Trucks.is (declared Trucks).defined

pub returns-in-Riders : goal.returns-in-Riders
returns-in-Riders c = rw c.in-Riders.is (declared Riders).defined

pub returns-in-Rentals : goal.returns-in-Rentals
returns-in-Rentals c = rw c.in-Rentals.is (declared Rentals).defined

pub returns-in-Orders : goal.returns-in-Orders
returns-in-Orders c = rw c.in-Orders.is (declared Orders).defined

pub returns-in-Entries : goal.returns-in-Entries
returns-in-Entries c = rw c.in-Entries.is (declared Entries).defined

pub returns-in-History : goal.returns-in-History
returns-in-History c = rw c.in-History.is (declared History).defined

pub returns-in-MoreNames : goal.returns-in-MoreNames
returns-in-MoreNames c = rw c.in-MoreNames.is (declared MoreNames).defined

pub returns-in-Books : goal.returns-in-Books
returns-in-Books c = rw c.in-Books.is (declared Books).defined
