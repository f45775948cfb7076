-- Which table of the schema each name of the code is.
use Rattle.bike_book.specs.Tables as book
use Rattle.bike_recognition.specs.declared.table.TableName.{TableName}
use Rattle.bike_recognition.specs.declared.table.TableName.TheVariants.{Meta, System, Plans, Segments, Types, Regions}
use Rattle.bike_recognition.specs.declared.table.TableName.TheVariants.{Stations, Docks, Bikes, Trucks, Riders, Rentals}
use Rattle.bike_recognition.specs.declared.table.TableName.TheVariants.{Orders, Entries, History, MoreNames, Books}

abbrev pub table_named : TableName → book.TableName
table_named Meta = book.Meta
table_named System = book.System
table_named Plans = book.Plans
table_named Segments = book.Segments
table_named Types = book.Types
table_named Regions = book.Regions
table_named Stations = book.Stations
table_named Docks = book.Docks
table_named Bikes = book.Bikes
table_named Trucks = book.Trucks
table_named Riders = book.Riders
table_named Rentals = book.Rentals
table_named Orders = book.Orders
table_named Entries = book.Entries
table_named History = book.History
table_named MoreNames = book.MoreNames
table_named Books = book.Books
