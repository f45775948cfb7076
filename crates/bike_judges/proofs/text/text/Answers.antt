use Rattle.std.proofs.Common.{refl}
use Rattle.sqlite_tied.specs.Compute.{everything}
use Rattle.bike_book.specs.Tables.{Meta, System, Plans, Regions, Rentals, Entries, History, MoreNames, Books}
use Rattle.bike_judges.proofs.RowTexts.{table_lines}
use Rattle.bike_judges.proofs.SortedTexts.{history_key_lines}
use Rattle.bike_judges.proofs.JoinTexts.{segments_lines, types_lines, station_rows_lines, docks_lines, bike_trucks_lines, rider_rows_lines, entry_rentals_lines}
use Rattle.bike_judges.proofs.TwoJoinTexts.{bike_names_lines, bike_uses_lines, order_names_lines, name_places_lines, name_offers_lines, order_ends_lines}
use Rattle.bike_judges.proofs.UnionTexts.{bike_docks_lines, trucks_lines, order_bikes_lines}
use Rattle.bike_judges.proofs.UnionOfThreeTexts.{stations_lines}
use Rattle.bike_judges.proofs.text.text.Goals as goal

pub returns-in-Meta : goal.returns-in-Meta
unfolding everything
returns-in-Meta c = rw c.in-Meta.is (table_lines Meta (λ tree. refl, refl))

pub returns-in-System : goal.returns-in-System
unfolding everything
returns-in-System c = rw c.in-System.is (table_lines System (λ tree. refl, refl))

pub returns-in-Plans : goal.returns-in-Plans
unfolding everything
returns-in-Plans c = rw c.in-Plans.is (table_lines Plans (λ tree. refl, refl))

pub returns-in-Segments : goal.returns-in-Segments
unfolding everything
returns-in-Segments c = rw c.in-Segments.is (segments_lines (λ tree more. refl, refl))

pub returns-in-Types : goal.returns-in-Types
unfolding everything
returns-in-Types c = rw c.in-Types.is (types_lines (λ tree more. refl, refl))

pub returns-in-Regions : goal.returns-in-Regions
unfolding everything
returns-in-Regions c = rw c.in-Regions.is (table_lines Regions (λ tree. refl, refl))

pub returns-in-StationRows : goal.returns-in-StationRows
unfolding everything
returns-in-StationRows c = rw c.in-StationRows.is (station_rows_lines (λ tree more. refl, refl))

pub returns-in-Stations : goal.returns-in-Stations
unfolding everything
returns-in-Stations c = rw c.in-Stations.is (stations_lines (λ tree more last. (refl, refl), refl))

pub returns-in-Docks : goal.returns-in-Docks
unfolding everything
returns-in-Docks c = rw c.in-Docks.is (docks_lines (λ tree more. refl, refl))

pub returns-in-BikeNames : goal.returns-in-BikeNames
unfolding everything
returns-in-BikeNames c = rw c.in-BikeNames.is (bike_names_lines (λ tree more last. refl, refl))

pub returns-in-BikeUses : goal.returns-in-BikeUses
unfolding everything
returns-in-BikeUses c = rw c.in-BikeUses.is (bike_uses_lines (λ tree more last. refl, refl))

pub returns-in-BikeTrucks : goal.returns-in-BikeTrucks
unfolding everything
returns-in-BikeTrucks c = rw c.in-BikeTrucks.is (bike_trucks_lines (λ tree more. refl, refl))

pub returns-in-BikeDocks : goal.returns-in-BikeDocks
unfolding everything
returns-in-BikeDocks c = rw c.in-BikeDocks.is (bike_docks_lines (λ tree more. (refl, refl), refl))

pub returns-in-Trucks : goal.returns-in-Trucks
unfolding everything
returns-in-Trucks c = rw c.in-Trucks.is (trucks_lines (λ tree more. (refl, refl), refl))

pub returns-in-RiderRows : goal.returns-in-RiderRows
unfolding everything
returns-in-RiderRows c = rw c.in-RiderRows.is (rider_rows_lines (λ tree more. refl, refl))

pub returns-in-Rentals : goal.returns-in-Rentals
unfolding everything
returns-in-Rentals c = rw c.in-Rentals.is (table_lines Rentals (λ tree. refl, refl))

pub returns-in-OrderNames : goal.returns-in-OrderNames
unfolding everything
returns-in-OrderNames c = rw c.in-OrderNames.is (order_names_lines (λ tree more last. refl, refl))

pub returns-in-OrderEnds : goal.returns-in-OrderEnds
unfolding everything
returns-in-OrderEnds c = rw c.in-OrderEnds.is (order_ends_lines (λ tree more. refl, refl))

pub returns-in-OrderBikes : goal.returns-in-OrderBikes
unfolding everything
returns-in-OrderBikes c = rw c.in-OrderBikes.is (order_bikes_lines (λ tree more. (refl, refl), refl))

pub returns-in-Entries : goal.returns-in-Entries
unfolding everything
returns-in-Entries c = rw c.in-Entries.is (table_lines Entries (λ tree. refl, refl))

pub returns-in-EntryRentals : goal.returns-in-EntryRentals
unfolding everything
returns-in-EntryRentals c = rw c.in-EntryRentals.is (entry_rentals_lines (λ tree more. refl, refl))

pub returns-in-History : goal.returns-in-History
unfolding everything
returns-in-History c = rw c.in-History.is (table_lines History (λ tree. refl, refl))

pub returns-in-HistoryKeys : goal.returns-in-HistoryKeys
unfolding everything
returns-in-HistoryKeys c = rw c.in-HistoryKeys.is (history_key_lines (λ tree. refl, refl))

pub returns-in-Names : goal.returns-in-Names
unfolding everything
returns-in-Names c = rw c.in-Names.is (table_lines MoreNames (λ tree. refl, refl))

pub returns-in-NamePlaces : goal.returns-in-NamePlaces
unfolding everything
returns-in-NamePlaces c = rw c.in-NamePlaces.is (name_places_lines (λ tree more last. refl, refl))

pub returns-in-NameOffers : goal.returns-in-NameOffers
unfolding everything
returns-in-NameOffers c = rw c.in-NameOffers.is (name_offers_lines (λ tree more last. refl, refl))

pub returns-in-Books : goal.returns-in-Books
unfolding everything
returns-in-Books c = rw c.in-Books.is (table_lines Books (λ tree. refl, refl))
