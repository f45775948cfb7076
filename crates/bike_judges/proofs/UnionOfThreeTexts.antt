-- The queries that answer the rows of three tables, mixed.
use Rattle.std.proofs.Common.{ℕ, ◌-◌, List, [], ◌∷◌, pos, refl}
use Rattle.sqlite_value.specs.declared.value.Value.TheVariants.{Int}
use Rattle.sqlite_sql.specs.Term.{Term, lit, col}
use Rattle.bike_sql.proofs.SelectLaws.{rows_merged_of_three, TiesOnlyByKey, NeverTies}
use Rattle.bike_book.specs.Tables.{Stations, Docks, Bikes}
use Rattle.bike_book.specs.declared.columns.stations.TheConstants as stations
use Rattle.bike_book.specs.declared.columns.docks.TheConstants as docks
use Rattle.bike_book.specs.declared.columns.bikes.TheConstants as bikes
use Rattle.bike_schema.specs.Layouts.{layout_of}
use Rattle.bike_judges.specs.Lines.{station_line, station_dock_line, station_bike_line}
use Rattle.bike_judges.specs.declared.query.Query.TheVariants as query
use Rattle.bike_judges.specs.Texts.{AsksLines}
use Rattle.bike_judges.proofs.Forms.{line_terms, IsMixOfThree}
use Rattle.bike_judges.proofs.TieLemmas.{owner_ties, number_ties, both_tie, zero_one, zero_two, one_two, places_apart}

station_ties : TiesOnlyByKey 3 1 (layout_of Stations) station_line
station_ties r s tie = owner_ties _ _ _ _ _ tie

station_dock_ties : TiesOnlyByKey 3 2 (layout_of Docks) station_dock_line
station_dock_ties r s tie = both_tie _ _ _ _ _ tie

station_bike_ties : TiesOnlyByKey 3 1 (layout_of Bikes) station_bike_line
station_bike_ties r s tie = number_ties _ _ _ _ _ tie

station_and_station_dock : NeverTies 3 station_line station_dock_line
station_and_station_dock r s tie = places_apart _ _ _ _ _ _ zero_one tie

station_and_station_bike : NeverTies 3 station_line station_bike_line
station_and_station_bike r s tie = places_apart _ _ _ _ _ _ zero_two tie

station_dock_and_station_bike : NeverTies 3 station_dock_line station_bike_line
station_dock_and_station_bike r s tie = places_apart _ _ _ _ _ _ one_two tie

abbrev pub station_terms : List Term
station_terms = line_terms (col 1 1 ∷ lit (Int (pos 0)) ∷ lit (Int (pos 0)) ∷ []) Stations 0

abbrev pub station_dock_terms : List Term
station_dock_terms = line_terms (col 1 1 ∷ lit (Int (pos 1)) ∷ col 1 2 ∷ []) Docks (stations.COLUMNS - docks.COLUMNS)

abbrev pub station_bike_terms : List Term
station_bike_terms = line_terms (col 1 4 ∷ lit (Int (pos 2)) ∷ col 1 0 ∷ []) Bikes (stations.COLUMNS - bikes.COLUMNS)

pub stations_lines : {text : List ℕ} → IsMixOfThree Stations station_terms Docks station_dock_terms Bikes station_bike_terms (1 ∷ 2 ∷ 3 ∷ []) text → AsksLines text query.Stations
stations_lines is db has =
    rows_merged_of_three (has Stations) (has Docks) (has Bikes) (1 ∷ 2 ∷ 3 ∷ []) station_terms station_dock_terms station_bike_terms station_line station_dock_line station_bike_line
    is (λ r. refl) (λ r. refl) (λ r. refl) (λ r. refl) station_ties station_dock_ties station_bike_ties station_and_station_dock station_and_station_bike station_dock_and_station_bike
