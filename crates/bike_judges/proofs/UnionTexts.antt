-- The queries that answer the rows of two tables, mixed.
use Rattle.std.proofs.Common.{ℕ, ◌-◌, List, [], ◌∷◌, pos, refl}
use Rattle.sqlite_value.specs.declared.value.Value.TheVariants.{Int}
use Rattle.sqlite_sql.specs.Term.{Term, lit, col}
use Rattle.bike_sql.proofs.SelectLaws.{rows_merged, TiesOnlyByKey, NeverTies}
use Rattle.bike_book.specs.Tables.{Docks, Bikes, Trucks, Orders}
use Rattle.bike_book.specs.declared.columns.docks.TheConstants as docks
use Rattle.bike_book.specs.declared.columns.bikes.TheConstants as bikes
use Rattle.bike_book.specs.declared.columns.trucks.TheConstants as trucks
use Rattle.bike_schema.specs.Layouts.{layout_of}
use Rattle.bike_judges.specs.Lines.{dock_line, docked_line, truck_line, truck_bike_line, order_line, order_bike_line}
use Rattle.bike_judges.specs.declared.query.Query.TheVariants as query
use Rattle.bike_judges.specs.Texts.{AsksLines}
use Rattle.bike_judges.proofs.Forms.{line_terms, IsMixOf}
use Rattle.bike_judges.proofs.TieLemmas.{owner_ties, number_ties, dock_tie, last_ties, zero_one, places_apart, third_apart}

dock_ties : TiesOnlyByKey 4 2 (layout_of Docks) dock_line
dock_ties r s tie = dock_tie _ _ _ _ _ _ _ tie

docked_ties : TiesOnlyByKey 4 1 (layout_of Bikes) docked_line
docked_ties r s tie = last_ties _ _ _ _ _ _ _ tie

dock_and_docked : NeverTies 4 dock_line docked_line
dock_and_docked r s tie = third_apart _ _ _ _ _ _ _ _ zero_one tie

abbrev pub dock_terms : List Term
dock_terms = line_terms (col 1 1 ∷ col 1 2 ∷ lit (Int (pos 0)) ∷ lit (Int (pos 0)) ∷ []) Docks (bikes.COLUMNS - docks.COLUMNS)

abbrev pub docked_terms : List Term
docked_terms = line_terms (col 1 4 ∷ col 1 5 ∷ lit (Int (pos 1)) ∷ col 1 0 ∷ []) Bikes 0

pub bike_docks_lines : {text : List ℕ} → IsMixOf Docks dock_terms Bikes docked_terms (1 ∷ 2 ∷ 3 ∷ 4 ∷ []) text → AsksLines text query.BikeDocks
bike_docks_lines is db has =
    rows_merged (has Docks) (has Bikes) (1 ∷ 2 ∷ 3 ∷ 4 ∷ []) dock_terms docked_terms dock_line docked_line
    is (λ r. refl) (λ r. refl) (λ r. refl) dock_ties docked_ties dock_and_docked

truck_ties : TiesOnlyByKey 3 1 (layout_of Trucks) truck_line
truck_ties r s tie = owner_ties _ _ _ _ _ tie

truck_bike_ties : TiesOnlyByKey 3 1 (layout_of Bikes) truck_bike_line
truck_bike_ties r s tie = number_ties _ _ _ _ _ tie

truck_and_truck_bike : NeverTies 3 truck_line truck_bike_line
truck_and_truck_bike r s tie = places_apart _ _ _ _ _ _ zero_one tie

abbrev pub truck_terms : List Term
truck_terms = line_terms (col 1 0 ∷ lit (Int (pos 0)) ∷ lit (Int (pos 0)) ∷ []) Trucks (bikes.COLUMNS - trucks.COLUMNS)

abbrev pub truck_bike_terms : List Term
truck_bike_terms = line_terms (col 1 7 ∷ lit (Int (pos 1)) ∷ col 1 0 ∷ []) Bikes 0

pub trucks_lines : {text : List ℕ} → IsMixOf Trucks truck_terms Bikes truck_bike_terms (1 ∷ 2 ∷ 3 ∷ []) text → AsksLines text query.Trucks
trucks_lines is db has =
    rows_merged (has Trucks) (has Bikes) (1 ∷ 2 ∷ 3 ∷ []) truck_terms truck_bike_terms truck_line truck_bike_line
    is (λ r. refl) (λ r. refl) (λ r. refl) truck_ties truck_bike_ties truck_and_truck_bike

order_ties : TiesOnlyByKey 3 1 (layout_of Orders) order_line
order_ties r s tie = owner_ties _ _ _ _ _ tie

order_bike_ties : TiesOnlyByKey 3 1 (layout_of Bikes) order_bike_line
order_bike_ties r s tie = number_ties _ _ _ _ _ tie

order_and_order_bike : NeverTies 3 order_line order_bike_line
order_and_order_bike r s tie = places_apart _ _ _ _ _ _ zero_one tie

abbrev pub order_terms : List Term
order_terms = line_terms (col 1 0 ∷ lit (Int (pos 0)) ∷ lit (Int (pos 0)) ∷ []) Orders 0

abbrev pub order_bike_terms : List Term
order_bike_terms = line_terms (col 1 8 ∷ lit (Int (pos 1)) ∷ col 1 0 ∷ []) Bikes 0

pub order_bikes_lines : {text : List ℕ} → IsMixOf Orders order_terms Bikes order_bike_terms (1 ∷ 2 ∷ 3 ∷ []) text → AsksLines text query.OrderBikes
order_bikes_lines is db has =
    rows_merged (has Orders) (has Bikes) (1 ∷ 2 ∷ 3 ∷ []) order_terms order_bike_terms order_line order_bike_line
    is (λ r. refl) (λ r. refl) (λ r. refl) order_ties order_bike_ties order_and_order_bike
