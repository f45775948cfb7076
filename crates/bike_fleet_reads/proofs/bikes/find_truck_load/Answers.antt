use Rattle.std.proofs.Common.{ℕ, [], ◌∷◌, length, map, sym, ap, ◌∙◌}
use Rattle.std.specs.List.{count_by}
use Rattle.std.proofs.lemmas.List.{length-map}
use Rattle.bike_book.specs.Tables.{Bikes}
use Rattle.bike_book.specs.Rows.{number_value}
use Rattle.bike_book.specs.Found.{rows_by}
use Rattle.bike_book.proofs.FoundColumns.{found_by_columns}
use Rattle.bike_schema.proofs.AnswerLemmas.{answers_made}
use Rattle.bike_fleet_reads.specs.Holds.{is_for, order_column}
use Rattle.bike_fleet_reads.proofs.LoadLemmas.{load_counted}
use Rattle.bike_fleet_reads.proofs.bikes.find_truck_load.Goals as goal

pub returns : goal.returns
returns g c = answers_made c.in_ok-rows.ensures c.load_of.ensures (λ db load is made s h.
    let rows = c.as_slice.ensures.value ∙ is s h in
    let of_truck = λ (truck : ℕ). rows_by s h.listed Bikes (6 ∷ []) (number_value truck ∷ []) in (
      made.0 ∙ ap length rows ∙ length-map (of_truck c.args.truck) order_column ∙ (found_by_columns s h.listed h.sound h.listing).on_truck c.args.truck,
      λ row found truck_is.
          made.1 ∙ ap (count_by (is_for c.args.order)) (rows ∙ ap (λ (truck : ℕ). map order_column (of_truck truck)) (sym truck_is))
          ∙ load_counted s h.sound c.args.order h.listed row found,
    ))
