use Rattle.std.proofs.Common.{◌∙◌, List, ℤ, ap, refl, sym}
use Rattle.std.specs.List.{fold}
use Rattle.sqlite_value.specs.Order.{Row}
use Rattle.bike_sql.proofs.ChainLaws.{reads_as}
use Rattle.bike_schema.specs.Tables.{tables_of}
use Rattle.bike_ledger_rules.specs.declared.riders.OpenRides.{OpenRides}
use Rattle.bike_ledger_rules.specs.Sums.{with_read}
use Rattle.bike_ledger_rules.specs.Riders.{with_ride, with_rental}
use Rattle.bike_ledger_rules.proofs.Folds.{rental_of_row, rentals_read}
use Rattle.bike_ledger_rules.proofs.SumLemmas.{fold_held, fold_read}
use Rattle.bike_ledger_rules.proofs.riders.count_rides.Goals as goal

pub returns : goal.returns
returns g c = reads_as c.in_ok-counted.ensures (λ db is.
    let rows = (tables_of db).rentals in
    let more = λ (counts : List ℤ) (row : Row). with_read with_ride counts (rental_of_row row) in
    ap (λ (a : OpenRides). a.counts) is
    ∙ fold_held (λ a. a.counts) with_rental more (λ a row. refl) rows (record { counts = c.args.counts })
    ∙ fold_read rental_of_row with_ride rows c.args.counts ∙ ap (fold with_ride c.args.counts) (sym (rentals_read rows)))
