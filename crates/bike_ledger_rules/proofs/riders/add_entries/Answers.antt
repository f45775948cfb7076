use Rattle.std.proofs.Common.{◌∙◌, List, ℤ, ap, refl, sym}
use Rattle.std.specs.List.{fold}
use Rattle.sqlite_value.specs.Order.{Row}
use Rattle.bike_sql.proofs.ChainLaws.{reads_as}
use Rattle.bike_schema.specs.Tables.{tables_of}
use Rattle.bike_readings.specs.Readings.{entry_read}
use Rattle.bike_ledger_rules.specs.declared.riders.Balances.{Balances}
use Rattle.bike_ledger_rules.specs.Sums.{with_read}
use Rattle.bike_ledger_rules.specs.Riders.{with_credit, with_entry}
use Rattle.bike_ledger_rules.proofs.Folds.{entries_read}
use Rattle.bike_ledger_rules.proofs.SumLemmas.{fold_held, fold_read}
use Rattle.bike_ledger_rules.proofs.riders.add_entries.Goals as goal

pub returns : goal.returns
returns g c = reads_as c.in_ok-added.ensures (λ db is.
    let rows = (tables_of db).entries in
    let more = λ (sums : List ℤ) (row : Row). with_read with_credit sums (entry_read row) in
    ap (λ (a : Balances). a.sums) is
    ∙ fold_held (λ a. a.sums) with_entry more (λ a row. refl) rows (record { sums = c.args.sums })
    ∙ fold_read entry_read with_credit rows c.args.sums ∙ ap (fold with_credit c.args.sums) (sym (entries_read rows)))
