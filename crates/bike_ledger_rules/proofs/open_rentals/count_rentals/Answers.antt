use Rattle.std.proofs.Common.{sym, subst}
use Rattle.bike_schema.specs.Tables.{tables_of}
use Rattle.bike_ledger_rules.specs.Entries.{IsRentalCount}
use Rattle.bike_ledger_rules.proofs.EntryRules.{rentals_counted}
use Rattle.bike_ledger_rules.proofs.ReadLaws.{reads_ours}
use Rattle.bike_ledger_rules.proofs.open_rentals.count_rentals.Goals as goal

pub returns : goal.returns
returns g c = reads_ours c.fold_lines.ensures (λ db ours n is.
    subst (IsRentalCount (tables_of db)) (sym is) (rentals_counted (tables_of db)))
