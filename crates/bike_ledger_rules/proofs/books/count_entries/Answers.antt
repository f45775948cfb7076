use Rattle.std.proofs.Common.{◌∙◌, ap, arith}
use Rattle.bike_sql.proofs.ChainLaws.{reads_as}
use Rattle.bike_schema.specs.Tables.{tables_of}
use Rattle.bike_ledger_rules.specs.declared.books.EntryCount.{EntryCount}
use Rattle.bike_ledger_rules.proofs.BooksFolds.{entries_counted}
use Rattle.bike_ledger_rules.proofs.books.count_entries.Goals as goal

pub returns : goal.returns
returns g c = reads_as c.in_ok-entries.ensures (λ db is.
    ap (λ (a : EntryCount). a.count) is ∙ entries_counted (tables_of db).entries (record { count = 0 }) ∙ (omega arith))
