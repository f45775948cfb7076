use Rattle.bike_schema.specs.Tables.{tables_of}
use Rattle.bike_ledger_rules.proofs.BooksFolds.{past_found}
use Rattle.bike_ledger_rules.proofs.ReadLaws.{reads_ours}
use Rattle.bike_ledger_rules.proofs.books.find_sums.Goals as goal

pub returns : goal.returns
returns g c = reads_ours c.fold_lines.ensures (λ db ours sums is. past_found (tables_of db).meta sums is)
