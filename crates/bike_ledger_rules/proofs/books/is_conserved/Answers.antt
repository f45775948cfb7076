use Rattle.std.proofs.Common.{◌∙◌}
use Rattle.bike_sql.proofs.ChainLaws.{reads_both}
use Rattle.bike_schema.specs.Tables.{tables_of}
use Rattle.bike_readings.proofs.RulesLaws.{stored_in_order}
use Rattle.bike_ledger_rules.proofs.BooksVerdict.{sums_conserved}
use Rattle.bike_ledger_rules.specs.Books.{past_in}
use Rattle.bike_ledger_rules.proofs.ReadLaws.{reads_ours_as}
use Rattle.bike_ledger_rules.proofs.books.is_conserved.Goals as goal

pub returns : goal.returns
returns g c = reads_ours_as (reads_both c.in_ok-before.ensures c.in_ok-sums.ensures) (λ db ours it earlier some.
    c.adds_up.ensures ∙ sums_conserved (tables_of db) (stored_in_order db) earlier c.in_ok-before.before.sum (past_in c.in_ok-sums.sums) it.0 it.1)
