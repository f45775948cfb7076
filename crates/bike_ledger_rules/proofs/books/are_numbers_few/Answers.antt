use Rattle.std.proofs.Common.{◌∙◌, ℕ, ◌+◌, ap}
use Rattle.bike_sql.proofs.ChainLaws.{reads_both}
use Rattle.bike_schema.specs.Tables.{tables_of}
use Rattle.bike_readings.specs.Views.{books_of}
use Rattle.bike_readings.proofs.RulesLaws.{stored_in_order}
use Rattle.bike_ledger_rules.proofs.BooksVerdict.{numbers_few}
use Rattle.bike_ledger_rules.proofs.ReadLaws.{reads_ours_as}
use Rattle.bike_ledger_rules.proofs.books.are_numbers_few.Goals as goal

pub returns : goal.returns
returns g c = reads_ours_as (reads_both c.in_ok-rentals.ensures c.in_ok-entries.ensures) (λ db ours it told earlier some.
    c.are_few.ensures ∙ numbers_few (tables_of db) (stored_in_order db) earlier c.in_ok-rentals.rentals it.0 (books_of c.args.archived) told
    c.in_ok-last_rental.last_rental c.in_ok-last_entry.last_entry
    (c.in_ok-last_rental.ensures ∙ ap (λ (n : ℕ). c.args.archived.rentals + n) c.saturating_sub.ensures)
    (c.in_ok-last_entry.ensures ∙ ap (λ (n : ℕ). c.args.archived.entries + n) it.1))
