use Rattle.std.proofs.Common.{ℕ, sym, subst, ap, ◌∙◌}
use Rattle.bike_sql.proofs.ChainLaws.{reads_both, reads_refused}
use Rattle.bike_schema.specs.Tables.{tables_of}
use Rattle.bike_ledger_rules.specs.Rentals.{AreSums}
use Rattle.bike_ledger_rules.proofs.ReadLaws.{reads_ours}
use Rattle.bike_ledger_rules.proofs.RentalFolds.{sums_are}
use Rattle.bike_ledger_rules.proofs.rental_entries.sum_entries.Goals as goal

pub returns-in_err-none : goal.returns-in_err-none
returns-in_err-none g c = reads_refused (reads_both c.in_ok-archived.ensures c.in_ok-rentals.ensures) c.from_residual-in_err-none.ensures.0

pub returns : goal.returns
returns g c =
    let none = c.in_ok-none.none in
    reads_ours (reads_both c.in_ok-archived.ensures (reads_both c.in_ok-rentals.ensures c.fold_lines.ensures)) (λ db ours sums it.
    subst (AreSums (tables_of db)) (sym it.1.1)
    (sums_are (tables_of db) c.in_ok-rentals.rentals.next it.1.0.next_is none (c.in_ok-none.ensures.archived ∙ ap (λ (x : ℕ × ℕ × ℕ). x.2) it.0)
    c.in_ok-none.ensures.fares c.in_ok-none.ensures.refunds))
