use Rattle.bike_sql.proofs.ChainLaws.{reads_both, reads_failed}
use Rattle.bike_ledger_rules.proofs.BooksVerdict.{both, not_both}
use Rattle.bike_ledger_rules.proofs.ReadLaws.{reads_ours_as}
use Rattle.bike_ledger_rules.proofs.books.others_hold.Goals as goal

pub returns-in_err-is_conserved : goal.returns-in_err-is_conserved
returns-in_err-is_conserved g c =
    reads_failed (reads_both c.in_ok-archived.ensures (reads_both c.in_ok-are_few.ensures c.in_err-is_conserved.ensures))
    c.from_residual-in_err-is_conserved.ensures.0

pub returns-then-are_few : goal.returns-then-are_few
returns-then-are_few g c =
    reads_ours_as (reads_both c.in_ok-archived.ensures (reads_both c.in_ok-are_few.ensures c.in_ok-is_conserved.ensures))
    (λ db ours it earlier some. both _ _ _ _ (it.1.0 it.0 earlier some) (it.1.1 earlier some) c.if-are_few.true)

pub returns-else-are_few : goal.returns-else-are_few
returns-else-are_few g c =
    reads_ours_as (reads_both c.in_ok-archived.ensures (reads_both c.in_ok-are_few.ensures c.in_ok-is_conserved.ensures))
    (λ db ours it earlier some. not_both _ _ _ (it.1.0 it.0 earlier some) c.if-are_few.false)
