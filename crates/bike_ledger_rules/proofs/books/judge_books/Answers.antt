use Rattle.bike_sql.proofs.ChainLaws.{reads_both}
use Rattle.bike_schema.specs.Tables.{tables_of}
use Rattle.bike_ledger_rules.proofs.BooksVerdict.{books_judged}
use Rattle.bike_ledger_rules.proofs.ReadLaws.{reads_ours}
use Rattle.bike_ledger_rules.proofs.books.judge_books.Goals as goal

pub returns : goal.returns
returns g c = reads_ours (reads_both c.in_ok-others.ensures c.judge_lines.ensures) (λ db ours found it earlier.
    books_judged db c.in_ok-others.others it.0 earlier found (λ v is. it.1 v (c.new.ensures.says (tables_of db).books v is)))
