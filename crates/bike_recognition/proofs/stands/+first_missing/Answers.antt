use Rattle.std.specs.Prelude.{option_map}
use Rattle.bike_sql.proofs.ChainLaws.{reads_both}
use Rattle.bike_schema.proofs.AnswerLemmas.{reads_weaker}
use Rattle.bike_recognition.specs.Names.{table_named}
use Rattle.bike_recognition.proofs.StandLemmas.{first_on}
use Rattle.bike_recognition.proofs.stands.+first_missing.Goals as goal

pub returns-then-branch : goal.returns-then-branch
returns-then-branch g t c =
    reads_weaker (reads_both c.in_ok-table_stands-in-len1-up.ensures c.first_missing.ensures)
    (λ db missing both. first_on db c.args.tables.now (option_map table_named missing) c.in-len1-up.len_at_least (both.0.0 c.if-branch.true) both.1)
