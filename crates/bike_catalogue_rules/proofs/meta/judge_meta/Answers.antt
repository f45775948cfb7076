use Rattle.std.proofs.Common.{ap}
use Rattle.bike_sql.proofs.ChainLaws.{reads_both}
use Rattle.bike_judges.proofs.ReadsLaw.{reads_told}
use Rattle.bike_catalogue_rules.proofs.MetaJudged.{meta_judged}
use Rattle.bike_catalogue_rules.proofs.meta.judge_meta.Goals as goal

pub returns : goal.returns
returns g c = reads_told (reads_both c.in_ok-books.ensures c.judge_lines.ensures) (λ db ours found told. meta_judged db c.in_ok-books.books.entries (ap (λ x. x.1) told.0) found told.1)
