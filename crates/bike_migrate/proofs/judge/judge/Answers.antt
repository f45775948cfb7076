use Rattle.std.proofs.Common.{sym, ◌∙◌}
use Rattle.std.specs.Prelude.{option_map}
use Rattle.bike_audit.specs.Audit.{row_name}
use Rattle.bike_schema.specs.Tables.{tables_of}
use Rattle.bike_schema.proofs.AnswerLemmas.{reads_weaker}
use Rattle.bike_migrate.proofs.DoneLemmas.{verdict_bounded, verdict_unbounded}
use Rattle.bike_migrate.proofs.judge.judge.Goals as goal

pub returns-then-bounds_docks : goal.returns-then-bounds_docks
returns-then-bounds_docks g c =
    let bounds = sym c.bounds_docks.ensures ∙ c.if-bounds_docks.true in
    reads_weaker c.judge_bounded.ensures (λ db bad verdict copies. verdict_bounded c.args.earlier (tables_of db) (option_map row_name bad) bounds (verdict copies))

pub returns-else-bounds_docks : goal.returns-else-bounds_docks
returns-else-bounds_docks g c =
    let bounds = sym c.bounds_docks.ensures ∙ c.if-bounds_docks.false in
    reads_weaker c.first_bad_row.ensures.verdict (λ db bad verdict copies. verdict_unbounded c.args.earlier (tables_of db) (option_map row_name bad) bounds verdict)
