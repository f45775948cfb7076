use Rattle.std.proofs.Common.{sym, ◌∙◌}
use Rattle.bike_schema.proofs.AnswerLemmas.{reads_weaker}
use Rattle.bike_recognition.specs.Names.{table_named}
use Rattle.bike_recognition.proofs.EarlierVersions.StandsLemmas.{before_stands_at, other_stands_at}
use Rattle.bike_recognition.proofs.earlier_versions.stands.stands_at.Goals as goal

pub returns-in-Some : goal.returns-in-Some
returns-in-Some g c =
    reads_weaker c.old_stands.ensures (λ db stands is. before_stands_at c.args.earlier db (table_named c.args.table) c.in-Some.before (sym c.in-Some.is ∙ c.table_before.ensures) stands is)

pub returns-in-None : goal.returns-in-None
returns-in-None g c =
    reads_weaker c.table_stands.ensures (λ db stands is. other_stands_at c.args.earlier db (table_named c.args.table) (sym c.in-None.is ∙ c.table_before.ensures)
    (sym c.has_table.ensures ∙ c.if-not-has_table.false) stands is)
