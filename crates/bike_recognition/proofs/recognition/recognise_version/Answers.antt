use Rattle.std.proofs.Common.{sym, ap, subst, refl, ◌∙◌}
use Rattle.bike_sql.proofs.ChainLaws.{reads_as, reads_both}
use Rattle.bike_schema.proofs.AnswerLemmas.{reads_weaker}
use Rattle.bike_recognition.specs.Recognition.{told_by, IsAsTold}
use Rattle.bike_recognition.proofs.LookLemmas.{reads_known}
use Rattle.bike_recognition.proofs.recognition.recognise_version.Goals as goal

pub returns-in-Some : goal.returns-in-Some
returns-in-Some g c = reads_as c.in_ok-version.ensures (λ db is. subst (λ o. IsAsTold db o c.in-Some.told) (sym c.in-Some.is ∙ c.told_by.ensures ∙ ap told_by is) refl)

pub returns-in-None : goal.returns-in-None
returns-in-None g c =
    reads_weaker (reads_both c.in_ok-version.ensures (reads_known c.recognise_tables.ensures))
    (λ db r both. subst (λ o. IsAsTold db o r) (sym c.in-None.is ∙ c.told_by.ensures ∙ ap told_by both.0) both.1)
