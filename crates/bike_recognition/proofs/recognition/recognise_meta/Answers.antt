use Rattle.std.proofs.Common.{inr}
use Rattle.bike_schema.proofs.AnswerLemmas.{reads_weaker}
use Rattle.bike_recognition.proofs.LookLemmas.{reads_once}
use Rattle.bike_recognition.proofs.recognition.recognise_meta.Goals as goal

pub returns-then-branch : goal.returns-then-branch
returns-then-branch g c = reads_weaker (reads_once c.in_ok-table_stands.ensures (λ db is. is.0 c.if-branch.true) c.recognise_version.ensures) (λ db r both. inr both)
