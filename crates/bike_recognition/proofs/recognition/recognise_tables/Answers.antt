use Rattle.std.proofs.Common.{inl, inr, refl, subst}
use Rattle.std.specs.Prelude.{option_map}
use Rattle.bike_sql.proofs.ChainLaws.{reads_as}
use Rattle.bike_schema.specs.Layouts.{every_table}
use Rattle.bike_recognition.specs.Names.{table_named}
use Rattle.bike_recognition.specs.Recognition.{IsFirstMissing}
use Rattle.bike_recognition.proofs.StandLemmas.{none_missing, some_missing}
use Rattle.bike_recognition.proofs.recognition.recognise_tables.Goals as goal

pub returns-in-Some : goal.returns-in-Some
returns-in-Some g c =
    reads_as c.in_ok-missing_table.ensures
    (λ db is. inr ((λ has. some_missing db every_table _ (subst (λ o. IsFirstMissing db every_table (option_map table_named o)) c.in-Some.is is) has), refl))

pub returns-in-None : goal.returns-in-None
returns-in-None g c = reads_as c.in_ok-missing_table.ensures (λ db is. inl (none_missing db (subst (λ o. IsFirstMissing db every_table (option_map table_named o)) c.in-None.is is), refl))
