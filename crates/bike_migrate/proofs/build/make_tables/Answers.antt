use Rattle.bike_recognition.specs.declared.earlier_versions.earlier.Earlier.TheVariants.{First, Second, Third}
use Rattle.bike_recognition.specs.EarlierVersions.Earlier.{newer_names}
use Rattle.bike_migrate.proofs.StepLemmas.{does_then, does_under, does_weaker}
use Rattle.bike_migrate.proofs.BuildLemmas.{newer_unnamed, still_unnamed_all, makes_first, makes_second, makes_third}
use Rattle.bike_migrate.proofs.build.make_tables.Goals as goal

pub returns-in_ok-create_regions-in-First : goal.returns-in_ok-create_regions-in-First
returns-in_ok-create_regions-in-First g c = rw c.in-First.is (does_then (does_under (λ db at. let free = newer_unnamed First db at in (free.0, tt)) c.in_ok-create_regions-in-First.ensures)
    (λ a b at made. still_unnamed_all (newer_names Second) a b made.unnamed (newer_unnamed First a at).1)
    c.make_more.ensures
    (λ a b d x at regions more. makes_first a d b at.has regions more))

pub returns-in-Second : goal.returns-in-Second
returns-in-Second g c = rw c.in-Second.is (does_weaker (does_under (newer_unnamed Second) c.make_more-in-Second.ensures) (λ a d x at more. makes_second a d at.has more))

pub returns-in-Third : goal.returns-in-Third
returns-in-Third g c = rw c.in-Third.is (does_weaker (does_under (newer_unnamed Third) c.make_later.ensures) (λ a d x at later. makes_third a d at.has later))
