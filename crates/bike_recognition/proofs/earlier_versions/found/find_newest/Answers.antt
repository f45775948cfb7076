use Rattle.bike_sql.proofs.ChainLaws.{reads_as}
use Rattle.bike_recognition.proofs.EarlierVersions.FoundLemmas.{newest_if}
use Rattle.bike_recognition.proofs.earlier_versions.found.find_newest.Goals as goal

pub returns-in-Ours : goal.returns-in-Ours
returns-in-Ours g c = reads_as c.in_ok-recognise_tables.ensures (λ db is. newest_if db _ c.in-Ours.is is)
