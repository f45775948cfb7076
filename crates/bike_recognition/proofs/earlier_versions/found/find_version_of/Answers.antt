use Rattle.std.proofs.Common.{rules, inr}
use Rattle.bike_recognition.proofs.LookLemmas.{reads_here}
use Rattle.bike_recognition.proofs.earlier_versions.found.find_version_of.Goals as goal

pub returns : goal.returns
returns g c = reads_here c.find_by_meta.ensures (λ f is. inr ((λ none. let told = c.has_none.ensures.1 none in search rules), is))
