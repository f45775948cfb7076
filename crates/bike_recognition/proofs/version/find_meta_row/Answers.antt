use Rattle.bike_sql.proofs.CallLaws.{read_returns}
use Rattle.bike_sql.proofs.ParamLemmas.{bindings}
use Rattle.bike_recognition.proofs.MetaTexts.{finds_meta}
use Rattle.bike_recognition.proofs.version.find_meta_row.Goals as goal

pub returns : goal.returns
returns g c = read_returns finds_meta c.first_row.ensures (search bindings)
