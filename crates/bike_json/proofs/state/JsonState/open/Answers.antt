use Rattle.std.proofs.Common.{refl, rules}
use Rattle.bike_json.proofs.Levels.{enclosing-push}
use Rattle.bike_json.proofs.state.JsonState.open.Goals as goal

pub returns-clause-place : goal.returns-clause-place
returns-clause-place c = (refl, search (rules, enclosing-push))
