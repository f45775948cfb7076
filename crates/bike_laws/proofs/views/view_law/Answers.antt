use Rattle.bike_laws.proofs.ViewLemmas.{view_bounded}
use Rattle.bike_laws.proofs.views.view_law.Goals as goal

pub returns : goal.returns
returns c = λ s now command order good later. view_bounded s now command order later
