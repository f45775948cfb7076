use Rattle.bike_laws.proofs.SingleSteps.DockLaw as dock
use Rattle.bike_laws.proofs.single_steps.counts.docks_law.Goals as goal

pub returns : goal.returns
returns c = λ s station docks sound has. dock.docks_law s sound station docks has
