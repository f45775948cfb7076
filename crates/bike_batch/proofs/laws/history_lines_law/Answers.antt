use Rattle.bike_batch.proofs.AgainLemmas.{history_lines}
use Rattle.bike_batch.proofs.laws.history_lines_law.Goals as goal

pub returns : goal.returns
returns c = history_lines
