use Rattle.bike_stream.proofs.LineLemmas.{lines_all, lines_last, lines_next}
use Rattle.bike_stream.proofs.laws.line_laws.Goals as goal

pub returns : goal.returns
returns c = record { ended = lines_all; last = lines_last; next = lines_next }
