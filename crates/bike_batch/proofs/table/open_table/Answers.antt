use Rattle.std.proofs.Common.{ap, ◌∙◌, option_map}
use Rattle.csv.specs.Reading.{strip_bom}
use Rattle.bike_batch.proofs.Reading.{starts}
use Rattle.bike_batch.proofs.table.open_table.Goals as goal

pub returns-clause-start : goal.returns-clause-start
returns-clause-start g c =
    starts (λ input. g.R.Read.remaining input.reader) (g.R.Read.remaining c.args.reader) c.from_reader.result
    (c.from_reader.ensures.source ∙ ap (λ reader. option_map strip_bom (g.R.Read.remaining reader)) c.new-2.ensures.reader) c.from_reader.ensures.state
