use Rattle.std.proofs.Common.{◌∙◌}
use Rattle.bike_queries.proofs.NextLemmas.{region_read}
use Rattle.bike_queries.proofs.regions.read_region.Goals as goal

pub returns : goal.returns
returns c = λ y is. c.from_fields.ensures ∙ region_read c.args.row.now y c.in_ok-region_id.ensures.ok c.in_ok-name.ensures.ok is
