use Rattle.std.specs.FinMap as map
use Rattle.std.proofs.Common.{◌∙◌}
use Rattle.bike_sql.proofs.ChainLaws.{reads_as}
use Rattle.bike_schema.proofs.AnswerLemmas.{has_row}
use Rattle.bike_book.proofs.FoundKeys.{found_by_key}
use Rattle.bike_fleet_reads.proofs.regions.has_region.Goals as goal

pub returns : goal.returns
returns g c =
    reads_as c.in_ok-row.ensures (λ db is s h. c.is_some.ensures ∙ has_row _ (map.get s.regions c.args.region.now) (is s h ∙ (found_by_key s h.listed h.sound h.listing).regions c.args.region.now))
