use Rattle.std.proofs.Common.{refl, ◌∙◌}
use Rattle.bike_book.specs.Stored.{stored_region}
use Rattle.bike_schema.proofs.AnswerLemmas.{reads_weaker}
use Rattle.bike_queries.proofs.AfterLaw.{row_after}
use Rattle.bike_queries.proofs.regions.select_region.Goals as goal

pub returns : goal.returns
returns g c =
    reads_weaker c.find_region_row_from.ensures (λ db row is s h. is s h ∙ row_after stored_region (λ e. refl) _ c.as_str.result.now (c.as_str.ensures.value ∙ c.start_of-start.ensures) s.regions)
