use Rattle.std.proofs.Common.{sym, ap, ◌∙◌}
use Rattle.std.specs.Prelude.{option_map}
use Rattle.bike_sql.proofs.ChainLaws.{reads_as, reads_both}
use Rattle.bike_operator.specs.View.{docked_view}
use Rattle.bike_fleet_reads.specs.Fleet.{numbered_pair}
use Rattle.bike_schema.proofs.AnswerLemmas.{reads_weaker}
use Rattle.bike_views.proofs.docks.find_docked_bike.Goals as goal

pub returns-in-None : goal.returns-in-None
returns-in-None g c = reads_as c.in_ok-find_docked.ensures (λ db it s h. ap (docked_view s) (sym (ap (option_map numbered_pair) c.in-None.is) ∙ it s h))

pub returns-in-Some : goal.returns-in-Some
returns-in-Some g c = reads_weaker (reads_both c.in_ok-find_docked.ensures c.find_typed_bike.ensures) (λ db x it s h.
    it.1 s h ∙ ap (docked_view s) (sym (ap (option_map numbered_pair) c.in-Some.is) ∙ it.0 s h))
