use Rattle.std.proofs.Common.{sym, ap, subst, ◌∙◌}
use Rattle.std.specs.FinMap as map
use Rattle.std.specs.Prelude.{option_map}
use Rattle.bike_schema.proofs.AnswerLemmas.{answers_then, answers_both}
use Rattle.bike_fleet_reads.specs.Fleet.{numbers_pair}
use Rattle.bike_queries.specs.StationCounts.{AreCountsTold, AreRising}
use Rattle.bike_queries.proofs.CountLemmas.{counts_shown, no_counts_shown}
use Rattle.bike_queries.proofs.counts.find_station_counts.Goals as goal

pub returns-in_default : goal.returns-in_default
returns-in_default g c =
    answers_then _ _ c.in_ok-numbers.ensures (λ s m sound listing is.
    no_counts_shown s c.args.station.now (map.get s.stations c.args.station.now) (ap (option_map numbers_pair) (sym c.in_default.is) ∙ is))

pub returns : goal.returns
returns g c =
    answers_then _ _ (answers_both _ _ c.in_ok-numbers.ensures c.in_ok-type_ids.ensures) (λ s m sound listing all.
    counts_shown c.counts_by_type.ensures.counts s c.args.station.now sound (map.get s.stations c.args.station.now) c.in-Some.numbers c.as_slice.result.now c.in_ok-counts.counts
    (ap (option_map numbers_pair) (sym c.in-Some.is) ∙ all.0) (c.as_slice.ensures.value ∙ all.1)
    (subst (λ told. AreRising told → AreCountsTold told c.in-Some.numbers.docks c.as_slice.result.now c.in_ok-counts.counts) c.as_slice-told.ensures.value c.in_ok-counts.ensures))
