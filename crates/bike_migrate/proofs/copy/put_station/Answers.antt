use Rattle.std.proofs.Common.{◌∙◌, rules}
use borrow.Author.Tests.{tests}
use Rattle.bike_migrate.specs.Stations.{value_with_text}
use Rattle.bike_migrate.proofs.StepLemmas.{runs_does}
use Rattle.bike_migrate.proofs.TextLemmas.{station_writes, values_are, station_bound, station_added}
use Rattle.bike_migrate.proofs.copy.put_station.Goals as goal

pub returns : goal.returns
returns g c =
    let made = c.from_fn-values.ensures.items in
    let text = c.args.by_type.now in
    let bound = values_are (value_with_text text c.args.row.now) _ (λ i y q k. search (rules, tests)) c.from_fn-values.result made.long made.each ∙ station_bound text c.args.row.now c.requires in
    runs_does c.run.ensures bound station_writes (λ a b ours count ran x. station_added text c.args.row.now c.requires a b ours count ran)
