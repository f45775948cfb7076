use Rattle.std.specs.Prelude.{◌-◌, option_map, true}
use Rattle.bike_json.specs.State.{greatest_count}
use Rattle.bike_queries.specs.After.{station_of}
use Rattle.bike_queries.specs.Pages.{IsNamedStation}
use Rattle.bike_feeds.proofs.Lists.{stations}
use Rattle.bike_feeds.proofs.NameLemmas.{Told}
use Rattle.bike_feeds.proofs.WalkLemmas.{Walks}
use Rattle.bike_feeds.proofs.PageLemmas.{Ahead}
use Rattle.bike_feeds.proofs.items.write_stations.Given as goal

abbrev pub invariant-stations : goal.invariant-stations
invariant-stations g l =
    Walks g.S.Store (stations l.fn.system) (option_map (λ x. station_of x.info) l.next) l.fn.desk l.desk l.fn.json l.json (g.W.Output.contents l.fn.out) (g.W.Output.contents l.out)
    × Told g.S.Store l.translated l.fn.desk l.desk
    × Ahead g.S.Store (IsNamedStation true) l.next l.page.items l.fn.desk l.desk

abbrev pub decreases-stations : goal.decreases-stations
decreases-stations g l = greatest_count - l.json.count
