use Rattle.std.specs.Prelude.{◌-◌, option_map}
use Rattle.bike_json.specs.State.{greatest_count}
use Rattle.bike_queries.specs.After.{station_of}
use Rattle.bike_queries.specs.Pages.{IsStatusOf}
use Rattle.bike_feeds.proofs.Lists.{statuses}
use Rattle.bike_feeds.proofs.WalkLemmas.{Walks}
use Rattle.bike_feeds.proofs.PageLemmas.{Ahead}
use Rattle.bike_feeds.proofs.StatusLemmas.{KnowsTypes}
use Rattle.bike_feeds.proofs.items.write_statuses.Given as goal

abbrev pub invariant-stations : goal.invariant-stations
invariant-stations g l =
    Walks g.S.Store statuses (option_map (λ x. station_of x.info) l.next) l.fn.desk l.desk l.fn.json l.json (g.W.Output.contents l.fn.out) (g.W.Output.contents l.out)
    × KnowsTypes g.S.Store l.type_ids.items l.fn.desk l.desk
    × Ahead g.S.Store (λ s. IsStatusOf s l.type_ids.items) l.next l.page.items l.fn.desk l.desk

abbrev pub decreases-stations : goal.decreases-stations
decreases-stations g l = greatest_count - l.json.count
