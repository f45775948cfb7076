use Rattle.std.specs.Prelude.{◌-◌}
use Rattle.bike_json.specs.State.{greatest_count}
use Rattle.bike_feeds.proofs.Lists.{listed}
use Rattle.bike_feeds.proofs.NameLemmas.{Told}
use Rattle.bike_feeds.proofs.WalkLemmas.{Walks}
use Rattle.bike_feeds.proofs.items.write_listed.Given as goal

abbrev pub invariant-list : goal.invariant-list
invariant-list g l =
    Walks g.S.Store (listed g.L.Listed.key g.L.Listed.element g.L.Listed.held l.fn.system) l.next l.fn.desk l.desk l.fn.json l.json (g.W.Output.contents l.fn.out) (g.W.Output.contents l.out)
    × Told g.S.Store l.translated l.fn.desk l.desk

abbrev pub decreases-list : goal.decreases-list
decreases-list g l = greatest_count - l.json.count
