use Rattle.std.specs.Prelude.{◌-◌}
use Rattle.bike_json.specs.State.{greatest_count}
use Rattle.bike_feeds.proofs.Lists.{languages}
use Rattle.bike_feeds.proofs.WalkLemmas.{Walks}
use Rattle.bike_feeds.proofs.items.write_languages.Given as goal

abbrev pub invariant-languages : goal.invariant-languages
invariant-languages g l =
    Walks g.S.Store (languages l.fn.system) l.next l.fn.desk l.desk l.fn.json l.json (g.W.Output.contents l.fn.out) (g.W.Output.contents l.out)

abbrev pub decreases-languages : goal.decreases-languages
decreases-languages g l = greatest_count - l.json.count
