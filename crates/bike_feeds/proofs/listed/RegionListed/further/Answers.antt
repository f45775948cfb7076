use Rattle.std.proofs.Common.{ap}
use Rattle.bike_feed_texts.specs.Elements.{region_tree}
use Rattle.bike_feeds.proofs.NameLemmas.{tells_so}
use Rattle.bike_feeds.proofs.listed.RegionListed.further.Goals as goal

pub returns-clause-query : goal.returns-clause-query
returns-clause-query g c =
    tells_so g.S.Store c.find_names.result (λ s names are told x. ap (region_tree x c.args.self.now) (are told)) (rw c.region_id.ensures at c.find_names.ensures.query)
