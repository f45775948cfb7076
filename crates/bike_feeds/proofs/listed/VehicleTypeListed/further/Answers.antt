use Rattle.std.proofs.Common.{ap}
use Rattle.bike_feed_texts.specs.Elements.{type_tree}
use Rattle.bike_feeds.proofs.NameLemmas.{tells_so}
use Rattle.bike_feeds.proofs.listed.VehicleTypeListed.further.Goals as goal

pub returns-clause-query : goal.returns-clause-query
returns-clause-query g c =
    tells_so g.S.Store c.find_names.result (λ s names are told x. ap (type_tree x c.args.self.now) (are told)) (rw c.type_id.ensures at c.find_names.ensures.query)
