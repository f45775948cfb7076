use Rattle.bike_feeds.proofs.NameLemmas.{tells_so, unasked, names_unasked}
use Rattle.bike_feeds.proofs.names.find_names.Goals as goal

pub returns-then-not-translated-clause-query : goal.returns-then-not-translated-clause-query
returns-then-not-translated-clause-query g c =
    unasked g.S.Store c.new.result c.requires (λ s. names_unasked s c.args.kind c.args.id.now c.args.translated c.new.result.items c.new.ensures.items c.if-not-translated.true)

pub returns-clause-query : goal.returns-clause-query
returns-clause-query g c = tells_so g.S.Store c.names_of.result (λ s names is told. is) c.names_of.ensures.query
