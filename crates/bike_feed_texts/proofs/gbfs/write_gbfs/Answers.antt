use Rattle.std.specs.Prelude.{codes}
use Rattle.bike_json.specs.Rows.{items}
use Rattle.bike_feed_texts.specs.Elements.{link_tree}
use Rattle.bike_feed_texts.specs.Feeds.{listed_feeds}
use Rattle.bike_feed_texts.proofs.Frames.{list_then}
use Rattle.bike_feed_texts.proofs.gbfs.write_gbfs.Goals as goal

pub returns-clause-wrote : goal.returns-clause-wrote
returns-clause-wrote g c s =
    list_then c.args.system.now c.args.moment (codes "feeds")
    (items (link_tree c.args.system.now) listed_feeds) c.requires.0 c.open_list.ensures.wrote c.write_links.ensures.wrote c.close_list.ensures.wrote
