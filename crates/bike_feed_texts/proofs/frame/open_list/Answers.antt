use Rattle.bike_feed_texts.proofs.Frames.{list_head_then}
use Rattle.bike_feed_texts.proofs.frame.open_list.Goals as goal

pub returns-clause-wrote : goal.returns-clause-wrote
returns-clause-wrote g c =
    list_head_then c.args.system.now c.args.moment c.args.name.plain.now c.open_feed.ensures.wrote c.open_feed.ensures.place.0
    c.begin_object.ensures.wrote c.begin_object.ensures.place.0 c.member.ensures.wrote c.member.ensures.place.0 c.begin_array.ensures.wrote
