use Rattle.bike_feed_texts.proofs.Frames.{information_head_then}
use Rattle.bike_feed_texts.proofs.Objects.{member_last}
use Rattle.bike_feed_texts.proofs.system.open_information.Goals as goal

pub returns-clause-wrote : goal.returns-clause-wrote
returns-clause-wrote g c =
    information_head_then c.args.system.now c.args.moment c.open_feed.ensures.wrote
    c.open_feed.ensures.place.0 c.begin_object.ensures.wrote
    c.begin_object.ensures.place.0 (member_last (rw (c.as_str.ensures.text, c.system_id.ensures) at c.text_member.ensures.wrote))
    c.text_member.ensures.place.0 c.member.ensures.wrote
    c.member.ensures.place.0 c.begin_array.ensures.wrote
