use Rattle.bike_feed_texts.proofs.Frames.{head_then}
use Rattle.bike_feed_texts.proofs.Objects.{member_then, member_last}
use Rattle.bike_feed_texts.proofs.frame.open_feed.Goals as goal

pub returns-clause-wrote : goal.returns-clause-wrote
returns-clause-wrote g c =
    head_then c.args.system.now c.args.moment c.requires.0 c.begin_object.ensures.wrote c.begin_object.ensures.place.0
    (member_then c.moment_member.ensures.wrote c.moment_member.ensures.place.0
    (member_then (rw (c.get.ensures.value, c.ttl.ensures) at c.whole_member.ensures.wrote) c.whole_member.ensures.place.0
    (member_last c.text_member.ensures.wrote)))
    c.text_member.ensures.place.0 c.member.ensures.wrote
