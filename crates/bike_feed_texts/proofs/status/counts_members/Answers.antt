use Rattle.bike_feed_texts.proofs.Objects.{member_then, member_last}
use Rattle.bike_feed_texts.proofs.status.counts_members.Goals as goal

pub returns-clause-wrote : goal.returns-clause-wrote
returns-clause-wrote g c =
    member_then c.whole_member.ensures.wrote c.whole_member.ensures.place.0
    (member_then (rw (c.as_slice.ensures.value) at c.type_counts_member.ensures.wrote) c.type_counts_member.ensures.place.0
    (member_then c.whole_member-2.ensures.wrote c.whole_member-2.ensures.place.0
    (member_then c.whole_member-3.ensures.wrote c.whole_member-3.ensures.place.0
    (member_last c.whole_member-4.ensures.wrote))))
