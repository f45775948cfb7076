use Rattle.std.proofs.Common.{rules, w32, w64, FitsSigned}
use Rattle.std.proofs.lemmas.Int.{to_z-of_z}
use Rattle.bike_feed_texts.proofs.Objects.{object_then, member_then}
use Rattle.bike_feed_texts.proofs.plan.write_segment.Goals as goal

pub returns-clause-wrote : goal.returns-clause-wrote
returns-clause-wrote g c =
    let narrow : FitsSigned w32 c.rate.result = search rules in
    let wide : FitsSigned w64 c.from.result = search rules in
    let rate = rw (c.new.ensures, to_z-of_z w64 c.from.result wide, c.from.ensures, to_z-of_z w32 c.rate.result narrow, c.rate.ensures.value) at c.cents_member.ensures.wrote in
    object_then c.begin_object.ensures.wrote c.begin_object.ensures.place.0
    (member_then (rw c.start.ensures.value at c.whole_member.ensures.wrote) c.whole_member.ensures.place.0
    (member_then rate c.cents_member.ensures.place.0
    (member_then (rw c.interval.ensures at c.whole_member-2.ensures.wrote) c.whole_member-2.ensures.place.0
    (rw c.end.ensures at c.end_member.ensures.wrote))))
    c.end_object.ensures.wrote
