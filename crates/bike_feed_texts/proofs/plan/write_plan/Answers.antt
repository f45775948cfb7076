use Rattle.std.proofs.Common.{rules, w64, FitsSigned}
use Rattle.std.proofs.lemmas.Int.{to_z-of_z}
use Rattle.bike_feed_texts.proofs.Objects.{object_then, member_then}
use Rattle.bike_feed_texts.proofs.plan.write_plan.Goals as goal

pub returns-clause-wrote : goal.returns-clause-wrote
returns-clause-wrote g c =
    let fits : FitsSigned w64 c.from.result = search rules in
    let price = rw (c.new.ensures, to_z-of_z w64 c.from.result fits, c.from.ensures, c.get.ensures.value, c.price.ensures) at c.cents_member.ensures.wrote in
    object_then c.begin_object.ensures.wrote c.begin_object.ensures.place.0
    (member_then (rw (c.as_str.ensures.text, c.plan_id.ensures) at c.text_member.ensures.wrote) c.text_member.ensures.place.0
    (member_then (rw c.name.ensures at c.localized_member.ensures.wrote) c.localized_member.ensures.place.0
    (member_then (rw (c.as_str-2.ensures.text, c.currency.ensures) at c.text_member-2.ensures.wrote) c.text_member-2.ensures.place.0
    (member_then price c.cents_member.ensures.place.0
    (member_then (rw c.taxable.ensures at c.flag_member.ensures.wrote) c.flag_member.ensures.place.0
    (member_then (rw c.description.ensures at c.localized_member-2.ensures.wrote) c.localized_member-2.ensures.place.0
    (rw c.segments.ensures.value at c.pricing_member.ensures.wrote)))))))
    c.end_object.ensures.wrote
