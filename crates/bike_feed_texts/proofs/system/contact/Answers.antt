use Rattle.bike_feed_texts.proofs.Objects.{member_then, member_last}
use Rattle.bike_feed_texts.proofs.system.contact.Goals as goal

pub returns-clause-wrote : goal.returns-clause-wrote
returns-clause-wrote g c =
    member_then (rw c.name.ensures at c.localized_member.ensures.wrote) c.localized_member.ensures.place.0
    (member_then (rw (c.as_str.ensures.text, c.opening_hours.ensures) at c.text_member.ensures.wrote) c.text_member.ensures.place.0
    (member_then (rw (c.as_str-2.ensures.text, c.feed_contact_email.ensures) at c.text_member-2.ensures.wrote) c.text_member-2.ensures.place.0
    (member_last (rw (c.as_str-3.ensures.text, c.timezone.ensures) at c.text_member-3.ensures.wrote))))
