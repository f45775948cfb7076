use Rattle.bike_feed_texts.proofs.Arrays.{array_then}
use Rattle.bike_feed_texts.proofs.Objects.{name_value}
use Rattle.bike_feed_texts.proofs.members.localized_member.Goals as goal

pub returns-clause-wrote : goal.returns-clause-wrote
returns-clause-wrote g c =
    name_value c.member.ensures.wrote c.member.ensures.place.0
    (array_then c.begin_array.ensures.wrote (rw c.language-own.ensures at c.write_translations.ensures.wrote) c.end_array.ensures.wrote)
