use Rattle.bike_feed_texts.proofs.Names.{feed_sound, feed_full}
use Rattle.bike_feed_texts.proofs.laws.feed_name_laws.Goals as goal

pub returns : goal.returns
returns c = record { sound = feed_sound; full = feed_full }
