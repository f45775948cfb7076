use Rattle.bike_feed_texts.proofs.Languages.{no_further_names}
use Rattle.bike_feed_texts.proofs.laws.further_name_laws.Goals as goal

pub returns : goal.returns
returns c = no_further_names
