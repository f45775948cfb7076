use Rattle.bike_feed_texts.proofs.system.write_language.Goals as goal

pub returns-clause-wrote : goal.returns-clause-wrote
returns-clause-wrote g c = record { are = rw c.as_str.ensures.text at c.text.ensures.wrote }
