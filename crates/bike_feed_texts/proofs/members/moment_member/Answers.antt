use Rattle.bike_feed_texts.proofs.members.moment_member.Goals as goal

pub returns-clause-wrote : goal.returns-clause-wrote
returns-clause-wrote g c = rw (c.as_str.ensures.value, c.text-text.ensures) at c.text_member.ensures.wrote
