use Rattle.bike_json.proofs.Series.{Wrote_then}
use Rattle.bike_feed_texts.proofs.frame.close_list.Goals as goal

pub returns-clause-wrote : goal.returns-clause-wrote
returns-clause-wrote g c = Wrote_then c.end_array.ensures.wrote (Wrote_then c.end_object.ensures.wrote c.end_object-2.ensures.wrote)
