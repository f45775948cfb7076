use Rattle.std.proofs.Common.{◌≡◌}
use Rattle.bike_json.specs.declared.level.Level.TheVariants.{FilledObject}
use Rattle.bike_feed_texts.proofs.Frames.{information_end_then}
use Rattle.bike_feed_texts.proofs.system.close_information.Goals as goal

pub returns-clause-wrote : goal.returns-clause-wrote
returns-clause-wrote g c =
    let top : c.end_array.new.self.top ≡ FilledObject = cc (c.end_array.ensures.place, c.requires.round) in
    information_end_then c.args.system.now c.args.names.now c.end_array.ensures.wrote top c.contact.ensures.wrote c.end_object.ensures.wrote c.end_object-2.ensures.wrote
