use Rattle.std.proofs.Common.{rules, w64, FitsSigned}
use Rattle.std.proofs.lemmas.Int.{to_z-of_z}
use Rattle.bike_feed_texts.proofs.Objects.{name_then}
use Rattle.bike_feed_texts.proofs.members.whole_member.Goals as goal

pub returns-clause-wrote : goal.returns-clause-wrote
returns-clause-wrote g c =
    let fits : FitsSigned w64 c.from.result = search rules in
    name_then c.member.ensures.wrote c.member.ensures.place.0 (rw (to_z-of_z w64 c.from.result fits, c.from.ensures) at c.whole.ensures.wrote)
