use Rattle.std.proofs.Common.{◌≡◌, ◌<◌, List, [], ◌∷◌, length, refl, arith}
use Rattle.std.specs.Prelude.{codes}
use Rattle.std.proofs.lemmas.Bool.Decides.{nat_tests}
use Rattle.bike_fields.specs.Values.{SegmentRow}
use Rattle.bike_json.specs.Rows.{items}
use Rattle.bike_json.specs.Tree.{array}
use Rattle.bike_feed_texts.specs.Elements.{segment_tree, pricing_members}
use Rattle.bike_feed_texts.proofs.Objects.{member_last}
use Rattle.bike_feed_texts.proofs.plan.pricing_member.Goals as goal

pricing_of_some : (segments : List SegmentRow) → 0 < length segments → pricing_members segments ≡ (codes "per_min_pricing", array (items segment_tree segments)) ∷ []
pricing_of_some [] some = absurd (omega arith)
pricing_of_some (g ∷ gs) some = refl

pub returns-then-not-is_empty-clause-wrote : goal.returns-then-not-is_empty-clause-wrote
returns-then-not-is_empty-clause-wrote g c =
    let some : 0 < length c.args.segments.now = grind (arith, nat_tests, c.is_empty.ensures, c.if-not-is_empty.true) in
    rw (pricing_of_some c.args.segments.now some) (member_last c.segments_member.ensures.wrote)
