use Rattle.bike_booking.proofs.Added.{change_added, segments_added, no_segments_added}
use Rattle.bike_booking.proofs.rows.push_change.Goals as goal

pub returns-in-AddPlan-clause-added : goal.returns-in-AddPlan-clause-added
returns-in-AddPlan-clause-added c = change_added c.args.change c.args.rows.now.items c.add.new.rows.items c.push_segments.new.rows.items c.add.ensures.items
    (segments_added c.args.change.now c.in-AddPlan.plan c.plan_id.result.now c.segments.result.now c.add.new.rows.items c.push_segments.new.rows.items c.in-AddPlan.is c.plan_id.ensures c.segments.ensures.value c.push_segments.ensures.added)

pub returns-in_default-clause-added : goal.returns-in_default-clause-added
returns-in_default-clause-added c = change_added c.args.change c.args.rows.now.items c.add.new.rows.items c.add.new.rows.items c.add.ensures.items
    (no_segments_added c.args.change.now c.add.new.rows.items c.in_default.not-AddPlan)
