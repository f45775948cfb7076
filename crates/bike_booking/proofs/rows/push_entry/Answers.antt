use Rattle.std.proofs.Common.{refl, ◌∙◌}
use Rattle.bike_booking.proofs.Added.{refund_added, entry_added}
use Rattle.bike_booking.proofs.rows.push_entry.Goals as goal

pub returns-in-Some-clause-added : goal.returns-in-Some-clause-added
returns-in-Some-clause-added c = refund_added c.args.booked.now _ c.get.result c.args.rows.now.items c.add.new.rows.items c.add-in-Some.new.rows.items refl (c.get.ensures.value ∙ c.rider.ensures)
    c.add.ensures.items c.get-rental.result c.in-Some.refunded c.in-Some.is (c.get-rental.ensures.value ∙ c.rental.ensures) c.add-in-Some.ensures.items

pub returns-in_default-clause-added : goal.returns-in_default-clause-added
returns-in_default-clause-added c = entry_added c.args.booked.now _ c.get.result c.args.rows.now.items c.add.new.rows.items c.add.new.rows.items refl (c.get.ensures.value ∙ c.rider.ensures)
    c.add.ensures.items c.in_default.is
