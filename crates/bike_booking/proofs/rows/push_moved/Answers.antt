use Rattle.std.proofs.Common.{◌≡◌, [], ◌∷◌, refl, sym, ap, ◌∙◌}
use Rattle.bike_accepted.specs.declared.movement.Movement.TheVariants as moved
use Rattle.bike_book.specs.declared.row_change.RowChange.{RowChange}
use Rattle.bike_book.specs.Writes.{write_of}
use Rattle.bike_booking.specs.Writes.{put_write, mark_write}
use Rattle.bike_booking.proofs.Added.{moved_added, two_added}
use Rattle.bike_booking.proofs.rows.push_moved.Goals.{in-None, in-Some}
use Rattle.bike_booking.proofs.rows.push_moved.Goals as goal

pub returns-in-Away-clause-added : goal.returns-in-Away-clause-added
returns-in-Away-clause-added c =
    let it = c.in-Away in
    moved_added c.args.now c.args.stored.now (moved.Away it.bike it.type_id it.was it.becomes) (c.bike_row.result ∷ []) c.args.rows.now.items c.add.new.rows.items c.args.moved.now it.is
    (ap (λ (r : RowChange). write_of r ∷ []) c.bike_row.ensures) c.add.ensures.items

pub returns-in-AtDock-clause-added : goal.returns-in-AtDock-clause-added
returns-in-AtDock-clause-added c =
    let it = c.in-AtDock in
    let n = c.args.stored.now in
    let now = c.args.now in
    two_added now n (moved.AtDock it.at it.bike it.type_id it.was it.becomes) c.bike_row-in-AtDock.result c.put_row-numbers.result c.args.rows.now.items c.add-in-AtDock.new.rows.items
    c.args.moved.now _ (put_write now n it.at it.type_id it.was it.becomes) it.is (ap write_of c.bike_row-in-AtDock.ensures) c.put_row-numbers.ensures refl c.add-in-AtDock.ensures.items

pub returns-in-AddDocks-clause-added : goal.returns-in-AddDocks-clause-added
returns-in-AddDocks-clause-added c =
    let it = c.in-AddDocks in
    moved_added c.args.now c.args.stored.now (moved.AddDocks it.station it.was it.count) (c.dock_count_row.result ∷ []) c.args.rows.now.items c.add-in-AddDocks.new.rows.items c.args.moved.now it.is
    (ap (λ (r : RowChange). write_of r ∷ []) c.dock_count_row.ensures) c.add-in-AddDocks.ensures.items

pub returns-after-held-clause-added : goal.returns-after-held-clause-added
returns-after-held-clause-added c =
    let it = c.in-Marked in
    let n = c.args.stored.now in
    let now = c.args.now in
    let numbers : write_of c.match-held.numbers ≡ mark_write now n it.at it.held it.is_broken = elim c.match-held.branch [
      | in-None w ↦ ap write_of w.numbers-is ∙ w.empty_mark_row-numbers.ensures ∙ ap (λ h. mark_write now n it.at h it.is_broken) (sym w.in-None.is)
      | in-Some w ↦ ap write_of w.numbers-is ∙ w.held_mark_row-numbers.ensures ∙ ap (λ h. mark_write now n it.at h it.is_broken) (sym w.in-Some.is)
    ] in
    two_added now n (moved.Marked it.at it.held it.is_broken) c.dock_row-mark.result c.match-held.numbers c.args.rows.now.items c.add-in-Marked.new.rows.items c.args.moved.now _ _ it.is
    (ap write_of c.dock_row-mark.ensures) numbers refl c.add-in-Marked.ensures.items
