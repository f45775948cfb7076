use Rattle.std.proofs.Common.{◌++◌, List, ap, ◌∙◌}
use Rattle.arrayvec.specs.ArrayVec.{ArrayVec}
use Rattle.bike_book.specs.declared.row_change.RowChange.{RowChange}
use Rattle.bike_book.specs.Writes.{writes_of}
use Rattle.bike_booking.specs.Writes.{where_moved_writes, where_changed_writes, where_booked_writes, close_rows, AreAdded}
use Rattle.bike_booking.proofs.Added.{added_rows, added_then, where_moved, not_moved, where_changed, not_changed, where_booked, not_booked}
use Rattle.bike_booking.proofs.rows.rows_of.Goals.{in-Some, in_default, in-Some-change, in_default-change, in-Some-entry, in_default-entry}
use Rattle.bike_booking.proofs.rows.rows_of.Goals as goal

items : ArrayVec RowChange → List RowChange
items r = r.items

pub returns : goal.returns
unfolding items
returns c =
    let a = c.args.accepted.now in
    let n = c.args.stored.now in
    let now = c.args.now in
    let r0 = c.new-rows.result.items in
    let r1 = c.match-accepted.rows.items in
    let r2 = c.match-accepted-2.rows.items in
    let r3 = c.match-accepted-3.rows.items in
    let moved : AreAdded (where_moved_writes now n a.moved) r0 r1 = elim c.match-accepted.branch [
      | in-Some w ↦ where_moved r0 r1 now n a.moved w.in-Some.moved w.in-Some.is (ap writes_of (ap items w.rows-is) ∙ w.push_moved.ensures.added)
      | in_default w ↦ not_moved r0 r1 now n a.moved w.in_default.is (ap items w.rows-is)
    ] in
    let changed : AreAdded (where_changed_writes a.change) r1 r2 = elim c.match-accepted-2.branch [
      | in-Some-change w ↦ where_changed r1 r2 a.change w.in-Some-change.change w.in-Some-change.is
          (ap writes_of (ap items w.rows-is) ∙ w.push_change.ensures.added)
      | in_default-change w ↦ not_changed r1 r2 a.change w.in_default-change.is (ap items w.rows-is)
    ] in
    let booked : AreAdded (where_booked_writes a.entry) r2 r3 = elim c.match-accepted-3.branch [
      | in-Some-entry w ↦ where_booked r2 r3 a.entry w.in-Some-entry.booked w.in-Some-entry.is
          (ap writes_of (ap items w.rows-is) ∙ w.push_entry.ensures.added)
      | in_default-entry w ↦ not_booked r2 r3 a.entry w.in_default-entry.is (ap items w.rows-is)
    ] in
    let close = close_rows now c.args.number c.args.texts.now in
    let closed : AreAdded (writes_of close) r3 c.push_close.new.rows.items = added_rows r3 close c.push_close.new.rows.items c.push_close.ensures in
    let ms = where_moved_writes now n a.moved in
    let cs = where_changed_writes a.change in
    let es = where_booked_writes a.entry in
    let all : AreAdded (ms ++ cs ++ es ++ writes_of close) r0 c.push_close.new.rows.items =
    added_then (ms ++ cs ++ es) (writes_of close) r0 r3 c.push_close.new.rows.items (added_then (ms ++ cs) es r0 r2 r3 (added_then ms cs r0 r1 r2 moved changed) booked) closed in
    all ∙ ap (λ rows. writes_of rows ++ (ms ++ cs ++ es ++ writes_of close)) c.new-rows.ensures
