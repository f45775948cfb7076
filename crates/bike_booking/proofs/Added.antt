-- Row changes that are added, by what they write.
use Rattle.std.proofs.Common.{◌≡◌, ℕ, ℤ, suc, ◌+◌, List, [], ◌∷◌, ◌++◌, append_assoc, append-nil, length, Option, Some, None, refl, sym, ap, ◌∙◌, subst, subst₂, arith}
use Rattle.std.specs.Borrow.{Bor}
use Rattle.bike_fields.specs.Values.{SegmentRow}
use Rattle.bike_catalogue.specs.Rows.{PlanRow}
use Rattle.bike_ledger.specs.Entries.{Entry}
use Rattle.bike_book.specs.declared.row_change.RowChange.{RowChange}
use Rattle.bike_book.specs.declared.row_change.RowChange.TheVariants as row
use Rattle.bike_book.specs.Tables.{Segments, Entries}
use Rattle.bike_book.specs.Rows.{segment_row, entry_row}
use Rattle.bike_book.specs.Writes.{RowWrite, Add, record_write, write_of, writes_of}
use Rattle.bike_book.specs.ChangeLaws.{segment_writes, segments_of, change_writes}
use Rattle.bike_accepted.specs.declared.movement.Movement.{Movement}
use Rattle.bike_accepted.specs.declared.change.Change.{Change}
use Rattle.bike_accepted.specs.declared.change.Change.TheVariants as change
use Rattle.bike_accepted.specs.declared.accepted.BookedEntry.{BookedEntry}
use Rattle.bike_booking.specs.declared.stored.Stored.{Stored}
use Rattle.bike_booking.specs.Writes.{moved_writes, refund_writes, entry_writes, where_moved_writes, where_changed_writes, where_booked_writes, AreAdded}

pub writes_both : (cs ds : List RowChange) → writes_of (cs ++ ds) ≡ writes_of cs ++ writes_of ds
writes_both [] ds = refl
writes_both (c ∷ cs) ds = ap (λ (ws : List RowWrite). write_of c ∷ ws) (writes_both cs ds)

-- these row changes
pub added_rows : (before rows after : List RowChange) → after ≡ before ++ rows → AreAdded (writes_of rows) before after
added_rows before rows after is = ap writes_of is ∙ writes_both before rows

-- those of what is put or marked
pub moved_added : (now : ℕ) (n : Stored) (mo : Movement) (rows before after : List RowChange) (made : Movement) → made ≡ mo → writes_of rows ≡ moved_writes now n mo → after ≡ before ++ rows
    → AreAdded (moved_writes now n made) before after
moved_added now n mo rows before after made is writes are =
    subst (λ (ws : List RowWrite). AreAdded ws before after) (writes ∙ ap (moved_writes now n) (sym is)) (added_rows before rows after are)

-- of two, each by what it writes
pub two_added : (now : ℕ) (n : Stored) (mo : Movement) (c d : RowChange) (before after : List RowChange) (made : Movement) (v w : RowWrite) → made ≡ mo → write_of c ≡ v → write_of d ≡ w
    → v ∷ w ∷ [] ≡ moved_writes now n mo → after ≡ before ++ c ∷ d ∷ [] → AreAdded (moved_writes now n made) before after
two_added now n mo c d before after made v w is one two both are =
    moved_added now n mo (c ∷ d ∷ []) before after made is ((λ i. one i ∷ two i ∷ []) ∙ both) are

-- and more of them
pub added_then : (ws vs : List RowWrite) (before middle after : List RowChange) → AreAdded ws before middle → AreAdded vs middle after → AreAdded (ws ++ vs) before after
added_then ws vs before middle after one two = two ∙ ap (λ (us : List RowWrite). us ++ vs) one ∙ append_assoc (writes_of before) ws vs

segment_last : (plan : List ℕ) (seq at : ℕ) (gs : List SegmentRow) (g : SegmentRow) → at ≡ seq + length gs
    → segment_writes plan seq (gs ++ g ∷ []) ≡ segment_writes plan seq gs ++ Add Segments (segment_row plan at g) ∷ []
segment_last plan seq at [] g is =
    let same : seq ≡ at = omega (arith, is) in ap (λ (n : ℕ). Add Segments (segment_row plan n g) ∷ []) same
segment_last plan seq at (h ∷ gs) g is =
    let next : at ≡ suc seq + length gs = omega (arith, is) in
    ap (λ (ws : List RowWrite). Add Segments (segment_row plan seq h) ∷ ws) (segment_last plan (suc seq) at gs g next)

-- one more segment
pub segment_more : (plan : List ℕ) (before more : List SegmentRow) (g : SegmentRow) (seq : ℕ) (r0 r1 r2 : List RowChange) (c : RowChange) → AreAdded (segment_writes plan 1 before) r0 r1
    → r2 ≡ r1 ++ c ∷ [] → write_of c ≡ Add Segments (segment_row plan seq g) → seq ≡ length before + 1 → more ≡ before ++ g ∷ [] → AreAdded (segment_writes plan 1 more) r0 r2
segment_more plan before more g seq r0 r1 r2 c added are write seq_is more_is =
    let at : seq ≡ 1 + length before = omega (arith, seq_is) in
    added_then (segment_writes plan 1 before) (write_of c ∷ []) r0 r1 r2 added (added_rows r1 (c ∷ []) r2 are)
    ∙ ap (λ (w : RowWrite). writes_of r0 ++ (segment_writes plan 1 before ++ w ∷ [])) write
    ∙ ap (λ (ws : List RowWrite). writes_of r0 ++ ws) (sym (segment_last plan 1 seq before g at) ∙ ap (segment_writes plan 1) (sym more_is))

-- ---- one record

-- its row, and the segments of a plan
pub change_added : (made : Bor Change) (r0 r1 r2 : List RowChange) → r1 ≡ r0 ++ row.Record made ∷ [] → AreAdded (segments_of made.now) r1 r2 → AreAdded (change_writes made.now) r0 r2
change_added made r0 r1 r2 are segments = added_then (record_write made.now ∷ []) (segments_of made.now) r0 r1 r2 (added_rows r0 (row.Record made ∷ []) r1 are) segments

pub none_added : (before after : List RowChange) → after ≡ before → AreAdded [] before after
none_added before after is = ap writes_of is ∙ sym (append-nil (writes_of before))

pub segments_added : (made : Change) (p : Bor PlanRow) (id : List ℕ) (gs : List SegmentRow) (before after : List RowChange) → made ≡ change.AddPlan p → id ≡ p.now.plan_id → gs ≡ p.now.segments
    → AreAdded (segment_writes id 1 gs) before after → AreAdded (segments_of made) before after
segments_added made p id gs before after is id_is gs_is added =
    subst (λ (c : Change). AreAdded (segments_of c) before after) (sym is) (subst₂ (λ (i : List ℕ) (g : List SegmentRow). AreAdded (segment_writes i 1 g) before after) id_is gs_is added)

no_segments : (made : Change) → ((p : Bor PlanRow) → made ≡ change.AddPlan p → ⊥) → segments_of made ≡ []
no_segments (change.AddPlan p) other = absurd (other p refl)
no_segments c other = refl

pub no_segments_added : (made : Change) (rows : List RowChange) → ((p : Bor PlanRow) → made ≡ change.AddPlan p → ⊥) → AreAdded (segments_of made) rows rows
no_segments_added made rows other = subst (λ (ws : List RowWrite). AreAdded ws rows rows) (sym (no_segments made other)) (none_added rows rows refl)

-- ---- an entry

module _ (b : BookedEntry) (e : Bor Entry) (rider : ℕ) (r0 r2 r3 : List RowChange) (entry_is : e.now ≡ b.entry) (rider_is : rider ≡ b.entry.rider)
    (two : r2 ≡ r0 ++ row.AddEntry e ∷ row.SetBalance rider b.balance ∷ []) where
  plain : AreAdded (Add Entries (entry_row b.entry.number b.entry) ∷ write_of (row.SetBalance b.entry.rider b.balance) ∷ []) r0 r2
  plain =
      subst₂ (λ (x : Entry) (r : ℕ). AreAdded (Add Entries (entry_row x.number x) ∷ write_of (row.SetBalance r b.balance) ∷ []) r0 r2) entry_is rider_is
      (added_rows r0 (row.AddEntry e ∷ row.SetBalance rider b.balance ∷ []) r2 two)

  pub refund_added : (rental : ℕ) (refunded : ℤ) → b.refunded ≡ Some refunded → rental ≡ b.entry.rental → r3 ≡ r2 ++ row.SetRefunded rental refunded ∷ [] → AreAdded (entry_writes b) r0 r3
  refund_added rental refunded some rental_is three =
      let last : AreAdded (refund_writes b.entry.rental b.refunded) r2 r3 =
      subst₂ (λ (o : Option ℤ) (n : ℕ). AreAdded (refund_writes n o) r2 r3) (sym some) rental_is (added_rows r2 (row.SetRefunded rental refunded ∷ []) r3 three) in
      added_then (Add Entries (entry_row b.entry.number b.entry) ∷ write_of (row.SetBalance b.entry.rider b.balance) ∷ []) (refund_writes b.entry.rental b.refunded) r0 r2 r3 plain last

  pub entry_added : b.refunded ≡ None → AreAdded (entry_writes b) r0 r2
  entry_added none =
      subst (λ (o : Option ℤ). AreAdded (Add Entries (entry_row b.entry.number b.entry) ∷ write_of (row.SetBalance b.entry.rider b.balance) ∷ refund_writes b.entry.rental o) r0 r2) (sym none) plain

-- ---- where there is something

module _ (before after : List RowChange) where
  pub where_moved : (now : ℕ) (n : Stored) (o : Option Movement) (m : Movement) → o ≡ Some m → AreAdded (moved_writes now n m) before after → AreAdded (where_moved_writes now n o) before after
  where_moved now n o m some are = subst (λ (z : Option Movement). AreAdded (where_moved_writes now n z) before after) (sym some) are

  pub not_moved : (now : ℕ) (n : Stored) (o : Option Movement) → o ≡ None → after ≡ before → AreAdded (where_moved_writes now n o) before after
  not_moved now n o none are = subst (λ (z : Option Movement). AreAdded (where_moved_writes now n z) before after) (sym none) (none_added before after are)

  pub where_changed : (o : Option Change) (c : Change) → o ≡ Some c → AreAdded (change_writes c) before after → AreAdded (where_changed_writes o) before after
  where_changed o c some are = subst (λ (z : Option Change). AreAdded (where_changed_writes z) before after) (sym some) are

  pub not_changed : (o : Option Change) → o ≡ None → after ≡ before → AreAdded (where_changed_writes o) before after
  not_changed o none are = subst (λ (z : Option Change). AreAdded (where_changed_writes z) before after) (sym none) (none_added before after are)

  pub where_booked : (o : Option BookedEntry) (b : BookedEntry) → o ≡ Some b → AreAdded (entry_writes b) before after → AreAdded (where_booked_writes o) before after
  where_booked o b some are = subst (λ (z : Option BookedEntry). AreAdded (where_booked_writes z) before after) (sym some) are

  pub not_booked : (o : Option BookedEntry) → o ≡ None → after ≡ before → AreAdded (where_booked_writes o) before after
  not_booked o none are = subst (λ (z : Option BookedEntry). AreAdded (where_booked_writes z) before after) (sym none) (none_added before after are)
