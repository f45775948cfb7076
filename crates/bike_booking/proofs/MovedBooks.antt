-- What is put or marked at a dock, as the rows that are written of it.
use Rattle.std.proofs.Common.{◌≡◌, ◌+◌, ℕ, pos, [], ◌∷◌, Bool, Some, None, refl, sym, ap, ◌∙◌, subst}
use Rattle.std.specs.Prelude.{if◌then◌else◌}
use Rattle.std.specs.FinMap as fin
use Rattle.bike_operator.specs.declared.records.Bike.{Bike}
use Rattle.bike_operator.specs.Operator.{Operator, dock_key}
use Rattle.bike_operator.specs.Changes.{place_of}
use Rattle.bike_operator.specs.Sound.{AreBikesSound, IsCatalogueSound}
use Rattle.bike_book.specs.declared.row_change.RowChange.{RowChange}
use Rattle.bike_book.specs.declared.row_change.RowChange.TheVariants as row
use Rattle.bike_book.specs.Stored.{Listed, IsListing}
use Rattle.bike_book.specs.Writes.{write_of}
use Rattle.bike_book.specs.Between.{Leads, Books}
use Rattle.bike_booking.specs.Facts.{HasDockTotals, HasBikeTotals}
use Rattle.bike_booking.specs.AddedOrSet.{dock_change, with_dock}
use Rattle.bike_booking.specs.Put.{IsDockAt, IsPutAtDock, adds_marked, bikes_by, docks_marked_held}
use Rattle.bike_booking.proofs.Ends.{left_is}
use Rattle.bike_booking.proofs.PutBooks.{put_away, put}
use Rattle.bike_booking.proofs.AddedDocks.{add_docks}
use Rattle.bike_booking.proofs.MarkBooks.{held_books}
use Rattle.bike_booking.proofs.MarkedBooks.{marked_empty, is_held}
use Rattle.bike_accepted.specs.declared.movement.DockAt.{DockAt}
use Rattle.bike_accepted.specs.declared.movement.Movement.{Movement}
use Rattle.bike_accepted.specs.declared.movement.Movement.TheVariants as moved
use Rattle.bike_accepted.specs.Effects.{bike_in, after_moved}
use Rattle.bike_accepted.specs.Found.{IsDockFound, held_bike, IsMovedFound}
use Rattle.bike_booking.specs.declared.stored.Stored.{Stored}
use Rattle.bike_booking.specs.Stored.{docks_in, counts_in, IsDockStored, AreCountsStored, IsMovedStored}
use Rattle.bike_booking.specs.Writes.{dock_row, mark_write, moved_writes}

-- a row that is added where there is none, and else set
dock_is_row : (m : Listed) (at : DockAt) (listed broken : Bool) → listed ≡ fin.contains_key m.docks (dock_key at.station.now at.dock)
    → dock_change m at.station at.dock broken ≡ dock_row listed at broken
dock_is_row m at listed broken has = ap (λ (b : Bool). if b then row.SetDock at.station at.dock broken else row.AddDock at.station at.dock broken) (sym has)

module _ (s : Operator) (m : Listed) (now : ℕ) (n : Stored) (catalogue : IsCatalogueSound s) (sound : AreBikesSound s) (listing : IsListing s m) where
  -- ---- the stored numbers are those that the rows start from

  docks_of : (at : DockAt) → IsDockFound s at → IsDockStored s m at.station.now n.dock → HasDockTotals s at.station.now (docks_in n.dock)
  docks_of at found stored = record {
    row = found.has.row;
    found = found.has.found;
    free = left_is s sound at.station.now found.has.row found.has.found ∙ ap (λ (k : ℕ). pos k) (sym (stored.free found.has.row found.has.found));
    broken = sym (stored.broken found.has.row found.has.found);
  }

  bikes_of : (at : DockAt) (b : Bike) → AreCountsStored s m at b.type_id n.counts → HasBikeTotals s at.station.now b.type_id (counts_in n.counts)
  bikes_of at b stored = record { available = sym stored.available; disabled = sym stored.disabled }

  dock_at : (at : DockAt) → IsDockFound s at → IsDockAt s at.station.now at.dock at.is_broken
  dock_at at found = record { has = found.has; mark = found.mark }

  -- ---- the law

  pub books_moved : (mo : Movement) → IsMovedFound s mo → IsMovedStored s m n mo → (w : Listed) × Leads (moved_writes now n mo) s m (after_moved now mo s) w
  books_moved (moved.Away bike type_id was becomes) found stored = (m, put_away s m now listing bike (bike_in type_id was) becomes.state becomes.place found.found found.from_away found.to_away)
  books_moved (moved.AtDock at bike type_id was becomes) found stored =
      let b = bike_in type_id was in
      let h : IsPutAtDock s at.station.now at.dock at.is_broken bike b (place_of becomes.place) =
      record { found = found.found; at = dock_at at found.dock; from_is = found.from_is; to_is = found.to_is; free = found.free } in (
        m,
        put s m listing bike b becomes.state becomes.place at.station.now type_id.now at.dock at.is_broken (docks_in n.dock) n.by_type.items (counts_in n.counts) sound refl h
            (docks_of at found.dock stored.0) stored.1 (bikes_of at b stored.2) now,
      )
  books_moved (moved.AddDocks station was count) found stored =
      let d = docks_in n.dock in
      let free = left_is s sound station.now found.row found.found ∙ ap (λ (k : ℕ). pos k) (sym (stored.free found.row found.found)) in (
        m,
        subst (λ (docks : ℕ). Books (row.SetDockCount station (docks + count.now) (d.free + count.now) ∷ []) s m (after_moved now (moved.AddDocks station was count) s) m) found.docks_are
            (add_docks s m listing station found.row count.now d catalogue found.found free),
      )
  books_moved (moved.Marked at None broken) found stored =
      let w = with_dock at.station.now at.dock m in (
        w,
        subst (λ (c : RowChange). Leads (write_of c ∷ mark_write now n at None broken ∷ []) s m (after_moved now (moved.Marked at None broken) s) w) (dock_is_row m at n.dock.is_listed broken stored.1)
            (marked_empty s m now listing at.station at.dock at.is_broken broken (docks_in n.dock) sound (dock_at at found.dock) found.held_is (docks_of at found.dock stored.0)),
      )
  books_moved (moved.Marked at (Some h) broken) found stored =
      let b = (held_bike at h).1 in
      let w = with_dock at.station.now at.dock m in
      let d = docks_in n.dock in
      let c = counts_in n.counts in
      let held = is_held s at.station.now at.dock at.is_broken broken d sound (dock_at at found.dock) (docks_of at found.dock stored.0) h.bike b c found.held_is (bikes_of at b stored.2.1) in (
        w,
        subst (λ (r : RowChange). Leads (write_of r ∷ mark_write now n at (Some h) broken ∷ []) s m (after_moved now (moved.Marked at (Some h) broken) s) w)
            (dock_is_row m at n.dock.is_listed broken stored.1)
            (held_books s m listing sound at.station at.dock broken now h.type_id.now n.by_type.items h.bike b d (docks_marked_held at.is_broken broken d) c
            (bikes_by (adds_marked at.is_broken broken h.state) c) refl stored.2.0 held),
      )
