-- A dock marked as broken or as working, as the rows that are written of it.
use Rattle.std.proofs.Common.{◌≡◌, ℕ, List, [], ◌∷◌, Bool, refl, sym, ap, ap₂, ◌∙◌}
use Rattle.std.specs.Prelude.{map}
use Rattle.std.specs.FinMap as fin
use Rattle.std.specs.Borrow.{Bor}
use Rattle.bike_operator.specs.declared.records.Bike.{Bike}
use Rattle.bike_operator.specs.Operator.{Operator, dock_key}
use Rattle.bike_operator.specs.Steps.{dock_marked, with_report}
use Rattle.bike_operator.specs.Sound.{HasDock, AreBikesSound}
use Rattle.bike_laws.proofs.SingleSteps.CatalogueLemmas.{same_docks}
use Rattle.bike_laws.proofs.SingleSteps.MarkLaw.{marked_here, marked_other}
use Rattle.bike_book.specs.declared.by_type.TypeCounts.{TypeCounts}
use Rattle.bike_book.specs.declared.by_type.CountedType.{CountedType}
use Rattle.bike_book.specs.ByType.{types_at, with_counts}
use Rattle.bike_book.specs.Tables.{Tables}
use Rattle.bike_book.specs.Stored.{Listed, IsListing, stored_dock}
use Rattle.bike_book.specs.Writes.{write_of, tables_after}
use Rattle.bike_book.specs.Between.{tables_between, Leads, Books}
use Rattle.bike_book.proofs.TypeLaws.{types_same}
use Rattle.bike_booking.specs.Facts.{DockTotals}
use Rattle.bike_booking.specs.AddedOrSet.{dock_change, with_dock}
use Rattle.bike_booking.specs.PutLaws.{docks_reported}
use Rattle.bike_booking.specs.Writes.{bikes_write}
use Rattle.bike_booking.proofs.ReportBooks.{report_listed}
use Rattle.bike_booking.proofs.NumbersMove.{IsMarkedEmpty, IsMarkedHeld}
use Rattle.bike_booking.proofs.TotalsRows.{SameTypes, docks_set, types_set, types_elsewhere, types_here, dock_written}
use Rattle.bike_booking.proofs.Listed.{listing_marked}
use Rattle.bike_booking.proofs.DockMarks.{has_marked, marks_elsewhere, empty_bikes, empty_elsewhere, empty_here, held_bikes, held_elsewhere, held_here, held_available, held_disabled}

module _ (s : Operator) (m : Listed) (listing : IsListing s m) (sound : AreBikesSound s) (station : Bor (List ℕ)) (dock : ℕ) (mark : Bool) where
  abbrev next : Operator
  next = dock_marked station.now dock mark s

  abbrev w : Listed
  w = with_dock station.now dock m

  listed : HasDock s station.now dock → IsListing next w
  listed = listing_marked s next m station.now dock listing (marks_elsewhere s.broken (dock_key station.now dock) mark) (same_docks s next refl) refl refl

  -- the tables with the dock's row
  abbrev with_mark : Tables
  with_mark = record (tables_between s m) { docks = map (stored_dock next.broken) (fin.entries w.docks) }

  mark_written : tables_after (write_of (dock_change m station dock mark)) (tables_between s m) ≡ with_mark
  mark_written =
      let marked = has_marked s station.now dock mark in
      dock_written s next m listing station dock mark (λ other d apart. sym (marked_other s next station.now dock mark marked other d apart)) (marked_here s next station.now dock mark marked)
      (tables_between s m) refl

  pub empty_books : (now : ℕ) (d e : DockTotals) → IsMarkedEmpty s station.now dock mark d e
      → Books (dock_change m station dock mark ∷ docks_reported now station e ∷ []) s m (with_report station.now now next) w
  empty_books now d e h =
      let types : (other : List ℕ) → SameTypes s next other = λ other. types_same s next other (empty_bikes s station.now dock mark sound h.empty other) in
      let stations = docks_set s next station.now e now (empty_elsewhere s station.now dock mark sound h.empty) (λ other apart. types other) (empty_here sound h) (types station.now) in
      record {
        leads = ap (tables_after (write_of (docks_reported now station e))) mark_written ∙ (λ i. record with_mark { stations = stations i });
        listing = report_listed next w now station.now (listed h.has);
      }

  pub held_books : (now : ℕ) (type_id : List ℕ) (by_type : List CountedType) (bike : ℕ) (b : Bike) (d e : DockTotals) (n o : TypeCounts) → type_id ≡ b.type_id → by_type ≡ types_at s station.now
      → IsMarkedHeld s station.now dock mark bike b d e n o
      → Leads (write_of (dock_change m station dock mark) ∷ bikes_write now station.now e (with_counts type_id o by_type) ∷ []) s m (with_report station.now now next) w
  held_books now type_id by_type bike b d e n o type_is types_are h =
      let others = held_bikes s station.now dock mark bike b sound h.held in
      let here = types_here s next station.now b.type_id others o (held_available sound h) (held_disabled sound h) ∙ ap₂ (λ t by. with_counts t o by) (sym type_is) (sym types_are) in
      let stations = types_set s next station.now e now (held_elsewhere s station.now dock mark bike b sound h.held) (types_elsewhere s next station.now b.type_id others) (held_here sound h)
      (with_counts type_id o by_type) here in
      record {
        leads = ap (tables_after (bikes_write now station.now e (with_counts type_id o by_type))) mark_written ∙ (λ i. record with_mark { stations = stations i });
        listing = report_listed next w now station.now (listed h.has);
      }
