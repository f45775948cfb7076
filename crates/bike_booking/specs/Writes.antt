-- What an accepted command writes, as a table.
use Rattle.std.specs.Prelude.{◌≡◌, ◌+◌, ◌++◌, ℕ, ℤ, List, [], ◌∷◌, Bool, Option, Some, None, if◌then◌else◌}
use Rattle.std.specs.Borrow.{Bor}
use Rattle.sqlite_value.specs.declared.value.Value.TheVariants.{Text}
use Rattle.bike_book.specs.declared.by_type.CountedType.{CountedType}
use Rattle.bike_book.specs.declared.row_change.RowChange.{RowChange}
use Rattle.bike_book.specs.declared.row_change.RowChange.TheVariants as row
use Rattle.bike_book.specs.ByType.{with_counts, by_type_text}
use Rattle.bike_book.specs.Tables.{Stations, Entries}
use Rattle.bike_book.specs.Rows.{number_value, entry_row}
use Rattle.bike_book.specs.Writes.{RowWrite, Add, Set, write_of, writes_of}
use Rattle.bike_book.specs.ChangeLaws.{change_writes}
use Rattle.bike_accepted.specs.declared.movement.BikeStatus.{BikeStatus}
use Rattle.bike_accepted.specs.declared.movement.DockAt.{DockAt}
use Rattle.bike_accepted.specs.declared.movement.DockOccupant.{DockOccupant}
use Rattle.bike_accepted.specs.declared.movement.Movement.{Movement}
use Rattle.bike_accepted.specs.declared.movement.Movement.TheVariants as moved
use Rattle.bike_accepted.specs.declared.change.Change.{Change}
use Rattle.bike_accepted.specs.declared.accepted.BookedEntry.{BookedEntry}
use Rattle.bike_accepted.specs.declared.accepted.Accepted.{Accepted}
use Rattle.bike_accepted.specs.Effects.{bike_in}
use Rattle.bike_booking.specs.Facts.{DockTotals}
use Rattle.bike_booking.specs.Put.{Adds, adds_put, adds_marked, docks_by, bikes_by}
use Rattle.bike_booking.specs.Put.{docks_marked_empty, docks_marked_held}
use Rattle.bike_booking.specs.PutLaws.{docks_reported}
use Rattle.bike_booking.specs.Stored.{docks_in, counts_in}
use Rattle.bike_booking.specs.declared.stored.Stored.{Stored}
use Rattle.bike_booking.specs.declared.texts.KeptTexts.{KeptTexts}

-- ---- what is put or marked at a dock

-- a row that is added where there is none, and else set
abbrev pub dock_row : Bool → DockAt → Bool → RowChange
dock_row listed at broken =
    if listed then row.SetDock at.station at.dock broken else row.AddDock at.station at.dock broken

-- the row of a station that reports, with the numbers of its docks and its bicycles by type
abbrev pub bikes_write : ℕ → List ℕ → DockTotals → List CountedType → RowWrite
bikes_write now station d by_type =
    Set Stations (Text station ∷ [])
    ((9, number_value d.free) ∷ (10, number_value d.broken) ∷ (12, Text (by_type_text by_type))
    ∷ (8, number_value now) ∷ [])

-- its bicycles by type as stored, where one of this type added what it did, and adds what it does now
abbrev pub types_by : Stored → List ℕ → Adds → List CountedType
types_by n type_id a = with_counts type_id (bikes_by a (counts_in n.counts)) n.by_type.items

-- the row of the station, where a bicycle is put from, into or in a dock
abbrev pub put_write : ℕ → Stored → DockAt → Bor (List ℕ) → BikeStatus → BikeStatus → RowWrite
put_write now n at type_id was becomes =
    let a = adds_put at.is_broken (bike_in type_id was) becomes.state becomes.place in
    bikes_write now at.station.now (docks_by a (docks_in n.dock)) (types_by n type_id.now a)

-- and where a dock is marked, with or without a bicycle in it
abbrev pub mark_write : ℕ → Stored → DockAt → Option DockOccupant → Bool → RowWrite
mark_write now n at None broken =
    write_of (docks_reported now at.station (docks_marked_empty at.is_broken broken (docks_in n.dock)))
mark_write now n at (Some h) broken =
    bikes_write now at.station.now (docks_marked_held at.is_broken broken (docks_in n.dock))
    (types_by n h.type_id.now (adds_marked at.is_broken broken h.state))

-- THE TABLE: what is written of what is put or marked. The station of the dock reports.
abbrev pub moved_writes : ℕ → Stored → Movement → List RowWrite
moved_writes now n (moved.Away bike type_id was becomes) =
    write_of (row.SetBike bike becomes.state becomes.place) ∷ []
moved_writes now n (moved.AtDock at bike type_id was becomes) =
    write_of (row.SetBike bike becomes.state becomes.place) ∷ put_write now n at type_id was becomes ∷ []
moved_writes now n (moved.AddDocks station was count) =
    write_of (row.SetDockCount station (was.now + count.now) (n.dock.free + count.now)) ∷ []
moved_writes now n (moved.Marked at held broken) =
    write_of (dock_row n.dock.is_listed at broken) ∷ mark_write now n at held broken ∷ []

-- ---- an entry, and the close

-- the refunds of its rental, where they are told
abbrev pub refund_writes : ℕ → Option ℤ → List RowWrite
refund_writes rental None = []
refund_writes rental (Some refunded) = write_of (row.SetRefunded rental refunded) ∷ []

abbrev pub entry_writes : BookedEntry → List RowWrite
entry_writes b =
    Add Entries (entry_row b.entry.number b.entry) ∷ write_of (row.SetBalance b.entry.rider b.balance)
    ∷ refund_writes b.entry.rental b.refunded

-- the request's row of the history
abbrev pub close_rows : ℕ → ℕ → KeptTexts → List RowChange
close_rows now number texts =
    row.AddRequest number now texts.caller texts.key texts.command texts.reply ∷ []

-- ---- an acceptance

abbrev pub where_moved_writes : ℕ → Stored → Option Movement → List RowWrite
where_moved_writes now n None = []
where_moved_writes now n (Some m) = moved_writes now n m

abbrev pub where_changed_writes : Option Change → List RowWrite
where_changed_writes None = []
where_changed_writes (Some c) = change_writes c

abbrev pub where_booked_writes : Option BookedEntry → List RowWrite
where_booked_writes None = []
where_booked_writes (Some b) = entry_writes b

abbrev pub writes_of_accepted : ℕ → Stored → ℕ → KeptTexts → Accepted → List RowWrite
writes_of_accepted now n number texts a =
    where_moved_writes now n a.moved ++ where_changed_writes a.change ++ where_booked_writes a.entry
    ++ writes_of (close_rows now number texts)

-- these are written beside those before
abbrev pub AreAdded : List RowWrite → List RowChange → List RowChange → Type 0
AreAdded writes before after = writes_of after ≡ writes_of before ++ writes
