-- The two ends of a request, at which the operator is sound.
use Rattle.std.specs.Prelude.{◌≡◌, ℕ, List, Some}
use Rattle.std.specs.FinMap as map
use Rattle.bike_operator.specs.Operator.{Operator, Station}
use Rattle.bike_operator.specs.Counts.{docks_available, docks_broken}
use Rattle.bike_operator.specs.Sound.{AreBikesSound}
use Rattle.bike_book.specs.declared.row_change.RowChange.{RowChange}
use Rattle.bike_book.specs.Stored.{Listed}
use Rattle.bike_book.specs.Leads.{LeadsTo}
use Rattle.bike_book.specs.Between.{Books}
use Rattle.bike_booking.specs.Facts.{HasDockTotals}

-- the stored numbers of a station's docks are those that its moves begin with
abbrev pub StoredDocksLaw : Type 0
StoredDocksLaw =
    (s : Operator) (station : List ℕ) (x : Station) → AreBikesSound s → map.get s.stations station ≡ Some x
    → HasDockTotals s station (record {
      free = docks_available s station x.row.docks;
      broken = docks_broken s station x.row.docks;
    })

-- row changes that book all changes of a request lead from the operator's own tables to those of the next
abbrev pub SoundEndsLaw : Type 0
SoundEndsLaw =
    (changes : List RowChange) (s n : Operator) (m w : Listed) → AreBikesSound s → AreBikesSound n
    → Books changes s m n w → LeadsTo changes s m n w
