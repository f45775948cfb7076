-- The stored numbers of a station: what is read before a bicycle is put or a dock is marked, and written after it.
use Rattle.std.specs.Prelude.{◌≡◌, ℕ, pos, List, Some}
use Rattle.std.specs.FinMap as map
use Rattle.bike_operator.specs.Operator.{Operator, Station}
use Rattle.bike_operator.specs.Counts.{available_of, docks_broken}
use Rattle.bike_laws.specs.SingleSteps.Numbers.{disabled_of}
use Rattle.bike_book.specs.declared.by_type.TypeCounts.{TypeCounts}
use Rattle.bike_book.specs.Between.{docks_left}

-- a station's docks that are available, and those that are broken
pub record DockTotals : Type 0 where
  pub free : ℕ
  pub broken : ℕ

-- the station is there, with these numbers between two changes
pub record HasDockTotals (s : Operator) (station : List ℕ) (d : DockTotals) : Type 0 where
  pub row : Station
  pub found : map.get s.stations station ≡ Some row
  pub free : docks_left s station row.row.docks ≡ pos d.free
  pub broken : docks_broken s station row.row.docks ≡ d.broken

-- the station has so many bicycles of the type that can be rented, and that can't
pub record HasBikeTotals (s : Operator) (station type_id : List ℕ) (n : TypeCounts) : Type 0 where
  pub available : available_of s station type_id ≡ n.available
  pub disabled : disabled_of s station type_id ≡ n.disabled
