-- The account of a station: which of its docks are broken, which hold a bicycle, and its bicycles by type.
use Rattle.std.specs.Prelude.{ℕ, ℤ, pos, List, [], ◌∷◌, Bool, false, not, ◌&&◌, ◌==◌, if◌then◌else◌, replicate}
use Rattle.std.specs.Prelude.{Option, Some, None, option_map}
use Rattle.std.specs.Ordering.{int_eq}
use Rattle.std.specs.Str.{bytes_eq}
use Rattle.sqlite_value.specs.declared.value.Value.{Value}
use Rattle.sqlite_value.specs.declared.value.Value.TheVariants.{Int, Text}
use Rattle.sqlite_value.specs.Order.{Row, column}
use Rattle.bike_book.specs.declared.columns.stations.TheConstants as stations
use Rattle.bike_book.specs.declared.columns.docks.TheConstants as docks
use Rattle.bike_book.specs.declared.columns.bikes.TheConstants as bikes
use Rattle.bike_book.specs.declared.by_type.CountedType.{CountedType}
use Rattle.bike_operator.specs.Operator.{Station}
use Rattle.bike_readings.specs.Readings.{dock_read, station_read}
use Rattle.bike_judges.specs.Lines.{part}
use Rattle.bike_judges.specs.declared.pass.Opening.{Opening}
use Rattle.bike_judges.specs.declared.pass.Opening.TheVariants.{Head, Unread, Item}
use Rattle.bike_station_rules.specs.DockSets.{has_bit, with_bit, many_in, many_in_neither}
use Rattle.bike_station_rules.specs.Docked.{Docked, docked_in}
use Rattle.bike_station_rules.specs.Types.{with_one, is_told}
use Rattle.bike_station_rules.specs.declared.account.StationAccount.{StationAccount}
use Rattle.bike_station_rules.specs.declared.dock_set.TheConstants.{PLACES}

-- ---- lines

-- the two are one text
abbrev pub is_same_text : Value → Value → Bool
is_same_text (Text a) (Text b) = bytes_eq a b
is_same_text _ _ = false

-- the place of a table
abbrev pub is_place : ℕ → Value → Bool
is_place place (Int n) = int_eq n (pos place)
is_place place _ = false

abbrev pub broken_dock : Option (List ℕ × ℕ × Bool) → Option ℕ
broken_dock None = None
broken_dock (Some d) = if d.2 then Some d.1 else None

-- the dock that a line says is broken, the bicycle that it says is in a dock, and that dock
abbrev pub broken_at : Row → Option ℕ
broken_at line = if is_place 1 (column line 1) then broken_dock (dock_read (part 3 docks.COLUMNS line)) else None

abbrev pub docked_at : Row → Option Docked
docked_at line = if is_place 2 (column line 1) then docked_in (part 3 bikes.COLUMNS line) else None

abbrev pub taken_at : Row → Option ℕ
taken_at line = option_map (λ b. b.dock) (docked_at line)

-- ---- accounts

abbrev pub station_opening : Row → Option (List ℕ × Station × ℤ × ℕ × List ℕ) → Opening StationAccount
station_opening line None = Unread
station_opening line (Some e) =
    Head (record {
      head = line;
      docks = e.1.row.docks;
      free = e.2;
      broken = e.3;
      is_broken = replicate PLACES false;
      is_taken = replicate PLACES false;
      by_type = record { text = e.4; types = [] };
    })

abbrev pub begins : Row → Opening StationAccount
begins line =
    if is_place 0 (column line 1) then station_opening line (station_read (part 3 stations.COLUMNS line)) else Item

abbrev pub owner : StationAccount → Value
owner a = column a.head 0

-- what a line says, where it is of this owner
abbrev pub of_owner : {A : Type 0} → Value → Row → Option A → Option A
of_owner station line said = if is_same_text (column line 0) station then said else None

-- the types with the bicycle, where these docks are broken
abbrev pub with_docked : List Bool → Option Docked → List CountedType → List CountedType
with_docked broken None cs = cs
with_docked broken (Some b) cs = with_one b.type_id (b.is_fit && not (has_bit broken b.dock)) cs

-- the lines of broken docks come before those of bicycles
abbrev pub more : StationAccount → Row → StationAccount
more a line = record a {
  is_broken = with_bit (of_owner (owner a) line (broken_at line)) a.is_broken;
  is_taken = with_bit (of_owner (owner a) line (taken_at line)) a.is_taken;
  by_type = record (a.by_type) {
    types = with_docked a.is_broken (of_owner (owner a) line (docked_at line)) a.by_type.types;
  };
}

-- the numbers that are stored are those of its docks, and the text is that of its bicycles by type
abbrev pub good : ℕ → StationAccount → Bool
good before a =
    int_eq a.free (pos (many_in_neither a.is_taken a.is_broken a.docks))
    && ((a.broken == many_in a.is_broken a.docks) && is_told a.by_type)

abbrev pub key : StationAccount → Row
key a = owner a ∷ []
