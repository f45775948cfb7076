-- A page of stations: the first ones of those that come next, each with its counts or with its further names.
use Rattle.std.specs.Prelude.{◌≡◌, ◌++◌, ℕ, List, [], ◌∷◌, Bool, false, take, filter, Option, Some, None, if◌then◌else◌}
use Rattle.std.specs.List.{AllZip}
use Rattle.std.specs.Ordering.{is_lt}
use Rattle.std.specs.Str.{bytes_eq}
use Rattle.std.specs.FinMap.{FinMap, entries}
use Rattle.sqlite_rules.specs.Lists.{Has}
use Rattle.sqlite_value.specs.declared.value.Value.{Value}
use Rattle.sqlite_value.specs.declared.value.Value.TheVariants.{Text}
use Rattle.sqlite_value.specs.Order.{Row, column}
use Rattle.bike_catalogue.specs.Rows.{MoreNameRow}
use Rattle.bike_fields.specs.declared.name_kind.NameKind.TheVariants as named
use Rattle.bike_operator.specs.Names.{further_names}
use Rattle.bike_operator.specs.Operator.{Operator, Station, text_cmp}
use Rattle.bike_book.specs.Stored.{stored_station}
use Rattle.bike_fleet_reads.specs.Holds.{HoldsNumbers}
use Rattle.bike_office_reads.specs.ReadRows.{IsOwnedName}
use Rattle.bike_feed_texts.specs.Trees.{further_languages}
use Rattle.bike_queries.specs.declared.pages.TheConstants.{STATIONS_A_PAGE}
use Rattle.bike_operator.specs.declared.station_info.StationInfo.{StationInfo}
use Rattle.bike_queries.specs.declared.stations.NamedStation.{NamedStation}
use Rattle.bike_queries.specs.declared.status.CountedStation.{CountedStation}
use Rattle.bike_queries.specs.declared.status.StationStatus.{StationStatus}
use Rattle.bike_queries.specs.After.{HoldsStation, station_of}
use Rattle.bike_queries.specs.StationCounts.{AreCountsOfTypes, AreCountsTold, AreRising}

-- ---- what comes next

-- the entries whose identifiers come after this one, or all of them
abbrev pub entries_after : {V : Type 0} → Option (List ℕ) → FinMap text_cmp V → List (List ℕ × V)
entries_after None m = entries m
entries_after (Some id) m = filter (λ e. is_lt (text_cmp id e.0)) (entries m)

-- THE PAGE: the first of them, as many as it holds
abbrev pub page_after : {V : Type 0} → Option (List ℕ) → FinMap text_cmp V → List (List ℕ × V)
page_after after m = take STATIONS_A_PAGE (entries_after after m)

-- the station of an entry, under its identifier
abbrev pub IsStationOf : List ℕ × Station → StationInfo → Type 0
IsStationOf e x = (station_of x ≡ e.1) × (x.station.station_id ≡ e.0)

-- with its counts, of its bicycles of the types with these identifiers
abbrev pub IsStatusOf : Operator → List (List ℕ) → List ℕ × Station → StationStatus → Type 0
IsStatusOf s type_ids e x = IsStationOf e x.info × AreCountsOfTypes s e.0 e.1 type_ids x.counts

abbrev pub AreStatuses : Operator → List (List ℕ) → List (List ℕ × Station) → List StationStatus → Type 0
AreStatuses s type_ids = AllZip (IsStatusOf s type_ids)

-- its further names where they are asked for, else none
abbrev pub names_asked : Bool → Operator → List ℕ → List MoreNameRow
names_asked translated s station = if translated then further_names s named.Station station else []

-- with the names that are asked for
abbrev pub IsNamedStation : Bool → Operator → List ℕ × Station → NamedStation → Type 0
IsNamedStation translated s e x = IsStationOf e x.info × (x.names.items ≡ names_asked translated s e.0)

abbrev pub AreNamedStations : Bool → Operator → List (List ℕ × Station) → List NamedStation → Type 0
AreNamedStations translated s = AllZip (IsNamedStation translated s)

-- whether there are names in further languages: where it is told that there are none, that is so
abbrev pub IsTold : Bool → Operator → Type 0
IsTold translated s = translated ≡ false → further_languages s ≡ []

-- ---- the stations of a page

-- its identifier
abbrev pub id_of : NamedStation → List ℕ
id_of x = x.info.station.station_id

-- the station that stands in the row
abbrev pub ReadsInfo : Row → StationInfo → Type 0
ReadsInfo row x = (y : Station) → HoldsStation row y → station_of x ≡ y

-- with no further name as yet
abbrev pub ReadsUnnamed : Row → NamedStation → Type 0
ReadsUnnamed row x = ReadsInfo row x.info × (x.names.items ≡ [])

-- with the numbers of its docks and its bicycles by type
abbrev pub ReadsCounted : Row → CountedStation → Type 0
ReadsCounted row x = ReadsInfo row x.info × HoldsNumbers row x.numbers

-- these were read of the rows of the page after this identifier
abbrev pub ArePage : {X : Type 0} → (Row → X → Type 0) → Operator → Option (List ℕ) → List X → Type 0
ArePage reads s after = AllZip (λ e x. reads (stored_station s e) x) (page_after after s.stations)

-- the identifier of the last, if there is one
abbrev pub EndsWith : List NamedStation → Option (List ℕ) → Type 0
EndsWith xs None = xs ≡ []
EndsWith xs (Some id) =
    (front : List NamedStation) × (last : NamedStation) × (xs ≡ front ++ last ∷ []) × (id_of last ≡ id)

-- ---- their own rows

-- one text twice
abbrev pub is_same_text : Value → Value → Bool
is_same_text (Text t) (Text u) = bytes_eq u t
is_same_text _ _ = false

-- the row begins with the identifier
abbrev pub is_own : List ℕ → Row → Bool
is_own id row = is_same_text (Text id) (column row 0)

abbrev pub own_rows : List ℕ → List Row → List Row
own_rows id = filter (is_own id)

-- no two of these have one identifier
abbrev pub AreApart : {X : Type 0} → (X → List ℕ) → List X → Type 0
AreApart id [] = Unit {0}
AreApart id (x ∷ xs) =
    ((y : _) → Has xs y → (bytes_eq (id x) (id y) ≡ false) × (bytes_eq (id y) (id x) ≡ false)) × AreApart id xs

-- ---- what is made of a station that was read

-- with its further names, by its own rows
abbrev pub ReadsNamed : NamedStation → List Row → NamedStation → Type 0
ReadsNamed station own x = (x.info ≡ station.info) × AllZip IsOwnedName own x.names.items

-- with its counts, of the types with these identifiers
abbrev pub IsStatusBy : List (List ℕ) → CountedStation → StationStatus → Type 0
IsStatusBy type_ids station x =
    (x.info ≡ station.info)
    × (AreRising station.numbers.by_type.items
    → AreCountsTold station.numbers.by_type.items station.numbers.docks type_ids x.counts)
