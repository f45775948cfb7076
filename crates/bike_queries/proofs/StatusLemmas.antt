-- What is read of the rows of a page: its stations, with their counts or their further names beside.
use Rattle.std.proofs.Common.{◌≡◌, pos, ℕ, List, [], ◌∷◌, map, take, filter, true, false, not, Option, Some, None, refl, sym, ap, subst, ◌∙◌}
use Rattle.std.specs.List.{AllZip}
use Rattle.std.specs.Ordering.{is_lt, is_le}
use Rattle.std.specs.FinMap as fin
use Rattle.std.proofs.lemmas.List.{take-map}
use Rattle.sqlite_rules.specs.Lists.{Has}
use Rattle.sqlite_value.specs.Order.{Row}
use Rattle.bike_fields.specs.declared.name_kind.NameKind.TheVariants as named
use Rattle.bike_operator.specs.Names.{is_name_of}
use Rattle.bike_operator.specs.Operator.{Operator, Station, NameKey, text_cmp}
use Rattle.bike_operator.specs.Counts.{docks_available, docks_broken}
use Rattle.bike_operator.specs.Sound.{IsSound}
use Rattle.bike_book.specs.ByType.{CountsLaw, IdentsLaw, by_type_text, types_at}
use Rattle.bike_book.specs.Tables.{MoreNames}
use Rattle.bike_book.specs.Rows.{station_row}
use Rattle.bike_book.specs.Found.{rows_of}
use Rattle.bike_book.specs.Stored.{Listed, stored_station, stored_name}
use Rattle.bike_book.proofs.Keys.{texts}
use Rattle.bike_book.proofs.MapRows.{has_get}
use Rattle.bike_fleet_reads.specs.declared.stations.DockNumbers.{DockNumbers}
use Rattle.bike_fleet_reads.specs.declared.stations.StationNumbers.{StationNumbers}
use Rattle.bike_fleet_reads.specs.Fleet.{dock_numbers_of, numbers_pair}
use Rattle.bike_fleet_reads.specs.Holds.{HoldsDockNumbers, HoldsNumbers}
use Rattle.bike_queries.specs.After.{begins_from, start_after}
use Rattle.bike_office_reads.specs.ReadRows.{named_in, owned_name, is_name_within, IsOwnedName}
use Rattle.bike_office_reads.proofs.NameLemmas.{names_read}
use Rattle.bike_queries.specs.Pages.{page_after, AreApart, ArePage, AreStatuses, AreNamedStations, EndsWith, IsNamedStation, IsStationOf, IsStatusBy, IsStatusOf, id_of, own_rows}
use Rattle.bike_queries.specs.Pages.{ReadsCounted, ReadsInfo, ReadsNamed, ReadsUnnamed}
use Rattle.bike_queries.specs.declared.stations.NamedStation.{NamedStation}
use Rattle.bike_queries.specs.declared.status.CountedStation.{CountedStation}
use Rattle.bike_queries.specs.declared.status.StationStatus.{StationStatus}
use Rattle.bike_operator.specs.declared.station_info.StationInfo.{StationInfo}
use Rattle.bike_queries.proofs.AfterLaw.{rows_behind}
use Rattle.bike_queries.proofs.CountLemmas.{types_shown}
use Rattle.bike_queries.proofs.GroupLaw.{zipped}
use Rattle.bike_queries.proofs.PageLaw.{page_has, page_rises, read_apart, up_to_last, zipped_both, zipped_rows}
use Rattle.bike_queries.proofs.PageRows.{own_names}

-- ---- the rows of a page

-- the rows that are asked for are those of the page
page_rows : (s : Operator) (after : Option (List ℕ)) (start : List ℕ) → start ≡ start_after after
    → take 64 (filter (begins_from start) (map (stored_station s) (fin.entries s.stations))) ≡ map (stored_station s) (page_after after s.stations)
page_rows s after start is = ap (take 64) (rows_behind (stored_station s) (λ e. refl) after start is s.stations) ∙ take-map (stored_station s) 64 _

-- what was read of them
pub page_read : {X : Type 0} (reads : Row → X → Type 0) (s : Operator) (after : Option (List ℕ)) (start : List ℕ) → start ≡ start_after after → (xs : List X)
    → AllZip reads (take 64 (filter (begins_from start) (map (stored_station s) (fin.entries s.stations)))) xs → ArePage reads s after xs
page_read reads s after start is xs read =
    zipped_rows reads (λ e x. reads (stored_station s e) x) (stored_station s) (page_after after s.stations) xs (λ e x has it. it)
    (subst (λ (rows : List Row). AllZip reads rows xs) (page_rows s after start is) read)

-- ---- what stands in a row

docks_read : (s : Operator) (e : List ℕ × Station) (docks : DockNumbers) → HoldsDockNumbers (stored_station s e) docks → docks ≡ dock_numbers_of s e.0 e.1
docks_read s e docks holds =
    let free : docks.free ≡ docks_available s e.0 e.1.row.docks = cc in
    let broken : docks.broken ≡ docks_broken s e.0 e.1.row.docks = cc in
    λ i. record { free = free i; broken = broken i }

numbers_read : IdentsLaw → (s : Operator) → IsSound s → (e : List ℕ × Station) (numbers : StationNumbers) → HoldsNumbers (stored_station s e) numbers
    → numbers_pair numbers ≡ (dock_numbers_of s e.0 e.1, types_at s e.0)
numbers_read idents s sound e numbers holds =
    let docks = docks_read s e numbers.docks holds.docks in
    let types = holds.by_type (types_at s e.0) (idents s e.0 sound) refl in
    λ i. (docks i, types i)

station_read : (s : Operator) (e : List ℕ × Station) (info : StationInfo) → e.0 ≡ e.1.row.station_id → ReadsInfo (stored_station s e) info → IsStationOf e info
station_read s e info named reads =
    let free = pos (docks_available s e.0 e.1.row.docks) in
    let broken = docks_broken s e.0 e.1.row.docks in
    let text = by_type_text (types_at s e.0) in
    let same = reads e.1 (record { free = free; broken = broken; by_type = text; is = ap (λ (k : List ℕ). station_row k e.1 free broken text) named }) in
    (same, ap (λ (x : Station). x.row.station_id) same ∙ sym named)

module _ (s : Operator) (sound : IsSound s) (after : Option (List ℕ)) where
  abbrev page : List (List ℕ × Station)
  page = page_after after s.stations

  -- an entry of the page is the operator's, and isn't below the start
  in_page : (e : List ℕ × Station) → Has page e → Has (fin.entries s.stations) e × (not (is_lt (text_cmp e.0 (start_after after))) ≡ true)
  in_page e has = page_has s.stations after (start_after after) refl e has

  -- the station of an entry of the page, under its identifier
  station_here : (e : List ℕ × Station) (info : StationInfo) → Has page e → ReadsInfo (stored_station s e) info → IsStationOf e info
  station_here e info has = station_read s e info (sound.catalogue.stations e.0 e.1 (has_get texts.total s.stations e (in_page e has).0)).id_is

  -- ---- with their counts

  pub statuses_read : CountsLaw → IdentsLaw → (ids : List (List ℕ)) (stations : List CountedStation) (items : List StationStatus) → ArePage ReadsCounted s after stations
      → AllZip (IsStatusBy ids) stations items → AreStatuses s ids page items
  statuses_read counts idents ids stations items =
      zipped_both (λ e o. ReadsCounted (stored_station s e) o) (IsStatusBy ids) (IsStatusOf s ids) page stations items (λ e o x has reads told. (
        subst (IsStationOf e) (sym told.0) (station_here e o.info has reads.0),
        types_shown counts s e.0 e.1 ids x.counts o.numbers (numbers_read idents s sound e o.numbers reads.1) told.1,
      ))

  -- ---- with their further names

  -- no names are asked for
  pub unnamed_read : (stations : List NamedStation) → ArePage ReadsUnnamed s after stations → AreNamedStations false s page stations
  unnamed_read stations = zipped page stations (λ e x has reads. (station_here e x.info has reads.0, reads.1))

  named_so : (e : List ℕ × Station) (x : NamedStation) → IsNamedStation false s e x → id_of x ≡ e.0
  named_so e x it = it.0.1

  module _ (stations : List NamedStation) (are : AreNamedStations false s page stations) where
    pub page_apart : AreApart id_of stations
    page_apart = read_apart (IsNamedStation false s) id_of named_so page stations (page_rises after s.stations) are

    pub nothing_read : (items : List NamedStation) → EndsWith stations None → items ≡ [] → AreNamedStations true s page items
    nothing_read items ends empty =
        subst (AreNamedStations true s page) (sym empty) (go page (subst (AreNamedStations false s page) ends are))
      where
        go : (es : List (List ℕ × Station)) → AreNamedStations false s es [] → AreNamedStations true s es []
        go [] none = tt
        go (e ∷ es) none = none

    module _ (last : List ℕ) (ends : EndsWith stations (Some last)) where
      -- no station of the page comes after the last
      none_later : (e : List ℕ × Station) → Has page e → is_le (text_cmp e.0 last) ≡ true
      none_later e has =
          ap (λ (t : List ℕ). is_le (text_cmp e.0 t)) (sym ends.3)
          ∙ up_to_last (IsNamedStation false s) id_of named_so page stations ends.0 ends.1 ends.2 (page_rises after s.stations) are e has

      -- the names in a station's own rows
      its_names : (m : Listed) (rows : List Row) → rows ≡ map owned_name (filter (is_name_within named.Station (start_after after) last) (rows_of s m MoreNames))
          → (e : List ℕ × Station) → Has page e
          → own_rows e.0 rows ≡ map owned_name (map stored_name (filter (λ (n : NameKey × List ℕ). is_name_of named.Station e.0 n.0) (fin.entries s.more_names)))
      its_names m rows found e has = ap (own_rows e.0) found ∙ own_names (start_after after) last e.0 (in_page e has).1 (none_later e has) (fin.entries s.more_names)

      -- what is read of the rows of names are those names
      named_rows : (rows : List Row) (x : NamedStation) (ns : List (NameKey × List ℕ)) → rows ≡ map owned_name (map stored_name ns) → AllZip IsOwnedName rows x.names.items
          → x.names.items ≡ map named_in ns
      named_rows rows x ns are named = names_read ns x.names.items (subst (λ (rs : List Row). AllZip IsOwnedName rs x.names.items) are named)

      pub named_read : (m : Listed) (rows : List Row) (items : List NamedStation) → rows ≡ map owned_name (filter (is_name_within named.Station (start_after after) last) (rows_of s m MoreNames))
          → AllZip (λ o x. ReadsNamed o (own_rows (id_of o) rows) x) stations items → AreNamedStations true s page items
      named_read m rows items found read =
          zipped_both (IsNamedStation false s) (λ o x. ReadsNamed o (own_rows (id_of o) rows) x) (IsNamedStation true s) page stations items (λ e o x has it told. (
            subst (IsStationOf e) (sym told.0) it.0,
            named_rows (own_rows (id_of o) rows) x _ (ap (λ (id : List ℕ). own_rows id rows) it.0.1 ∙ its_names m rows found e has) told.1,
          )) are read
