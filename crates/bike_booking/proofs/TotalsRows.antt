-- Rows of stations and docks, where the numbers of one station change.
use Rattle.std.proofs.Common.{◌≡◌, ◌≢◌, ℕ, pos, List, [], ◌∷◌, Bool, true, false, Option, Some, refl, sym, ap, ap₂, ◌∙◌, subst}
use Rattle.std.specs.Prelude.{map, if◌then◌else◌}
use Rattle.std.specs.Ordering.{eq_by_cmp}
use Rattle.std.specs.declared.cmp.Ordering.{Ordering}
use Rattle.std.specs.Cmp.{IsTotalOrder, eq_by_cmp_equiv}
use Rattle.std.specs.FinMap as fin
use Rattle.std.specs.Borrow.{Bor}
use Rattle.sqlite_value.specs.declared.value.Value.TheVariants.{Int, Text}
use Rattle.bike_sql.specs.View.{put_row_by, rows_after_update, with_values}
use Rattle.bike_operator.specs.Operator.{Operator, Station, DockKey, text_cmp, texts_cmp, dock_key}
use Rattle.bike_operator.specs.Counts.{is_broken, available_of, docks_broken}
use Rattle.bike_operator.specs.Steps.{key_changed}
use Rattle.bike_laws.proofs.SingleSteps.MapLemmas.{text_order, texts_order, there_of}
use Rattle.bike_laws.proofs.SingleSteps.Moment.{reports}
use Rattle.bike_laws.specs.SingleSteps.Numbers.{disabled_of}
use Rattle.bike_book.specs.declared.by_type.TypeCounts.{TypeCounts}
use Rattle.bike_book.specs.declared.by_type.CountedType.{CountedType}
use Rattle.bike_book.specs.declared.row_change.RowChange.TheVariants as row
use Rattle.bike_book.specs.ByType.{types_at, by_type_text, with_counts, IsSameCount}
use Rattle.bike_book.specs.Tables.{Tables}
use Rattle.bike_book.specs.Rows.{truth, number_value, station_row, dock_row}
use Rattle.bike_book.specs.Stored.{Listed, IsListing, stored_dock}
use Rattle.bike_book.specs.Writes.{write_of, tables_after}
use Rattle.bike_book.specs.Between.{docks_left, counted_station}
use Rattle.bike_book.proofs.MapRows.{same_entries, put_entries, set_entries, changed_entries}
use Rattle.bike_book.proofs.Keys.{texts, docks, IsDockPair}
use Rattle.bike_book.proofs.FoundKeys.{dock_pair}
use Rattle.bike_book.proofs.TypeLaws.{types_same, type_changed}
use Rattle.bike_booking.specs.Facts.{DockTotals, HasDockTotals}
use Rattle.bike_booking.specs.AddedOrSet.{dock_change, with_dock}

-- ---- keys that differ

apart_keys : {K : Type 0} {R : K → K → Ordering} → IsTotalOrder R → (a b : K) → eq_by_cmp R a b ≡ false → a ≢ b
apart_keys {R = R} total a b apart same =
    let itself : eq_by_cmp R a a ≡ true = (eq_by_cmp_equiv total).refl a in
    let not : eq_by_cmp R a a ≡ false = ap (eq_by_cmp R a) same ∙ apart in
    absurd cc

apart_texts : (a b : List ℕ) → eq_by_cmp text_cmp a b ≡ false → b ≢ a
apart_texts a b apart same = apart_keys text_order.total a b apart (sym same)

apart_docks : (a b : List ℕ) (m n : ℕ) → eq_by_cmp texts_cmp (dock_key a m) (dock_key b n) ≡ false → b ≡ a → n ≢ m
apart_docks a b m n apart first second = apart_keys texts_order.total (dock_key a m) (dock_key b n) apart (ap₂ dock_key (sym first) (sym second))

-- ---- stations

-- these are the numbers of a station, with this row
abbrev pub HasTotalsAt : Operator → List ℕ → Station → DockTotals → Type 0
HasTotalsAt s station x d = (docks_left s station x.row.docks ≡ pos d.free) × (docks_broken s station x.row.docks ≡ d.broken)

pub totals_at : (s : Operator) (station : List ℕ) (d : DockTotals) → HasDockTotals s station d → (x : Station) → fin.get s.stations station ≡ Some x → HasTotalsAt s station x d
totals_at s station d has x found =
    let row : has.row ≡ x = (let same : ◌≡◌ {A = Option Station} (Some has.row) (Some x) = sym has.found ∙ found in cc) in
    subst (λ (z : Station). HasTotalsAt s station z d) row (has.free, has.broken)

module _ (s n : Operator) where
  -- a station has as many docks left and broken in both
  abbrev pub SameDocks : List ℕ → Type 0
  SameDocks station = (docks : ℕ) → (docks_left s station docks ≡ docks_left n station docks) × (docks_broken s station docks ≡ docks_broken n station docks)

  -- and the same bicycles by type
  abbrev pub SameTypes : List ℕ → Type 0
  SameTypes station = types_at n station ≡ types_at s station

  -- ---- bicycles by type

  -- as many bicycles of each type stand at each station in both, but of one type at one station
  abbrev pub SameBikesElsewhere : List ℕ → List ℕ → Type 0
  SameBikesElsewhere at type_id = (station kind : List ℕ) → (station ≡ at → kind ≢ type_id) → IsSameCount s n station kind

  module _ (at type_id : List ℕ) (others : SameBikesElsewhere at type_id) where
    pub types_elsewhere : (station : List ℕ) → station ≢ at → SameTypes station
    types_elsewhere station apart = types_same s n station (λ kind. others station kind (λ same. absurd (apart same)))

    -- the counts of that type are set there
    pub types_here : (o : TypeCounts) → available_of n at type_id ≡ o.available → disabled_of n at type_id ≡ o.disabled → types_at n at ≡ with_counts type_id o (types_at s at)
    types_here o available disabled =
        type_changed s n at type_id (λ other apart. others at other (λ same. apart))
        ∙ (λ i. with_counts type_id (record { available = available i; disabled = disabled i }) (types_at s at))

  -- ---- rows

  row_same : (station : List ℕ) (x : Station) → SameDocks station → SameTypes station → counted_station s (station, x) ≡ counted_station n (station, x)
  row_same station x same types = let e = same x.row.docks in λ i. station_row station x (e.0 i) (e.1 i) (by_type_text (sym types i))

  pub stations_same : ((station : List ℕ) → SameDocks station) → ((station : List ℕ) → SameTypes station)
      → map (counted_station s) (fin.entries s.stations) ≡ map (counted_station n) (fin.entries s.stations)
  stations_same same types = same_entries texts (counted_station s) (counted_station n) s.stations (λ q y there. row_same q y (same q) (types q))

  -- the numbers of one station are set, and it reports
  module _ (station : List ℕ) (e : DockTotals) (now : ℕ) (same : (other : List ℕ) → other ≢ station → SameDocks other) (types : (other : List ℕ) → other ≢ station → SameTypes other)
      (here : (x : Station) → fin.get s.stations station ≡ Some x → HasTotalsAt n station x e) where
    others : (q : List ℕ) (y : Station) → fin.get s.stations q ≡ Some y → Unit {0} × (eq_by_cmp text_cmp station q ≡ false → counted_station s (q, y) ≡ counted_station n (q, y))
    others q y there = (tt, λ apart. let other = apart_texts station q apart in row_same q y (same q other) (types q other))

    -- those of its docks
    pub docks_set : SameTypes station
        → rows_after_update 1 (Text station ∷ []) (with_values ((9, number_value e.free) ∷ (10, number_value e.broken) ∷ (8, number_value now) ∷ [])) (map (counted_station s) (fin.entries s.stations))
        ≡ map (counted_station n) (fin.entries (key_changed s.stations station (reports now)))
    docks_set stay =
        changed_entries texts (counted_station s) (counted_station n) (λ x. refl) (λ x. refl) s.stations station tt
        (with_values ((9, number_value e.free) ∷ (10, number_value e.broken) ∷ (8, number_value now) ∷ []))
        (reports now) (λ x found. let t = here x found in λ i. station_row station (reports now x) (sym t.0 i) (sym t.1 i) (by_type_text (sym stay i))) others

    -- and its bicycles by type
    pub types_set : (by_type : List CountedType) → types_at n station ≡ by_type
        → rows_after_update 1 (Text station ∷ []) (with_values ((9, number_value e.free) ∷ (10, number_value e.broken) ∷ (12, Text (by_type_text by_type)) ∷ (8, number_value now) ∷ []))
        (map (counted_station s) (fin.entries s.stations))
        ≡ map (counted_station n) (fin.entries (key_changed s.stations station (reports now)))
    types_set by_type are =
        changed_entries texts (counted_station s) (counted_station n) (λ x. refl) (λ x. refl) s.stations station tt
        (with_values ((9, number_value e.free) ∷ (10, number_value e.broken) ∷ (12, Text (by_type_text by_type)) ∷ (8, number_value now) ∷ []))
        (reports now) (λ x found. let t = here x found in λ i. station_row station (reports now x) (sym t.0 i) (sym t.1 i) (by_type_text (sym are i))) others

-- ---- docks

-- one dock's mark is set, or added where it isn't listed
pub dock_written : (s n : Operator) (m : Listed) → IsListing s m → (station : Bor (List ℕ)) (dock : ℕ) (broken : Bool)
    → ((other : List ℕ) (d : ℕ) → (other ≡ station.now → d ≢ dock) → is_broken s other d ≡ is_broken n other d) → is_broken n station.now dock ≡ broken
    → (t : Tables) → t.docks ≡ map (stored_dock s.broken) (fin.entries m.docks)
    → tables_after (write_of (dock_change m station dock broken)) t ≡ record t { docks = map (stored_dock n.broken) (fin.entries (with_dock station.now dock m).docks) }
dock_written s n m listing station dock broken others here t is = go (fin.contains_key m.docks (dock_key station.now dock)) refl where
  good : IsDockPair (dock_key station.now dock)
  good = record { station = station.now; dock = dock; is = refl }

  new_row : dock_row station.now dock broken ≡ stored_dock n.broken (dock_key station.now dock, tt)
  new_row = ap (dock_row station.now dock) (sym here)

  each : (q : DockKey) (y : Unit {0}) → fin.get m.docks q ≡ Some y → IsDockPair q
      × (eq_by_cmp texts_cmp (dock_key station.now dock) q ≡ false → stored_dock s.broken (q, y) ≡ stored_dock n.broken (q, y))
  each q y found =
      let p = dock_pair s m listing q y found in (
        p,
        λ apart.
            let differ : eq_by_cmp texts_cmp (dock_key station.now dock) (dock_key p.station p.dock) ≡ false = ap (eq_by_cmp texts_cmp (dock_key station.now dock)) (sym p.is) ∙ apart in
            rw p.is (ap (dock_row p.station p.dock) (others p.station p.dock (apart_docks station.now p.station dock p.dock differ))),
      )

  go : (b : Bool) → fin.contains_key m.docks (dock_key station.now dock) ≡ b
      → tables_after (write_of (if b then row.SetDock station dock broken else row.AddDock station dock broken)) t
      ≡ record t { docks = map (stored_dock n.broken) (fin.entries (fin.insert m.docks (dock_key station.now dock) tt)) }
  go true there =
      let set : rows_after_update 2 (Text station.now ∷ number_value dock ∷ []) (with_values ((2, Int (truth broken)) ∷ [])) t.docks ≡ map (stored_dock n.broken) (fin.entries (fin.insert m.docks (dock_key station.now dock) tt)) =
      ap (rows_after_update 2 (Text station.now ∷ number_value dock ∷ []) (with_values ((2, Int (truth broken)) ∷ []))) is
      ∙ set_entries docks (stored_dock s.broken) (stored_dock n.broken) (λ x. refl) (λ x. refl) m.docks (dock_key station.now dock) good (with_values ((2, Int (truth broken)) ∷ []))
      tt tt (there_of (fin.get m.docks (dock_key station.now dock)) there).1 new_row each in
      λ i. record t { docks = set i }
  go false none =
      let added : put_row_by 2 (dock_row station.now dock broken) t.docks ≡ map (stored_dock n.broken) (fin.entries (fin.insert m.docks (dock_key station.now dock) tt)) =
      ap₂ (put_row_by 2) new_row is ∙ put_entries docks (stored_dock s.broken) (stored_dock n.broken) (λ x. refl) (λ x. refl) m.docks (dock_key station.now dock) tt good each in
      λ i. record t { docks = added i }
