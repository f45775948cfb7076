-- Docks that a station gets, as a row change.
use Rattle.std.proofs.Common.{◌≡◌, ◌+◌, ◌<◌, ℕ, zero, suc, ℤ, pos, List, [], ◌∷◌, Bool, true, false, Some, Option, refl, sym, ap, ap₂, ◌∙◌, subst, arith}
use Rattle.std.specs.FinMap as fin
use Rattle.std.proofs.lemmas.Int.{ints}
use Rattle.bike_sql.specs.View.{with_values}
use Rattle.bike_catalogue.specs.Rows.{more_docks}
use Rattle.bike_operator.specs.Operator.{Operator, Station, dock_key}
use Rattle.bike_operator.specs.Counts.{is_broken, docks_up_to, docks_broken}
use Rattle.bike_operator.specs.Sound.{IsCatalogueSound}
use Rattle.bike_laws.specs.SingleSteps.Laws.{one}
use Rattle.bike_laws.proofs.SingleSteps.CatalogueLemmas.{docks_changed}
use Rattle.bike_laws.proofs.SingleSteps.StoredCountLemmas.{count_last}
use Rattle.bike_book.specs.ByType.{types_at, by_type_text}
use Rattle.bike_book.specs.Rows.{number_value, station_row}
use Rattle.bike_book.specs.Between.{docks_left, counted_station, tables_between}
use Rattle.bike_book.specs.ChangeLaws.{Everywhere}
use Rattle.bike_book.proofs.MapRows.{changed_entries}
use Rattle.bike_book.proofs.Keys.{texts}
use Rattle.bike_book.proofs.ListingLemmas.{listing_same}
use Rattle.bike_booking.specs.PutLaws.{AddDocksLaw}

-- where no dock past the last is broken, there are no more broken ones with the docks past it
broken_up_to : (s : Operator) (station : List ℕ) (docks : ℕ) → ((n : ℕ) → docks < n → is_broken s station n ≡ false) → (count : ℕ)
    → docks_broken s station (count + docks) ≡ docks_broken s station docks
unfolding docks_up_to
broken_up_to s station docks works zero = let same : 0 + docks ≡ docks = omega arith in ap (docks_broken s station) same
broken_up_to s station docks works (suc count) =
    let same : suc count + docks ≡ suc (count + docks) = omega arith in
    let rest = broken_up_to s station docks works count in
    let last = count_last (λ n. is_broken s station n) (docks_up_to (count + docks)) (suc (count + docks)) in
    let none : one (is_broken s station (suc (count + docks))) ≡ 0 = ap one (works (suc (count + docks)) (omega arith)) in
    let more : docks_broken s station (suc (count + docks)) ≡ docks_broken s station docks = omega (arith, rest, last, none) in
    ap (docks_broken s station) same ∙ more

-- in a sound operator a broken dock is one that its station has
works_past : (s : Operator) → IsCatalogueSound s → (station : List ℕ) (row : Station) → fin.get s.stations station ≡ Some row → (n : ℕ) → row.row.docks < n → is_broken s station n ≡ false
works_past s sound station row found n past = go (is_broken s station n) refl where
  go : (b : Bool) → is_broken s station n ≡ b → b ≡ false
  go false is = refl
  go true is =
      let b = sound.broken (dock_key station n) is in
      let keys : dock_key station n ≡ dock_key b.station b.dock = b.key_is in
      let at : station ≡ b.station = cc in
      let dock : n ≡ b.dock = cc in
      let there : ◌≡◌ {A = Option Station} (Some b.has.row) (Some row) = sym b.has.found ∙ ap (fin.get s.stations) (sym at) ∙ found in
      let same : b.has.row ≡ row = cc in
      let docks = ap (λ (x : Station). x.row.docks) same in
      let high = b.has.high in
      absurd (omega (arith, past, dock, docks, high))

pub add_docks : Everywhere AddDocksLaw
add_docks s m listing station row count d sound found free =
    let stations =
    changed_entries texts (counted_station s) (counted_station s) (λ e. refl) (λ e. refl) s.stations station.now tt
    (with_values ((4, number_value (row.row.docks + count)) ∷ (9, number_value (d.free + count)) ∷ [])) f
    (λ v there. set v (let both : ◌≡◌ {A = Option Station} (Some row) (Some v) = sym found ∙ there in cc)) (λ q y there. (tt, λ apart. refl)) in
    record {
      leads = λ i. record (tables_between s m) { stations = stations i };
      listing = listing_same s _ m (docks_changed s _ station.now f (λ x. omega arith) refl) refl refl refl listing;
    }
  where
    f : Station → Station
    f x = record x { row = more_docks count x.row }

    broken : docks_broken s station.now (row.row.docks + count) ≡ docks_broken s station.now row.row.docks
    broken =
        let up = broken_up_to s station.now row.row.docks (works_past s sound station.now row found) count in
        let same : row.row.docks + count ≡ count + row.row.docks = omega arith in
        ap (docks_broken s station.now) same ∙ up

    left : docks_left s station.now (row.row.docks + count) ≡ pos (d.free + count)
    left = omega (arith, ints, free, broken)

    set : (v : Station) → row ≡ v
        → with_values ((4, number_value (row.row.docks + count)) ∷ (9, number_value (d.free + count)) ∷ []) (counted_station s (station.now, v)) ≡ counted_station s (station.now, f v)
    set v same =
        subst (λ (w : Station). with_values ((4, number_value (row.row.docks + count)) ∷ (9, number_value (d.free + count)) ∷ []) (counted_station s (station.now, w))
        ≡ counted_station s (station.now, f w)) same
        (ap₂ (λ (z : ℤ) (b : ℕ). station_row station.now (f row) z b (by_type_text (types_at s station.now))) (sym left) (sym broken))
