-- The two ends of a request: the docks left of a sound operator are its docks available.
use Rattle.std.proofs.Common.{◌≡◌, ℕ, ℤ, pos, List, Some, refl, sym, ap, ◌∙◌, arith}
use Rattle.std.specs.FinMap as fin
use Rattle.std.proofs.lemmas.Int.{ints}
use Rattle.bike_operator.specs.Operator.{Operator, Station}
use Rattle.bike_operator.specs.Counts.{docks_available, docks_broken}
use Rattle.bike_operator.specs.Sound.{AreBikesSound}
use Rattle.bike_laws.proofs.SingleSteps.DockLaw.{docks_law}
use Rattle.bike_book.specs.ByType.{types_at, by_type_text}
use Rattle.bike_book.specs.Rows.{station_row}
use Rattle.bike_book.specs.Stored.{Listed, stored_station, tables_for}
use Rattle.bike_book.specs.Writes.{writes_of, tables_after_all}
use Rattle.bike_book.specs.Between.{docks_left, counted_station, tables_between}
use Rattle.bike_book.proofs.MapRows.{same_entries}
use Rattle.bike_book.proofs.Keys.{texts}
use Rattle.bike_booking.specs.Ends.{StoredDocksLaw, SoundEndsLaw}

module _ (s : Operator) (sound : AreBikesSound s) where
  pub left_is : (station : List ℕ) (x : Station) → fin.get s.stations station ≡ Some x → docks_left s station x.row.docks ≡ pos (docks_available s station x.row.docks)
  left_is station x found = let all = docks_law s sound station x.row.docks (record { row = x; found = found; docks_are = refl }) in omega (arith, ints, all)

  tables_same : (m : Listed) → tables_between s m ≡ tables_for s m
  tables_same m =
      let stations = same_entries texts (counted_station s) (stored_station s) s.stations (λ q x found. ap (λ (left : ℤ). station_row q x left (docks_broken s q x.row.docks) (by_type_text (types_at s q))) (left_is q x found)) in
      λ i. record (tables_for s m) { stations = stations i }

pub stored_docks : StoredDocksLaw
stored_docks s station x sound found = record { row = x; found = found; free = left_is s sound station x found; broken = refl }

pub sound_ends : SoundEndsLaw
sound_ends changes s n m w sound_s sound_n books =
    record { tables = ap (tables_after_all (writes_of changes)) (sym (tables_same s sound_s m)) ∙ books.leads ∙ tables_same n sound_n w; listing = books.listing }
