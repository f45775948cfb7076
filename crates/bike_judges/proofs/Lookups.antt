-- What stands under a key in a map that is read off rows is what the row with that key spells, where the rows stand in the order of their keys.
use Rattle.std.proofs.Common.{◌≡◌, ℕ, ℤ, List, [], ◌∷◌, Bool, true, false, ◌&&◌, T, Option, Some, None, refl, sym, ap, ap₂, ◌∙◌}
use Rattle.std.specs.Prelude.{take, option_map, option_and_then}
use Rattle.std.specs.List.{filter_map, cons_option, AllByRecursion}
use Rattle.std.specs.Ordering.{is_lt}
use Rattle.std.specs.declared.cmp.Ordering.{Ordering}
use Rattle.std.specs.declared.cmp.Ordering.TheVariants.{Less, Equal}
use Rattle.std.specs.FinMap as fin
use Rattle.std.specs.FinMap.Entries as entries
use Rattle.sqlite_value.specs.Order.{Row, row_cmp}
use Rattle.bike_sql.specs.View.{by_key, row_with}
use Rattle.bike_sql.proofs.OrderLemmas.{Rises}
use Rattle.bike_sql.proofs.TreeLemmas.{by_key_total}
use Rattle.bike_operator.specs.Operator.{Station}
use Rattle.bike_book.proofs.MapRows.{StoresKeys, has_find}
use Rattle.bike_book.proofs.Keys.{text_key, numbers, texts}
use Rattle.bike_readings.specs.Readings.{type_read, region_read, station_read, truck_read}
use Rattle.bike_readings.specs.ReadOff.{station_in}
use Rattle.bike_readings.proofs.CatalogueRows.{type_reading, region_reading, station_reading}
use Rattle.bike_readings.proofs.FleetRows.{truck_reading}
use Rattle.bike_readings.proofs.ReadRows.{mapped}
use Rattle.bike_readings.proofs.ReadLists.{read_of, has_read, find_has}
use Rattle.bike_readings.proofs.Places.{has_under, under_has}

passed : (r : Ordering) → r ≡ Less → T (is_lt r)
passed r e = rw e tt

both : (a b : Bool) → T a → T b → T (a && b)
both true b s t = t
both false b s t = s

module _ {K X : Type 0} {R : K → K → Ordering} {keys : ℕ} {key_row : K → Row} {IsGood : K → Type 0} (h : StoresKeys R keys key_row IsGood) (read : Row → Option (K × X)) where
  -- a row that spells an entry begins with its key
  abbrev pub SpellsKeys : Type 0
  SpellsKeys = (r : Row) (e : K × X) → read r ≡ Some e → (take keys r ≡ key_row e.0) × IsGood e.0

  -- what the row with a key spells
  abbrev pub spelled_at : List Row → K → Option X
  spelled_at rows k = option_map (λ e. e.1) (option_and_then read (row_with keys (key_row k) rows))

  module _ (spells : SpellsKeys) where
    below : (x : K × X) (r : Row) (rows : List Row) → read r ≡ Some x → AllByRecursion (λ y. by_key keys r y ≡ Less) rows → T (entries.below_all R x.0 (filter_map read rows))
    below x r [] is up = tt
    below x r (y ∷ rows) is up = go (read y) refl (below x r rows is up.1) where
      go : (o : Option (K × X)) → read y ≡ o → T (entries.below_all R x.0 (filter_map read rows)) → T (entries.below_all R x.0 (cons_option o (filter_map read rows)))
      go None e rest = rest
      go (Some z) e rest =
          let a = spells r x is in
          let b = spells y z e in
          let low : R x.0 z.0 ≡ Less = sym (h.compares x.0 z.0 a.1 b.1) ∙ sym (ap₂ row_cmp a.0 b.0) ∙ up.0 in
          both (is_lt (R x.0 z.0)) (entries.below_all R x.0 (filter_map read rows)) (passed (R x.0 z.0) low) rest

    pub sorted_read : (rows : List Row) → Rises (by_key_total keys) rows → T (entries.is_sorted R (filter_map read rows))
    sorted_read [] up = tt
    sorted_read (r ∷ rows) up = go (read r) refl (sorted_read rows up.1) where
      go : (o : Option (K × X)) → read r ≡ o → T (entries.is_sorted R (filter_map read rows)) → T (entries.is_sorted R (cons_option o (filter_map read rows)))
      go None e rest = rest
      go (Some x) e rest = both (entries.below_all R x.0 (filter_map read rows)) (entries.is_sorted R (filter_map read rows)) (below x r rows e up.0) rest

    -- the entries are what the rows spell
    pub entries_read : (rows : List Row) → Rises (by_key_total keys) rows → fin.entries (fin.from_sorted {R = R} (filter_map read rows)) ≡ filter_map read rows
    entries_read rows up = fin.entries-from_sorted R (filter_map read rows) (sorted_read rows up)

    found : (rows : List Row) → Rises (by_key_total keys) rows → (k : K) → IsGood k → (o : Option X) → entries.find R k (filter_map read rows) ≡ o → o ≡ spelled_at rows k
    found rows up k good (Some v) is =
        let it = read_of read rows (k, v) (find_has h k v (filter_map read rows) is) in
        let begins = (spells it.item (k, v) it.read_is).0 in
        let under : row_with keys (key_row k) rows ≡ Some it.item = ap (λ (key : Row). row_with keys key rows) (sym begins) ∙ has_under keys rows it.item up it.has in
        sym (ap (λ (o : Option Row). option_map (λ (e : K × X). e.1) (option_and_then read o)) under ∙ ap (option_map (λ (e : K × X). e.1)) it.read_is)
    found rows up k good None is = go (row_with keys (key_row k) rows) refl where
      spelled : (r : Row) → row_with keys (key_row k) rows ≡ Some r → (q : Option (K × X)) → read r ≡ q → ◌≡◌ {A = Option X} None (option_map (λ e. e.1) q)
      spelled r there None e = refl
      spelled r there (Some x) e =
          let under = under_has keys (key_row k) rows r there in
          let begins = spells r x e in
          let tie : R x.0 k ≡ Equal = sym (h.compares x.0 k begins.1 good) ∙ ap (λ (z : Row). row_cmp z (key_row k)) (sym begins.0) ∙ under.1 in
          let key : x.0 ≡ k = h.same x.0 k tie in
          let at : entries.find R x.0 (filter_map read rows) ≡ Some x.1 = has_find h.total (filter_map read rows) x (sorted_read rows up) (has_read read rows r x under.0 e) in
          let none : entries.find R x.0 (filter_map read rows) ≡ None = ap (λ (z : K). entries.find R z (filter_map read rows)) key ∙ is in
          absurd (let both : ◌≡◌ {A = Option X} None (Some x.1) = sym none ∙ at in cc)

      go : (o : Option Row) → row_with keys (key_row k) rows ≡ o → ◌≡◌ {A = Option X} None (option_map (λ e. e.1) (option_and_then read o))
      go None e = refl
      go (Some r) e = spelled r e (read r) refl

    -- what is found under a key is what the row with it spells
    pub found_at : (rows : List Row) → Rises (by_key_total keys) rows → (k : K) → IsGood k → fin.get (fin.from_sorted {R = R} (filter_map read rows)) k ≡ spelled_at rows k
    found_at rows up k good =
        fin.get-from_sorted R (filter_map read rows) k (sorted_read rows up) ∙ found rows up k good (entries.find R k (filter_map read rows)) refl

-- ---- the tables that are looked into

pub type_key : SpellsKeys texts type_read
type_key r e is = (ap (take 1) (type_reading.sound r e is).0, tt)

pub region_key : SpellsKeys texts region_read
region_key r e is = (ap (take 1) (region_reading.sound r e is).0, tt)

-- a station without its numbers
abbrev pub station_part : List ℕ × Station × ℤ × ℕ × List ℕ → List ℕ × Station
station_part e = (e.0, e.1)

pub station_key : SpellsKeys texts station_in
station_key r e is =
    let it = mapped station_part (station_read r) e is in
    (ap (take 1) (station_reading.sound r it.value it.value_is).0 ∙ ap (λ (x : List ℕ × Station). text_key x.0) it.part_is, tt)

pub truck_key : SpellsKeys numbers truck_read
truck_key r e is = (ap (take 1) (truck_reading.sound r e is).0, tt)
