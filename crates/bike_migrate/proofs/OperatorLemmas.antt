-- The tables at an earlier version are an operator's where, raised, they are its own and no station has too many docks.
use Rattle.std.proofs.Common.{◌≡◌, ◌≤◌, ◌==◌, ◌+◌, ℕ, ℤ, pos, Bool, true, false, IsTrue, List, [], ◌∷◌, map, Option, Some, None, if◌then◌else◌, refl, sym, ap, ap₂, subst, ◌∙◌, arith}
use Rattle.std.specs.Prelude.{option_map, IfSome}
use Rattle.std.specs.FinMap as fin
use Rattle.std.proofs.lemmas.Bool.{leb-true, le-leb, both_ways, eqb-true}
use Rattle.std.proofs.lemmas.Int.{ints}
use Rattle.sqlite_value.specs.declared.value.Value.TheVariants.{Text}
use Rattle.sqlite_value.specs.Order.{Row}
use Rattle.sqlite.specs.Effect.{Database}
use Rattle.bike_sql.specs.View.{row_with}
use Rattle.bike_sql.proofs.RowListLemmas.{map_has}
use Rattle.bike_operator.specs.Operator.{Operator, Station}
use Rattle.bike_operator.specs.Sound.{IsSound, IsSumOf}
use Rattle.bike_book.specs.declared.version.TheConstants.{NEWEST}
use Rattle.bike_book.specs.Tables.{TableName, Tables, Meta, Stations, with_rows}
use Rattle.bike_book.specs.Rows.{meta_row, books_row}
use Rattle.bike_book.specs.Stored.{Listed, tables_for, stored_station, meta_rows, books_rows}
use Rattle.bike_book.specs.Writes.{tables_after}
use Rattle.bike_book.proofs.FoundKeys.{found_by_key}
use Rattle.bike_book.proofs.Keys.{texts}
use Rattle.bike_book.proofs.MapRows.{has_get}
use Rattle.bike_schema.specs.Stands.{Stores}
use Rattle.bike_schema.specs.Tables.{tables_of}
use Rattle.bike_readings.specs.ReadOff.{operator_of}
use Rattle.bike_readings.specs.Rules.{AllGood, row_under, IsVerdict}
use Rattle.bike_readings.proofs.Places.{under_has}
use Rattle.bike_readings.proofs.RulesLaws.{stored_good}
use Rattle.bike_recognition.specs.declared.earlier_versions.earlier.Earlier.{Earlier}
use Rattle.bike_recognition.specs.declared.earlier_versions.earlier.Earlier.TheVariants.{First, Second, Third}
use Rattle.bike_recognition.specs.declared.earlier_versions.earlier.TheConstants.{MOST_DOCKS_BEFORE}
use Rattle.bike_recognition.specs.EarlierVersions.Earlier.{number_of, bounds_docks, tables_at}
use Rattle.bike_recognition.specs.EarlierVersions.Stores.{tables_for_at, HasFewDocks, StoresAt}
use Rattle.bike_migrate.specs.Raised.{IsEarlier, version_write, tables_raised, IsRaised}
use Rattle.bike_migrate.specs.Stations.{has_few}
use Rattle.bike_migrate.specs.Verdicts.{KeepsBound, AllGoodAt, IsFirstBadAt}
use Rattle.bike_migrate.proofs.VersionLemmas.{meta_raised, WasMeta, meta_lowered}

-- ---- the bound of docks

few_docks : (docks : ℕ) → docks ≤ MOST_DOCKS_BEFORE → (id : List ℕ) (x : Station) (s : Operator) → x.row.docks ≡ docks → has_few (stored_station s (id, x)) ≡ true
few_docks docks few id x s is = le-leb x.row.docks MOST_DOCKS_BEFORE (subst (λ n. n ≤ MOST_DOCKS_BEFORE) (sym is) few)

module _ (s : Operator) (m : Listed) where
  -- its rows keep the bound
  pub bound_kept : HasFewDocks s → (name : TableName) (key : Row) → KeepsBound (tables_for s m) name key
  bound_kept few Stations key = by (row_under (tables_for s m) Stations key) refl
    where
      by : (o : Option Row) → row_under (tables_for s m) Stations key ≡ o → IfSome o (λ row. has_few row ≡ true)
      by None found = tt
      by (Some row) found =
          let there = under_has 1 key (map (stored_station s) (fin.entries s.stations)) row found in
          let it = map_has (stored_station s) (fin.entries s.stations) row there.0 in
          let got = has_get texts.total s.stations it.0 it.1 in
          subst (λ r. has_few r ≡ true) (sym it.2) (few_docks it.0.1.row.docks (few it.0.0 it.0.1 got) it.0.0 it.0.1 s refl)
  bound_kept few name key = tt

  -- and where they do, it has few docks
  module _ (found : (id : List ℕ) → row_with 1 (Text id ∷ []) (tables_for s m).stations ≡ option_map (λ x. stored_station s (id, x)) (fin.get s.stations id)) where
    pub few_of : ((key : Row) → KeepsBound (tables_for s m) Stations key) → HasFewDocks s
    few_of bound id x there =
        let is : row_with 1 (Text id ∷ []) (tables_for s m).stations ≡ Some (stored_station s (id, x)) = found id ∙ ap (option_map (λ y. stored_station s (id, y))) there in
        let few = subst (λ o. IfSome o (λ r. has_few r ≡ true)) is (bound (Text id ∷ [])) in
        leb-true x.row.docks MOST_DOCKS_BEFORE few

-- ---- the tables

-- without a row of `books` nothing was archived
none_archived : (requests entries rentals : ℕ) → [] ≡ books_rows requests entries rentals → entries ≡ 0
none_archived requests entries rentals = by (requests + entries + rentals == 0) refl
  where
    by : (b : Bool) → (requests + entries + rentals == 0) ≡ b → [] ≡ (if b then [] else books_row requests entries rentals ∷ []) → entries ≡ 0
    by true is none = let sum = eqb-true (requests + entries + rentals) 0 is in omega (arith, sum)
    by false is none = absurd cc

-- no entries come to 0
none_summed : (entries : ℕ) (sum : ℤ) → entries ≡ 0 → IsSumOf entries sum → sum ≡ pos 0
none_summed entries sum none it = by (subst (λ n. IsSumOf n sum) none it)
  where
    by : IsSumOf 0 sum → sum ≡ pos 0
    by z = let low = z.low in let high = z.high in omega (arith, ints, low, high)

-- then there are no sums of it in `meta`
nothing_past : (s : Operator) (m : Listed) → IsSound s → [] ≡ (tables_for s m).books → meta_rows m.since s.past ≡ meta_row NEWEST m.since (pos 0) (pos 0) ∷ []
nothing_past s m sound none =
    let entries = none_archived s.history.archived s.entries.archived s.rentals.archived none in
    ap₂ (λ cash revenue. meta_row NEWEST m.since cash revenue ∷ []) (none_summed s.entries.archived s.past.cash entries sound.ledger.past.cash)
    (none_summed s.entries.archived s.past.revenue entries sound.ledger.past.revenue)

-- raised, they are the tables of the operator
pub raised_for : (e : Earlier) (db : Database) (s : Operator) (it : StoresAt e db s) → tables_raised e db ≡ tables_for s it.listed
raised_for e db s it =
    let m = it.listed in
    ap (tables_after version_write) it.tables
    ∙ ap (λ rows. with_rows Meta rows (tables_for s m)) (meta_raised (number_of e) m.since it.cash it.revenue ∙ sym (nothing_past s m it.sound (ap (λ (t : Tables). t.books) it.tables)))

-- and back
lowered_meta : (e : Earlier) (db : Database) (s : Operator) (m : Listed) → IsEarlier e db → IsSound s → tables_raised e db ≡ tables_for s m → WasMeta (number_of e) m.since (tables_at e db).meta
lowered_meta e db s m it sound are =
    meta_lowered (number_of e) m.since (tables_at e db).meta it.version (ap (λ (t : Tables). t.meta) are ∙ nothing_past s m sound (ap (λ (t : Tables). t.books) are))

lowered_for : (e : Earlier) (db : Database) (s : Operator) (m : Listed) → tables_raised e db ≡ tables_for s m → (was : WasMeta (number_of e) m.since (tables_at e db).meta)
    → tables_at e db ≡ tables_for_at e s m was.cash was.revenue
lowered_for e db s m are was = ap (with_rows Meta (tables_at e db).meta) are ∙ ap (λ rows. with_rows Meta rows (tables_for s m)) was.rows_are

-- ---- the verdict

all_of : (e : Earlier) (t : Tables) → AllGoodAt e t → AllGood t
all_of First t good = λ name key. (good name key).good
all_of Second t good = λ name key. (good name key).good
all_of Third t good = good

bound_of : (e : Earlier) (t : Tables) → AllGoodAt e t → IsTrue (bounds_docks e) → (key : Row) → KeepsBound t Stations key
bound_of First t good bounds key = (good Stations key).few
bound_of Second t good bounds key = (good Stations key).few
bound_of Third t good bounds key = absurd (both_ways false refl bounds)

-- ---- the operator

module _ (e : Earlier) (old new : Database) (raised : IsRaised e old new) where
  -- for which the database stood, it stands
  pub stores_raised : (s : Operator) → StoresAt e old s → Stores new s
  stores_raised s it = record { has = raised.has; sound = it.sound; listed = it.listed; listing = it.listing; tables = raised.tables ∙ raised_for e old s it }

  -- for which it stands, it stood
  pub stored_before : IsEarlier e old → (s : Operator) → Stores new s → (IsTrue (bounds_docks e) → (key : Row) → KeepsBound (tables_raised e old) Stations key) → StoresAt e old s
  stored_before was s it bound =
      let are : tables_raised e old ≡ tables_for s it.listed = sym raised.tables ∙ it.tables in
      let meta = lowered_meta e old s it.listed was it.sound are in
      record {
        is_at = was.is_at;
        sound = it.sound;
        few_docks = λ bounds. few_of s it.listed (λ id. (found_by_key s it.listed it.sound it.listing).stations id) (λ key. subst (λ t. KeepsBound t Stations key) are (bound bounds key));
        listed = it.listed;
        listing = it.listing;
        cash = meta.cash;
        revenue = meta.revenue;
        tables = lowered_for e old s it.listed are meta;
      }

  -- where all keys are good, it is the operator's that is read off
  pub good_stores : IsEarlier e old → AllGoodAt e (tables_raised e old) → (s : Operator) × StoresAt e old s × Stores new s
  good_stores was good =
      let all : IsVerdict (tables_of new) None = subst AllGood (sym raised.tables) (all_of e (tables_raised e old) good) in
      let stores = stored_good new raised.has all in
      (operator_of (tables_of new), stored_before was (operator_of (tables_of new)) stores (bound_of e (tables_raised e old) good), stores)

-- where it stands for an operator, all keys are good
pub stored_all_good : (e : Earlier) (old : Database) (s : Operator) → StoresAt e old s → (AllGood (tables_raised e old)) → AllGoodAt e (tables_raised e old)
stored_all_good First old s it good = λ name key.
    record { good = good name key; few = subst (λ t. KeepsBound t name key) (sym (raised_for First old s it)) (bound_kept s it.listed (it.few_docks refl) name key) }
stored_all_good Second old s it good = λ name key.
    record { good = good name key; few = subst (λ t. KeepsBound t name key) (sym (raised_for Second old s it)) (bound_kept s it.listed (it.few_docks refl) name key) }
stored_all_good Third old s it good = good

-- then none is bad
pub none_bad : (e : Earlier) (t : Tables) (name : TableName) (key : Row) → AllGoodAt e t → IsFirstBadAt e t name key → ⊥
none_bad First t name key good bad = bad.bad (good name key)
none_bad Second t name key good bad = bad.bad (good name key)
none_bad Third t name key good bad = bad.bad (good name key)
