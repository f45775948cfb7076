-- What is found under a key in rows that are those of a map is the record that the map has.
use Rattle.std.proofs.Common.{◌≡◌, ℕ, List, Option, Some, None, refl, sym, ap, ◌∙◌}
use Rattle.std.specs.Prelude.{option_map, option_and_then}
use Rattle.std.specs.declared.cmp.Ordering.{Ordering}
use Rattle.std.specs.FinMap as fin
use Rattle.std.specs.FinMap.{FinMap}
use Rattle.std.proofs.lemmas.Option.{same_Some}
use Rattle.sqlite_value.specs.Order.{Row}
use Rattle.sqlite_rules.specs.Lists.{Has}
use Rattle.bike_sql.specs.View.{row_with}
use Rattle.bike_book.proofs.MapRows.{StoresKeys, BeginsWithKey, found_entries}
use Rattle.bike_readings.proofs.ReadLists.{IsStored, AreRowsOf}

module _ {K X : Type 0} {R : K → K → Ordering} {keys : ℕ} {key_row : K → Row} {IsGood : K → Type 0} (h : StoresKeys R keys key_row IsGood) (every : (k : K) → IsGood k) (row : K × X → Row)
    (begins : BeginsWithKey h row)
    (read : Row → Option (K × X)) (rows : List Row) (m : FinMap R X) (are : AreRowsOf h row begins read rows m) (stored : (r : Row) → Has rows r → IsStored read row r) where
  under : (k : K) → row_with keys (key_row k) rows ≡ option_map (λ v. row (k, v)) (fin.get m k)
  under k = ap (row_with keys (key_row k)) are.rows_are ∙ found_entries h row begins k (every k) m (λ q y is. every q)

  -- The row of a record that the map has.
  pub record IsFound (k : K) (v : X) : Type 0 where
    pub item : Row
    pub has : Has rows item
    pub read_is : read item ≡ Some (k, v)
    pub row_is : row_with keys (key_row k) rows ≡ Some item

  pub found_row : (k : K) (v : X) → fin.get m k ≡ Some v → IsFound k v
  found_row k v is =
      let at = are.found k v is in
      let it = stored at.item at.has in
      let value : it.value ≡ (k, v) = same_Some it.value (k, v) (sym it.read_is ∙ at.read_is) in
      record {
        item = at.item;
        has = at.has;
        read_is = at.read_is;
        row_is = under k ∙ ap (option_map (λ (x : X). row (k, x))) is ∙ ap (λ (e : K × X). Some (row e)) (sym value) ∙ ap (λ (r : Row). Some r) (sym it.store_is);
      }

  pub none_row : (k : K) → fin.get m k ≡ None → row_with keys (key_row k) rows ≡ None
  none_row k is = under k ∙ ap (option_map (λ (x : X). row (k, x))) is

  -- a reader of rows reads the row under a key as the map has it
  pub reads_under : (reads : Row → Option (K × X)) → ((r : Row) → Has rows r → reads r ≡ read r) → (k : K)
      → option_and_then reads (row_with keys (key_row k) rows) ≡ option_map (λ v. (k, v)) (fin.get m k)
  reads_under reads same k = go (fin.get m k) refl where
    go : (o : Option X) → fin.get m k ≡ o → option_and_then reads (row_with keys (key_row k) rows) ≡ option_map (λ v. (k, v)) o
    go None is = ap (option_and_then reads) (none_row k is)
    go (Some v) is =
        let it = found_row k v is in
        ap (option_and_then reads) it.row_is ∙ same it.item it.has ∙ it.read_is
