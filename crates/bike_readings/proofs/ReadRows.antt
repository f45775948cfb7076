-- What good rows spell: the rows of a map, of a numbered list, and the one row of meta, of system and of books.
use Rattle.std.proofs.Common.{◌≡◌, ◌⊎◌, inl, inr, ℕ, ℤ, pos, suc, ◌+◌, ◌==◌, ◌≤◌, List, [], ◌∷◌, length, map, false, Option, Some, None, refl, sym, ap, ◌∙◌, subst, arith}
use Rattle.std.specs.Prelude.{option_map, take, unwrap_or}
use Rattle.std.proofs.lemmas.Bool.Decides.{nat_tests}
use Rattle.std.proofs.lemmas.Option.{same_Some}
use Rattle.std.specs.Option.{IsSomeAnd}
use Rattle.std.specs.List.{filter_map, cons_option}
use Rattle.std.specs.declared.cmp.Ordering.{Ordering}
use Rattle.std.specs.declared.cmp.Ordering.TheVariants.{Less, Equal}
use Rattle.std.specs.FinMap as fin
use Rattle.std.specs.FinMap.{FinMap}
use Rattle.std.proofs.lemmas.Cmp.{tied_itself}
use Rattle.sqlite_value.specs.Order.{Row, row_cmp}
use Rattle.sqlite_rules.specs.Lists.{Has}
use Rattle.bike_sql.specs.View.{by_key, row_with}
use Rattle.bike_sql.proofs.OrderLemmas.{Rises}
use Rattle.bike_sql.proofs.TreeLemmas.{by_key_total}
use Rattle.bike_fixed.specs.Whole.{last_moment}
use Rattle.bike_catalogue.specs.Rows.{SystemRow}
use Rattle.bike_operator.specs.Operator.{Operator, Numbered, Past, item_numbered}
use Rattle.bike_operator.specs.Sound.{IsSetSystem, IsSumOf}
use Rattle.bike_book.specs.Rows.{number_value, meta_row, books_row}
use Rattle.bike_book.specs.Stored.{meta_rows, system_rows, books_rows, with_numbers}
use Rattle.bike_book.proofs.MapRows.{StoresKeys, BeginsWithKey}
use Rattle.bike_book.proofs.FoundNumbers.{same_length}
use Rattle.bike_readings.specs.Readings.{meta_read, system_read, books_read}
use Rattle.bike_readings.proofs.CatalogueRows.{meta_reading, system_reading}
use Rattle.bike_readings.proofs.LedgerRows.{books_reading}
use Rattle.bike_readings.specs.ReadOff.{first, since_of, sums_in, past_of, archived_of}
use Rattle.bike_readings.specs.Demands.{IsGoodMeta, IsGoodBooks}
use Rattle.bike_readings.proofs.ReadLists.{IsRead, IsStored, AreRowsOf, read_of, read_stored}
use Rattle.bike_readings.proofs.Places.{lesser, read_numbered}
use Rattle.bike_readings.proofs.ReadBack.{numbered_has}
use Rattle.bike_readings.specs.BothWays.{IsReading}
use Rattle.bike_readings.proofs.RowRules.{some_with}

-- ---- a part of what a row spells

pub record IsMapped {A B : Type 0} (f : A → B) (o : Option A) (b : B) : Type 0 where
  pub value : A
  pub value_is : o ≡ Some value
  pub part_is : f value ≡ b

pub mapped : {A B : Type 0} (f : A → B) (o : Option A) (b : B) → option_map f o ≡ Some b → IsMapped f o b
mapped f None b is = absurd cc
mapped f (Some a) b is = record { value = a; value_is = refl; part_is = cc }

module _ {A : Type 0} {read : Row → Option A} {store : A → Row} {IsGood : A → Type 0} (law : IsReading read store IsGood) where
  -- a row that spells something is that of which it is made
  pub stored_plain : (Fact : A → Type 0) (r : Row) → IsSomeAnd (read r) Fact → IsStored read store r
  stored_plain Fact r good = let it = some_with Fact (read r) good in record { value = it.value; read_is = it.value_is; store_is = (law.sound r it.value it.value_is).0 }

  -- the same of a part of it, where the fact says what stands beside it
  pub stored_part : {B : Type 0} (part : A → B) (row : B → Row) (Fact : A → Type 0) (r : Row) → IsSomeAnd (read r) Fact → ((a : A) → read r ≡ Some a → Fact a → store a ≡ row (part a))
      → IsStored (λ x. option_map part (read x)) row r
  stored_part part row Fact r good same =
      let it = some_with Fact (read r) good in
      record { value = part it.value; read_is = ap (option_map part) it.value_is; store_is = (law.sound r it.value it.value_is).0 ∙ same it.value it.value_is it.fact }

-- ---- limits

pub few_in : {K X : Type 0} {R : K → K → Ordering} {keys : ℕ} {key_row : K → Row} {IsGood : K → Type 0} (h : StoresKeys R keys key_row IsGood) (row : K × X → Row) (begins : BeginsWithKey h row)
    (read : Row → Option (K × X)) (rows : List Row) (m : FinMap R X) → AreRowsOf h row begins read rows m → fin.len m ≡ length rows
few_in h row begins read rows m it = fin.len-entries m ∙ sym (same_length row (fin.entries m)) ∙ ap (λ (rs : List Row). length rs) (sym it.rows_are)

-- ---- numbered lists

module _ {A : Type 0} (row : ℕ × A → Row) (read : Row → Option (ℕ × A)) (rows : List Row) where
  -- The rows are those of a numbered list.
  pub record AreRowsOfList (l : Numbered A) : Type 0 where
    pub rows_are : rows ≡ map row (with_numbers l)
    pub found : (n : ℕ) (x : A) → item_numbered n l ≡ Some x → IsRead read rows (n, x)
    pub length_is : length l.items ≡ length rows
    pub back : (n : ℕ) (x : A) → item_numbered n l ≡ Some x → read (row (n, x)) ≡ Some (n, x)

  -- what is read, behind so many that were archived
  abbrev pub behind : ℕ → Numbered A
  behind archived = record { archived = archived; items = map (λ e. e.1) (filter_map read rows) }

  pub read_list : (archived : ℕ) → Rises (by_key_total 1) rows → ((r : Row) → Has rows r → IsStored read row r)
      → ((r : Row) → Has rows r → (x : A) × (read r ≡ Some (archived + lesser 1 (take 1 r) rows + 1, x))) → AreRowsOfList (behind archived)
  read_list archived up stored each =
      let listed : filter_map read rows ≡ with_numbers (behind archived) = read_numbered read archived rows up each in
      let same = read_stored read row rows stored in
      record {
        rows_are = sym same ∙ ap (map row) listed;
        found = λ n x is. read_of read rows (n, x) (subst (λ (es : List (ℕ × A)). Has es (n, x)) (sym listed) (numbered_has (behind archived) n x is));
        length_is = mapped_length (filter_map read rows) ∙ sym (same_length row (filter_map read rows)) ∙ ap (λ (rs : List Row). length rs) same;
        back = λ n x is.
            let at = read_of read rows (n, x) (subst (λ (es : List (ℕ × A)). Has es (n, x)) (sym listed) (numbered_has (behind archived) n x is)) in
            let it = stored at.item at.has in
            let value = same_Some it.value (n, x) (sym it.read_is ∙ at.read_is) in
            ap read (ap row (sym value) ∙ sym it.store_is) ∙ at.read_is;
      }
    where
      mapped_length : (es : List (ℕ × A)) → length (map (λ e. e.1) es) ≡ length es
      mapped_length [] = refl
      mapped_length (e ∷ es) = ap suc (mapped_length es)

-- ---- the one row of meta, of system and of books

never_two : (a b : Row) → take 1 a ≡ number_value 1 ∷ [] → take 1 b ≡ number_value 1 ∷ [] → by_key 1 a b ≡ Less → ⊥
never_two a b p q less =
    let tie : by_key 1 a b ≡ Equal = ap (row_cmp (take 1 a)) (q ∙ sym p) ∙ tied_itself (by_key_total 1) a in
    let both : ◌≡◌ {A = Ordering} Less Equal = sym less ∙ tie in
    absurd cc

module _ (s : Operator) where
  -- The rows are the one with the sums of what was archived.
  pub record IsMeta (rows : List Row) : Type 0 where
    pub rows_are : rows ≡ meta_rows (since_of rows) (past_of rows)
    pub by_last : since_of rows ≤ last_moment
    pub cash : IsSumOf s.entries.archived (past_of rows).cash
    pub revenue : IsSumOf s.entries.archived (past_of rows).revenue

  meta_key : (n : ℕ) (r : Row) → IsSomeAnd (meta_read r) (IsGoodMeta s n) → take 1 r ≡ number_value 1 ∷ []
  meta_key n r good = let it = some_with (IsGoodMeta s n) (meta_read r) good in ap (take 1) (meta_reading.sound r it.value it.value_is).0

  pub meta_are : (rows : List Row) → Rises (by_key_total 1) rows → ((r : Row) → Has rows r → (n : ℕ) × IsSomeAnd (meta_read r) (IsGoodMeta s n)) → (row_with 1 (number_value 1 ∷ []) rows ≡ None → ⊥)
      → IsMeta rows
  meta_are [] up each there = absurd (there refl)
  meta_are (r ∷ []) up each there =
      let good = each r (inl refl) in
      let it = some_with (IsGoodMeta s good.0) (meta_read r) good.1 in
      let law_is = meta_reading.sound r it.value it.value_is in
      let now : since_of (r ∷ []) ≡ it.value.1 = ap (λ (o : Option (ℕ × ℕ × ℤ × ℤ)). unwrap_or (option_map (λ (e : ℕ × ℕ × ℤ × ℤ). e.1) (first (cons_option o []))) 0) it.value_is in
      let sums : past_of (r ∷ []) ≡ record { cash = it.value.2; revenue = it.value.3 } =
      ap (λ (o : Option (ℕ × ℕ × ℤ × ℤ)). unwrap_or (option_map sums_in (first (cons_option o []))) (record { cash = pos 0; revenue = pos 0 })) it.value_is in
      let version = it.fact.version_is in
      let by = law_is.1.good_now in
      record {
        rows_are = ap (λ (x : Row). x ∷ []) law_is.0 ∙ (λ i. meta_row (version i) (sym now i) it.value.2 it.value.3 ∷ []) ∙ ap (meta_rows (since_of (r ∷ []))) (sym sums);
        by_last = omega (arith, now, by);
        cash = subst (λ (p : Past). IsSumOf s.entries.archived p.cash) (sym sums) it.fact.cash;
        revenue = subst (λ (p : Past). IsSumOf s.entries.archived p.revenue) (sym sums) it.fact.revenue;
      }
  meta_are (r ∷ x ∷ rows) up each there =
      let a = each r (inl refl) in
      let b = each x (inr (inl refl)) in
      absurd (never_two r x (meta_key a.0 r a.1) (meta_key b.0 x b.1) up.0.0)

pub record IsSystemOf (rows : List Row) : Type 0 where
  pub rows_are : rows ≡ system_rows (first (filter_map system_read rows))
  pub good : IsSetSystem (first (filter_map system_read rows))

system_key : (r : Row) → IsSomeAnd (system_read r) (λ x. Unit {0}) → take 1 r ≡ number_value 1 ∷ []
system_key r good = let it = some_with (λ x. Unit {0}) (system_read r) good in ap (take 1) (system_reading.sound r it.value it.value_is).0

pub system_are : (rows : List Row) → Rises (by_key_total 1) rows → ((r : Row) → Has rows r → IsSomeAnd (system_read r) (λ x. Unit {0})) → IsSystemOf rows
system_are [] up each = record { rows_are = refl; good = tt }
system_are (r ∷ []) up each =
    let it = some_with (λ x. Unit {0}) (system_read r) (each r (inl refl)) in
    let law_is = system_reading.sound r it.value it.value_is in
    let set : first (filter_map system_read (r ∷ [])) ≡ Some it.value = ap (λ (o : Option SystemRow). first (cons_option o [])) it.value_is in
    record { rows_are = ap (λ (x : Row). x ∷ []) law_is.0 ∙ ap system_rows (sym set); good = subst IsSetSystem (sym set) law_is.1 }
system_are (r ∷ x ∷ rows) up each = absurd (never_two r x (system_key r (each r (inl refl))) (system_key x (each x (inr (inl refl)))) up.0.0)

pub some_books : (requests entries rentals : ℕ) → 1 ≤ requests + entries + rentals → books_row requests entries rentals ∷ [] ≡ books_rows requests entries rentals
some_books requests entries rentals some = let not_none : (requests + entries + rentals == 0) ≡ false = grind (arith, nat_tests, some) in rw not_none refl

module _ (s : Operator) where
  -- The rows are those of what was archived: none, or one of which its demands hold.
  pub record IsBooksOf (rows : List Row) : Type 0 where
    pub rows_are : rows ≡ books_rows (archived_of rows).0 (archived_of rows).1 (archived_of rows).2
    pub good : (archived_of rows ≡ (0, 0, 0)) ⊎ IsGoodBooks s (archived_of rows)

  books_key : (r : Row) → IsSomeAnd (books_read r) (IsGoodBooks s) → take 1 r ≡ number_value 1 ∷ []
  books_key r good = let it = some_with (IsGoodBooks s) (books_read r) good in ap (take 1) (books_reading.sound r it.value it.value_is).0

  pub books_are : (rows : List Row) → Rises (by_key_total 1) rows → ((r : Row) → Has rows r → IsSomeAnd (books_read r) (IsGoodBooks s)) → IsBooksOf rows
  books_are [] up each = record { rows_are = refl; good = inl refl }
  books_are (r ∷ []) up each =
      let it = some_with (IsGoodBooks s) (books_read r) (each r (inl refl)) in
      let law_is = books_reading.sound r it.value it.value_is in
      let told : archived_of (r ∷ []) ≡ it.value = ap (λ (o : Option (ℕ × ℕ × ℕ)). unwrap_or (first (cons_option o [])) (0, 0, 0)) it.value_is in
      record {
        rows_are =
            ap (λ (x : Row). x ∷ []) law_is.0 ∙ some_books it.value.0 it.value.1 it.value.2 it.fact.some_archived
            ∙ ap (λ (e : ℕ × ℕ × ℕ). books_rows e.0 e.1 e.2) (sym told);
        good = inr (subst (IsGoodBooks s) (sym told) it.fact);
      }
  books_are (r ∷ x ∷ rows) up each = absurd (never_two r x (books_key r (each r (inl refl))) (books_key x (each x (inr (inl refl)))) up.0.0)
