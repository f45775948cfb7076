-- What is found of the row of books is the verdict on the table.
use Rattle.std.proofs.Common.{◌≡◌, inl, inr, ℕ, ℤ, ◌+◌, ◌-◌, ◌+ℤ◌, ◌≤◌, List, [], ◌∷◌, length, take, Bool, true, false, ◌&&◌, Option, Some, None, refl, sym, ap, subst, ◌∙◌, arith}
use Rattle.std.specs.Prelude.{option_map, nat_le, unwrap_or}
use Rattle.std.specs.Bool.{Decides}
use Rattle.std.specs.FinMap as fin
use Rattle.std.specs.List.{filter_map, cons_option}
use Rattle.std.specs.Option.{IsSomeAnd}
use Rattle.std.specs.declared.cmp.Ordering.{Ordering}
use Rattle.std.specs.declared.cmp.Ordering.TheVariants.{Less, Equal}
use Rattle.std.proofs.lemmas.Bool.{and_parts, and_from, le-leb, leb-true}
use Rattle.std.proofs.lemmas.Bool.Decides.{Decides-int_eq, Decides-and}
use Rattle.std.proofs.lemmas.Cmp.{tied_itself}
use Rattle.sqlite_value.specs.Order.{Row, row_cmp}
use Rattle.sqlite_rules.specs.Lists.{Has}
use Rattle.sqlite.specs.Effect.{Database}
use Rattle.bike_ledger.specs.Entries.{Entry}
use Rattle.bike_operator.specs.declared.limits.TheConstants.{MOST_ENTRIES}
use Rattle.bike_operator.specs.declared.records.Rental.{Rental}
use Rattle.bike_operator.specs.Operator.{Operator, Past, last_number}
use Rattle.bike_operator.specs.Counts.{open_rentals}
use Rattle.bike_operator.specs.Sound.{befores}
use Rattle.bike_sql.specs.View.{by_key}
use Rattle.bike_sql.proofs.OrderLemmas.{Rises, all_has}
use Rattle.bike_sql.proofs.TreeLemmas.{by_key_total}
use Rattle.bike_book.specs.Rows.{number_value}
use Rattle.bike_book.specs.Tables.{Tables, Riders, Rentals, Entries, Books}
use Rattle.bike_schema.specs.Tables.{tables_of}
use Rattle.bike_readings.specs.Readings.{rental_read, entry_read, books_read}
use Rattle.bike_readings.specs.ReadOff.{operator_of, archived_of, past_of, rider_in, first}
use Rattle.bike_readings.specs.Demands.{IsGoodRental, IsGoodEntry, IsGoodBooks}
use Rattle.bike_readings.specs.Rules.{AreInOrder, rows_below}
use Rattle.bike_readings.proofs.LedgerRows.{books_reading}
use Rattle.bike_readings.proofs.RowRules.{some_with}
use Rattle.bike_readings.proofs.RulesLaws.{stored_in_order}
use Rattle.bike_judges.specs.declared.key.BadKey.{BadKey}
use Rattle.bike_judges.specs.Judging.{key_row}
use Rattle.bike_judges.specs.Passes.{first_failing, Demands}
use Rattle.bike_judges.specs.Verdicts.{EarlierGood, IsFirstFailing, IsTableVerdict}
use Rattle.bike_judges.proofs.LineLaw.{rows_verdict}
use Rattle.bike_ledger_rules.specs.Lines.{first_column}
use Rattle.bike_ledger_rules.specs.Books.{are_few, are_numbers_few, adds_up, is_conserved, are_others, total_of, AnswersWhereArchived, books_hold, books_test}
use Rattle.bike_ledger_rules.specs.declared.open_rentals.RentalCount.{RentalCount}
use Rattle.bike_ledger_rules.specs.Entries.{IsRentalCount}
use Rattle.bike_ledger_rules.proofs.Earlier.{earlier_good, riders_listed}
use Rattle.bike_ledger_rules.proofs.FirstItems.{read_all}
use Rattle.bike_ledger_rules.proofs.Folds.{rental_of_row, rentals_read, entries_read}
use Rattle.bike_ledger_rules.proofs.Rows.{demanded, demands, lacking, verdict_of}
use Rattle.bike_ledger_rules.proofs.Tests.{at_most}

-- ---- where all tables before are good, all their rows spell records

module _ (t : Tables) (up : AreInOrder t) (earlier : EarlierGood t Books) where
  abbrev s : Operator
  s = operator_of t

  all_rentals : length s.rentals.items ≡ length t.rentals
  all_rentals =
      ap (λ (rs : List Rental). length rs) (rentals_read t.rentals)
      ∙ read_all rental_of_row t.rentals (λ r has.
      let it = some_with (IsGoodRental s (rows_below t Rentals (take 1 r))) (rental_read r) (earlier_good t up Books earlier Rentals (omega arith) r has) in
      (it.value.1, ap (option_map (λ (e : ℕ × Rental × ℤ). e.1)) it.value_is))

  all_entries : length s.entries.items ≡ length t.entries
  all_entries =
      ap (λ (es : List Entry). length es) (entries_read t.entries)
      ∙ read_all entry_read t.entries (λ r has.
      let it = some_with (IsGoodEntry s (rows_below t Entries (take 1 r))) (entry_read r) (earlier_good t up Books earlier Entries (omega arith) r has) in
      (it.value, it.value_is))

  -- so the last numbers are those of the operator
  pub numbers_few : (rentals : RentalCount) → IsRentalCount t rentals → (archived : ℕ × ℕ × ℕ) → archived ≡ archived_of t.books
      → (last_rental last_entry : ℕ) → last_rental ≡ archived.2 + (rentals.next - 1) → last_entry ≡ archived.1 + length t.entries
      → are_few last_rental last_entry rentals.riding ≡ are_numbers_few s
  numbers_few rentals are archived told last_rental last_entry rental_is entry_is =
      λ i. are_few (first_is i) (second_is i) (are.riding_is i)
    where
      first_is : last_rental ≡ last_number s.rentals
      first_is =
          let some = are.next_is in
          let all = all_rentals in
          let so : archived.2 ≡ s.rentals.archived = ap (λ (a : ℕ × ℕ × ℕ). a.2) told in
          omega (arith, rental_is, some, all, so)

      second_is : last_entry ≡ last_number s.entries
      second_is =
          let all = all_entries in
          let so : archived.1 ≡ s.entries.archived = ap (λ (a : ℕ × ℕ × ℕ). a.1) told in
          omega (arith, entry_is, all, so)

  pub sums_conserved : (before : ℤ) (past : Past) → before ≡ befores (filter_map rider_in t.riders) → past ≡ past_of t.meta
      → adds_up before past ≡ is_conserved s
  sums_conserved before past before_is past_is =
      λ i. adds_up ((before_is ∙ ap befores (sym (riders_listed t up (earlier_good t up Books earlier Riders (omega arith))))) i) (past_is i)

-- both of two tests
pub both : (a b x y : Bool) → a ≡ x → b ≡ y → a ≡ true → b ≡ (x && y)
both a b x y p q is = q ∙ ap (λ (c : Bool). c && y) (sym is ∙ p)

pub not_both : (a x y : Bool) → a ≡ x → a ≡ false → a ≡ (x && y)
not_both a x y p is = is ∙ ap (λ (c : Bool). c && y) (sym is ∙ p)

-- ---- the one row

one_key : (r : Row) (e : ℕ × ℕ × ℕ) → books_read r ≡ Some e → take 1 r ≡ number_value 1 ∷ []
one_key r e is = ap (take 1) (books_reading.sound r e is).0

-- a row that spells something is the first that does
first_told : (rows : List Row) → Rises (by_key_total 1) rows → (r : Row) (e : ℕ × ℕ × ℕ) → Has rows r → books_read r ≡ Some e
    → first (filter_map books_read rows) ≡ Some e
first_told [] up r e has is = elim has [ ]
first_told (z ∷ rows) up r e (inl same) is =
    ap (λ (o : Option (ℕ × ℕ × ℕ)). first (cons_option o (filter_map books_read rows))) (ap books_read (sym same) ∙ is)
first_told (z ∷ rows) up r e (inr later) is = go (books_read z) refl (first_told rows up.1 r e later is) where
  go : (o : Option (ℕ × ℕ × ℕ)) → books_read z ≡ o → first (filter_map books_read rows) ≡ Some e
      → first (cons_option o (filter_map books_read rows)) ≡ Some e
  go None none rest = rest
  go (Some x) told rest =
      let less : by_key 1 z r ≡ Less = all_has (λ y. by_key 1 z y ≡ Less) rows r up.0 later in
      let tie : by_key 1 z r ≡ Equal =
      ap (row_cmp (take 1 z)) (one_key r e is ∙ sym (one_key z x told)) ∙ tied_itself (by_key_total 1) z in
      let apart : ◌≡◌ {A = Ordering} Less Equal = sym less ∙ tie in
      absurd cc

-- ---- the table

module _ (t : Tables) (up : AreInOrder t) (others : Bool) (answer : 1 ≤ total_of (archived_of t.books) → others ≡ are_others (operator_of t)) where
  abbrev stored : Operator
  stored = operator_of t

  abbrev last : ℕ
  last = last_number stored.entries + open_rentals stored

  abbrev Others : Type 0
  Others = ((last_number stored.rentals ≤ last) × (last ≤ MOST_ENTRIES)) × (befores (fin.entries stored.riders) +ℤ stored.past.revenue ≡ stored.past.cash)

  others_decide : Decides (are_others stored) Others
  others_decide =
      Decides-and (are_numbers_few stored) (is_conserved stored)
      (Decides-and (nat_le (last_number stored.rentals) last) (nat_le last MOST_ENTRIES) (at_most (last_number stored.rentals) last) (at_most last MOST_ENTRIES))
      (Decides-int_eq (befores (fin.entries stored.riders) +ℤ stored.past.revenue) stored.past.cash)

  module _ (r : Row) (has : Has t.books r) (e : ℕ × ℕ × ℕ) (is : books_read r ≡ Some e) where
    -- it is what was told
    told : archived_of t.books ≡ e
    told = ap (λ (o : Option (ℕ × ℕ × ℕ)). unwrap_or o (0, 0, 0)) (first_told t.books (up Books) r e has is)

    answered : 1 ≤ total_of e → others ≡ are_others stored
    answered some = answer (subst (λ (a : ℕ × ℕ × ℕ). 1 ≤ total_of a) (sym told) some)

    row_decides : Decides (nat_le 1 (total_of e) && others) (IsGoodBooks stored e)
    row_decides = (
      λ h.
          let parts = and_parts (nat_le 1 (total_of e)) others h in
          let some = leb-true 1 (total_of e) parts.0 in
          let all = others_decide.0 (sym (answered some) ∙ parts.1) in
          record { some_archived = some; few_rentals = all.0.0; few_entries = all.0.1; conserved = all.1 },
      λ g.
          and_from (nat_le 1 (total_of e)) others (le-leb 1 (total_of e) g.some_archived)
          (answered g.some_archived ∙ others_decide.1 ((g.few_rentals, g.few_entries), g.conserved)),
    )

  books_decide : (n : ℕ) (r : Row) → Has t.books r → Decides (books_test others n r) (IsSomeAnd (books_read r) (IsGoodBooks stored))
  books_decide n r has = go (books_read r) refl where
    go : (o : Option (ℕ × ℕ × ℕ)) → books_read r ≡ o → Decides (books_hold others o) (IsSomeAnd o (IsGoodBooks stored))
    go None is = (λ h. absurd cc, λ h. absurd h)
    go (Some e) is = row_decides r has e is

  pub books_verdict : (v : Option Row) → IsFirstFailing t Books (Demands t Books (books_test others)) v → IsTableVerdict t Books v
  books_verdict = verdict_of t Books (λ key. tt) (Demands t Books (books_test others)) (record {
    good = λ key r is has h. (books_decide (rows_below t Books key) r has).0 (demanded t Books (books_test others) key r is h);
    from = λ key r is has h. demands t Books (books_test others) key r is ((books_decide (rows_below t Books key) r has).1 h);
    none = λ key is. lacking t Books (books_test others) key is;
  })

pub books_judged : (db : Database) (others : Bool) → AnswersWhereArchived are_others db others → EarlierGood (tables_of db) Books → (found : Option BadKey)
    → ((v : Option Row) → first_failing (books_test others) first_column 0 (tables_of db).books ≡ v → option_map key_row found ≡ v)
    → IsTableVerdict (tables_of db) Books (option_map key_row found)
books_judged db others answer earlier found says =
    let t = tables_of db in
    books_verdict t (stored_in_order db) others (answer earlier) (option_map key_row found)
    (rows_verdict t Books (stored_in_order db) (books_test others) first_column (λ row has. refl) (option_map key_row found)
    (sym (says (first_failing (books_test others) first_column 0 t.books) refl)))
