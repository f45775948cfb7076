-- Of rows in the order of their keys, of which only one key spells something, what the first that does spells is what the row with that key does.
use Rattle.std.proofs.Common.{◌≡◌, inl, List, [], ◌∷◌, take, Option, Some, None, refl, sym, ap, ◌∙◌, subst}
use Rattle.std.specs.Prelude.{option_and_then}
use Rattle.std.specs.List.{filter_map}
use Rattle.sqlite_value.specs.Order.{Row}
use Rattle.sqlite_rules.specs.Lists.{Has}
use Rattle.bike_sql.specs.View.{row_with}
use Rattle.bike_sql.proofs.OrderLemmas.{Rises}
use Rattle.bike_sql.proofs.TreeLemmas.{by_key_total}
use Rattle.bike_book.specs.Rows.{number_value}
use Rattle.bike_readings.specs.ReadOff.{first}
use Rattle.bike_readings.proofs.Places.{has_under, under_has}
use Rattle.bike_readings.proofs.ReadLists.{read_of, has_read}

abbrev pub one_key : Row
one_key = number_value 1 ∷ []

module _ {X : Type 0} (read : Row → Option X) (begins : (r : Row) (x : X) → read r ≡ Some x → take 1 r ≡ one_key) (rows : List Row) (up : Rises (by_key_total 1) rows) where
  spells_one : (r : Row) (x : X) → Has rows r → read r ≡ Some x → option_and_then read (row_with 1 one_key rows) ≡ Some x
  spells_one r x has is =
      let under : row_with 1 one_key rows ≡ Some r = ap (λ (k : Row). row_with 1 k rows) (sym (begins r x is)) ∙ has_under 1 rows r up has in
      ap (option_and_then read) under ∙ is

  none_spells : filter_map read rows ≡ [] → ◌≡◌ {A = Option X} None (option_and_then read (row_with 1 one_key rows))
  none_spells none = go (row_with 1 one_key rows) refl where
    by : (r : Row) → Has rows r → (o : Option X) → read r ≡ o → ◌≡◌ {A = Option X} None o
    by r has None e = refl
    by r has (Some x) e =
        let left : Has [] x = subst (λ (xs : List X). Has xs x) none (has_read read rows r x has e) in
        elim left [ ]

    go : (o : Option Row) → row_with 1 one_key rows ≡ o → ◌≡◌ {A = Option X} None (option_and_then read o)
    go None e = refl
    go (Some r) e = by r (under_has 1 one_key rows r e).0 (read r) refl

  pub first_is : first (filter_map read rows) ≡ option_and_then read (row_with 1 one_key rows)
  first_is = go (filter_map read rows) refl where
    go : (xs : List X) → filter_map read rows ≡ xs → first xs ≡ option_and_then read (row_with 1 one_key rows)
    go [] is = none_spells is
    go (x ∷ xs) is =
        let it = read_of read rows x (subst (λ (all : List X). Has all x) (sym is) (inl refl)) in
        sym (spells_one it.item x it.has it.read_is)
