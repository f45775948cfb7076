-- In tables whose rows are those of a numbered list, the row with a number spells the record of that place.
use Rattle.std.proofs.Common.{◌≡◌, ℕ, List, Option, Some, None, refl, ap, ◌∙◌}
use Rattle.std.specs.Prelude.{map, option_map, option_and_then}
use Rattle.sqlite_value.specs.Order.{Row}
use Rattle.bike_sql.specs.View.{row_with}
use Rattle.bike_operator.specs.Operator.{Numbered, item_numbered}
use Rattle.bike_book.specs.Stored.{with_numbers}
use Rattle.bike_book.proofs.MapRows.{BeginsWithKey}
use Rattle.bike_book.proofs.Keys.{number_key, numbers}
use Rattle.bike_book.proofs.NumberRows.{found_number}

module _ {A : Type 0} (row : ℕ × A → Row) (begins : BeginsWithKey numbers row) (read : Row → Option (ℕ × A)) where
  abbrev pub record_at : List Row → ℕ → Option A
  record_at rows n = option_map (λ e. e.1) (option_and_then read (row_with 1 (number_key n) rows))

  pub at_number : (rows : List Row) (l : Numbered A) → rows ≡ map row (with_numbers l) → ((n : ℕ) (x : A) → item_numbered n l ≡ Some x → read (row (n, x)) ≡ Some (n, x)) → (n : ℕ)
      → record_at rows n ≡ item_numbered n l
  at_number rows l are back n =
      ap (λ (rs : List Row). record_at rs n) are ∙ ap (λ (o : Option Row). option_map (λ (e : ℕ × A). e.1) (option_and_then read o)) (found_number row begins n l) ∙ go (item_numbered n l) refl
    where
      go : (o : Option A) → item_numbered n l ≡ o → option_map (λ (e : ℕ × A). e.1) (option_and_then read (option_map (λ x. row (n, x)) o)) ≡ o
      go None is = refl
      go (Some x) is = ap (option_map (λ (e : ℕ × A). e.1)) (back n x is)
