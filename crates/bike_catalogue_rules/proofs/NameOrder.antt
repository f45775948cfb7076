-- Rows of further names stand by the kind and the identifier of what has them, and then by their languages: those of one thing stand together.
use Rattle.std.proofs.Common.{◌≡◌, ℕ, List, true, Some, refl, sym, ap₂, ◌∙◌}
use Rattle.std.specs.Str.{bytes_eq}
use Rattle.std.specs.Ordering.{ordering_then, ordering_reverse}
use Rattle.std.specs.declared.cmp.Ordering.{Ordering}
use Rattle.std.specs.declared.cmp.Ordering.TheVariants.{Less, Equal, Greater}
use Rattle.std.proofs.lemmas.Bool.{and_from}
use Rattle.std.proofs.lemmas.Cmp.{tied_itself}
use Rattle.std.proofs.lemmas.Slice.Eq.{bytes_eq-Decides}
use Rattle.sqlite_value.specs.Order.{Row}
use Rattle.sqlite_value.proofs.OrderLemmas.{value_cmp-Text, then-Equal}
use Rattle.bike_fields.proofs.Lengths.{both_hold}
use Rattle.bike_fields.specs.NameKinds.{kind_text}
use Rattle.bike_operator.specs.Operator.{text_cmp, name_key}
use Rattle.bike_book.specs.Rows.{name_row}
use Rattle.bike_book.proofs.Keys.{texts}
use Rattle.bike_sql.specs.View.{by_key}
use Rattle.bike_readings.specs.Readings.{name_read}
use Rattle.bike_readings.proofs.CatalogueRows.{name_reading}
use Rattle.bike_catalogue_rules.specs.Names.{FurtherName, is_of_same}

-- ---- of one thing

-- what has both names
pub record AreOfSame (a b : FurtherName) : Type 0 where
  pub kinds : kind_text a.0 ≡ kind_text b.0
  pub ids : a.1 ≡ b.1

pub same_means : (a b : FurtherName) → is_of_same a b ≡ true → AreOfSame a b
same_means a b is =
    let both = both_hold (bytes_eq (kind_text a.0) (kind_text b.0)) (bytes_eq a.1 b.1) is in
    record { kinds = (bytes_eq-Decides (kind_text a.0) (kind_text b.0)).0 both.0; ids = (bytes_eq-Decides a.1 b.1).0 both.1 }

pub means_same : (a b : FurtherName) → AreOfSame a b → is_of_same a b ≡ true
means_same a b same =
    and_from (bytes_eq (kind_text a.0) (kind_text b.0)) (bytes_eq a.1 b.1) ((bytes_eq-Decides (kind_text a.0) (kind_text b.0)).1 same.kinds) ((bytes_eq-Decides a.1 b.1).1 same.ids)

-- ---- the order

-- the order of the keys of two rows
pub name_cmp : FurtherName → FurtherName → Ordering
name_cmp a b = ordering_then (text_cmp (kind_text a.0) (kind_text b.0)) (ordering_then (text_cmp a.1 b.1) (text_cmp a.2.language b.2.language))

stored_cmp : (a b : FurtherName) → by_key 3 (name_row (name_key a.0 a.1 a.2.language) a.2.name) (name_row (name_key b.0 b.1 b.2.language) b.2.name) ≡ name_cmp a b
unfolding name_cmp
stored_cmp a b =
    rw (value_cmp-Text (kind_text a.0) (kind_text b.0), value_cmp-Text a.1 b.1, value_cmp-Text a.2.language b.2.language, then-Equal (text_cmp a.2.language b.2.language)) refl

pub names_cmp : (q r : Row) (a b : FurtherName) → name_read q ≡ Some a → name_read r ≡ Some b → by_key 3 q r ≡ name_cmp a b
names_cmp q r a b e f = ap₂ (by_key 3) (name_reading.sound q a e).0 (name_reading.sound r b f).0 ∙ stored_cmp a b

-- two orders in a row, and the first one back: the first is none
tied_first : (o p q : Ordering) → ordering_then o p ≡ Less → ordering_then (ordering_reverse o) q ≡ Less → (o ≡ Equal) × (p ≡ Less) × (q ≡ Less)
tied_first Less p q low back = absurd cc
tied_first Equal p q low back = (refl, low, back)
tied_first Greater p q low back = absurd cc

same_text : (a b : List ℕ) → text_cmp a b ≡ Equal → a ≡ b
same_text a b tie = texts.same a b tie

turned : (a b : List ℕ) → text_cmp b a ≡ ordering_reverse (text_cmp a b)
turned a b = texts.total.antisymm b a

-- a name between two of one thing is of that
pub between : (a b c : FurtherName) → AreOfSame a c → name_cmp a b ≡ Less → name_cmp b c ≡ Less → AreOfSame b c
unfolding name_cmp
between a b c same low high =
    let back : name_cmp b c ≡ ordering_then (ordering_reverse (text_cmp (kind_text a.0) (kind_text b.0))) (ordering_then (ordering_reverse (text_cmp a.1 b.1)) (text_cmp b.2.language c.2.language)) =
    ap₂ (λ (k i : List ℕ). ordering_then (text_cmp (kind_text b.0) k) (ordering_then (text_cmp b.1 i) (text_cmp b.2.language c.2.language))) (sym same.kinds) (sym same.ids)
    ∙ ap₂ (λ (o p : Ordering). ordering_then o (ordering_then p (text_cmp b.2.language c.2.language))) (turned (kind_text a.0) (kind_text b.0)) (turned a.1 b.1) in
    let kinds = tied_first (text_cmp (kind_text a.0) (kind_text b.0)) (ordering_then (text_cmp a.1 b.1) (text_cmp a.2.language b.2.language)) (ordering_then (ordering_reverse (text_cmp a.1 b.1)) (text_cmp b.2.language c.2.language)) low (sym back ∙ high) in
    let ids = tied_first (text_cmp a.1 b.1) (text_cmp a.2.language b.2.language) (text_cmp b.2.language c.2.language) kinds.1 kinds.2 in
    record { kinds = sym (same_text (kind_text a.0) (kind_text b.0) kinds.0) ∙ same.kinds; ids = sym (same_text a.1 b.1 ids.0) ∙ same.ids }

-- of one thing, the lesser has the lesser language
pub by_language : (a b : FurtherName) → AreOfSame a b → name_cmp a b ≡ text_cmp a.2.language b.2.language
unfolding name_cmp
by_language a b same =
    ap₂ (λ (k i : List ℕ). ordering_then (text_cmp k (kind_text b.0)) (ordering_then (text_cmp i b.1) (text_cmp a.2.language b.2.language))) same.kinds same.ids
    ∙ ap₂ (λ (o p : Ordering). ordering_then o (ordering_then p (text_cmp a.2.language b.2.language))) (tied_itself texts.total (kind_text b.0)) (tied_itself texts.total b.1)
