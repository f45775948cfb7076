-- The keys of the tables: numbers, texts, three texts, and a dock of a station.
use Rattle.std.proofs.Common.{◌≡◌, ℕ, ◌<◌, pos, ◌<ℤ◌, List, [], ◌∷◌, refl, sym, ap, ◌∙◌, arith}
use Rattle.std.specs.Ordering.{nat_cmp, int_cmp, ordering_then, MatchOrdering}
use Rattle.std.specs.declared.cmp.Ordering.{Ordering}
use Rattle.std.specs.declared.cmp.Ordering.TheVariants.{Less, Equal, Greater}
use Rattle.std.specs.Cmp.{nat_cmp_is, int_ranks}
use Rattle.std.specs.Cmp.Lexicographic.{slice_cmp}
use Rattle.std.proofs.lemmas.Int.{ints}
use Rattle.sqlite_value.specs.declared.value.Value.TheVariants.{Text}
use Rattle.sqlite_value.specs.Order.{Row, row_cmp, value_cmp}
use Rattle.sqlite_value.proofs.OrderLemmas.{value_cmp-Int, value_cmp-Text, then-Equal}
use Rattle.bike_fields.specs.NameKinds.{kind_text}
use Rattle.bike_fields.specs.declared.name_kind.NameKind.{NameKind}
use Rattle.bike_operator.specs.Operator.{NameKey, DockKey, name_key, dock_key, text_cmp, texts_cmp}
use Rattle.bike_laws.proofs.SingleSteps.MapLemmas.{number_order, text_order, texts_order}
use Rattle.bike_book.specs.Rows.{number_value, first_text, second_text, third_text, second_number}
use Rattle.bike_book.proofs.MapRows.{StoresKeys}

-- ---- numbers

pub value_cmp-number_value : (a b : ℕ) → value_cmp (number_value a) (number_value b) ≡ nat_cmp a b
value_cmp-number_value a b = value_cmp-Int (pos a) (pos b) ∙ nat_cmp_is a b (int_cmp (pos a) (pos b)) (as_naturals (int_cmp (pos a) (pos b)) (int_ranks (pos a) (pos b))) where
  as_naturals : (r : Ordering) → MatchOrdering r (pos a <ℤ pos b) (pos a ≡ pos b) (pos b <ℤ pos a) → MatchOrdering r (a < b) (a ≡ b) (b < a)
  as_naturals Less h = omega (arith, ints, h)
  as_naturals Equal h = omega (arith, ints, h)
  as_naturals Greater h = omega (arith, ints, h)

abbrev pub number_key : ℕ → Row
number_key n = number_value n ∷ []

pub numbers : StoresKeys nat_cmp 1 number_key (λ _. Unit {0})
numbers = record { total = number_order.total; same = number_order.same; compares = λ a b _ _. then-Equal (value_cmp (number_value a) (number_value b)) ∙ value_cmp-number_value a b }

-- ---- texts

abbrev pub text_key : List ℕ → Row
text_key t = Text t ∷ []

pub texts : StoresKeys text_cmp 1 text_key (λ _. Unit {0})
texts = record { total = text_order.total; same = text_order.same; compares = λ a b _ _. then-Equal (value_cmp (Text a) (Text b)) ∙ value_cmp-Text a b }

-- ---- three texts

pub record IsTriple (k : NameKey) : Type 0 where
  pub first : List ℕ
  pub second : List ℕ
  pub third : List ℕ
  pub is : k ≡ first ∷ second ∷ third ∷ []

abbrev pub triple_key : NameKey → Row
triple_key k = Text (first_text k) ∷ Text (second_text k) ∷ Text (third_text k) ∷ []

triples_compare : (a b c d e f : List ℕ) → row_cmp (Text a ∷ Text b ∷ Text c ∷ []) (Text d ∷ Text e ∷ Text f ∷ []) ≡ texts_cmp (a ∷ b ∷ c ∷ []) (d ∷ e ∷ f ∷ [])
triples_compare a b c d e f = rw (value_cmp-Text a d, value_cmp-Text b e, value_cmp-Text c f) refl

pub triples : StoresKeys texts_cmp 3 triple_key IsTriple
triples = record { total = texts_order.total; same = texts_order.same; compares = λ a b p q. rw (p.is, q.is) (triples_compare p.first p.second p.third q.first q.second q.third) }

-- the key of a name in a further language
pub name_triple : (kind : NameKind) (id language : List ℕ) → IsTriple (name_key kind id language)
name_triple kind id language = record { first = kind_text kind; second = id; third = language; is = refl }

-- ---- a dock of a station

pub record IsDockPair (k : DockKey) : Type 0 where
  pub station : List ℕ
  pub dock : ℕ
  pub is : k ≡ dock_key station dock

abbrev pub dock_pair : DockKey → Row
dock_pair k = Text (first_text k) ∷ number_value (second_number k) ∷ []

docks_compare : (a b : List ℕ) (m n : ℕ) → row_cmp (Text a ∷ number_value m ∷ []) (Text b ∷ number_value n ∷ []) ≡ texts_cmp (dock_key a m) (dock_key b n)
docks_compare a b m n =
    rw (value_cmp-Text a b, value_cmp-number_value m n) (ap (λ (r : Ordering). ordering_then (slice_cmp nat_cmp a b) (ordering_then r Equal)) (sym (then-Equal (nat_cmp m n))))

pub docks : StoresKeys texts_cmp 2 dock_pair IsDockPair
docks = record { total = texts_order.total; same = texts_order.same; compares = λ a b p q. rw (p.is, q.is) (docks_compare p.station q.station p.dock q.dock) }
