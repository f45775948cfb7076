-- The rows of a page's names: those that are a station's own.
use Rattle.std.proofs.Common.{◌≡◌, ℕ, List, [], ◌∷◌, map, filter, Bool, ◌&&◌, true, false, not, cond, refl, ap, ap₂, ◌∙◌}
use Rattle.std.specs.Ordering.{is_eq, is_le, is_lt}
use Rattle.std.specs.Str.{bytes_eq}
use Rattle.std.proofs.lemmas.Slice.Eq.{bytes_eq-Decides}
use Rattle.std.proofs.lemmas.Map.Text.{is_eq-slice_cmp}
use Rattle.std.specs.declared.cmp.Ordering.{Ordering}
use Rattle.sqlite_value.specs.declared.value.Value.TheVariants.{Text}
use Rattle.sqlite_value.specs.Order.{Row, column, value_cmp}
use Rattle.sqlite_value.proofs.OrderLemmas.{value_cmp-Text}
use Rattle.bike_fields.specs.declared.name_kind.NameKind.TheVariants as named
use Rattle.bike_fields.specs.NameKinds.{kind_text}
use Rattle.bike_operator.specs.Names.{part_at, is_name_of}
use Rattle.bike_operator.specs.Operator.{NameKey, text_cmp}
use Rattle.bike_book.specs.Stored.{stored_name}
use Rattle.bike_office_reads.specs.ReadRows.{owned_name, is_name_within}
use Rattle.bike_schema.specs.Within.{is_within}
use Rattle.bike_schema.proofs.WithinLaw.{and_true}
use Rattle.bike_queries.specs.Pages.{is_same_text}
use Rattle.bike_queries.proofs.PageLaw.{and_false}

and_assoc : (a b c : Bool) → ((a && b) && c) ≡ (a && (b && c))
and_assoc true b c = refl
and_assoc false b c = refl

-- The identifier isn't below the start, nor above the last.
module _ (start last id : List ℕ) (low : not (is_lt (text_cmp id start)) ≡ true) (high : is_le (text_cmp id last) ≡ true) where
  inside : is_within (Text start) (Text last) (Text id) ≡ true
  inside =
      ap₂ (λ (a b : Bool). a && b) (ap (λ (r : Ordering). not (is_lt r)) (value_cmp-Text id start) ∙ low)
      (ap is_le (value_cmp-Text id last) ∙ high)

  -- a text that lies between and is the identifier
  own_text : (t : List ℕ) → (is_within (Text start) (Text last) (Text t) && bytes_eq t id) ≡ bytes_eq t id
  own_text t = go (bytes_eq t id) refl where
    go : (b : Bool) → bytes_eq t id ≡ b → (is_within (Text start) (Text last) (Text t) && b) ≡ b
    go true same = and_true _ ∙ ap (λ (u : List ℕ). is_within (Text start) (Text last) (Text u)) ((bytes_eq-Decides t id).0 same) ∙ inside
    go false other = and_false _

  -- ---- further names

  name_is : (n : NameKey × List ℕ) → (is_name_within named.Station start last (stored_name n) && bytes_eq (part_at n.0 1) id) ≡ is_name_of named.Station id n.0
  name_is n =
      and_assoc (is_eq (value_cmp (Text (part_at n.0 0)) (Text (kind_text named.Station)))) (is_within (Text start) (Text last) (Text (part_at n.0 1))) (bytes_eq (part_at n.0 1) id)
      ∙ ap₂ (λ (a b : Bool). a && b) (ap is_eq (value_cmp-Text (part_at n.0 0) (kind_text named.Station)) ∙ is_eq-slice_cmp (part_at n.0 0) (kind_text named.Station)) (own_text (part_at n.0 1))

  -- one name more
  module _ (n : NameKey × List ℕ) (ns : List (NameKey × List ℕ)) where
    abbrev more : List Row
    more = filter (is_name_within named.Station start last) (map stored_name ns)

    abbrev others : List Row
    others = filter (λ r. is_same_text (Text id) (column r 0)) (map owned_name more)

    abbrev its_names : List (NameKey × List ℕ)
    its_names = filter (λ x. is_name_of named.Station id x.0) ns

    first : (b : Bool) → filter (λ r. is_same_text (Text id) (column r 0)) (map owned_name (cond b (stored_name n ∷ more) more))
        ≡ cond b (cond (bytes_eq (part_at n.0 1) id) (owned_name (stored_name n) ∷ others) others) others
    first true = refl
    first false = refl

    nested : (a b : Bool) → cond a (cond b (owned_name (stored_name n) ∷ others) others) others ≡ cond (a && b) (owned_name (stored_name n) ∷ others) others
    nested true b = refl
    nested false b = refl

    kept : (b : Bool) → others ≡ map owned_name (map stored_name its_names) → cond b (owned_name (stored_name n) ∷ others) others ≡ map owned_name (map stored_name (cond b (n ∷ its_names) its_names))
    kept true rest = ap (λ (rs : List Row). owned_name (stored_name n) ∷ rs) rest
    kept false rest = rest

    one_more : others ≡ map owned_name (map stored_name its_names) → filter (λ r. is_same_text (Text id) (column r 0))
        (map owned_name (filter (is_name_within named.Station start last) (map stored_name (n ∷ ns))))
        ≡ map owned_name (map stored_name (filter (λ x. is_name_of named.Station id x.0) (n ∷ ns)))
    one_more rest =
        first (is_name_within named.Station start last (stored_name n))
        ∙ nested (is_name_within named.Station start last (stored_name n)) (bytes_eq (part_at n.0 1) id)
        ∙ ap (λ (b : Bool). cond b (owned_name (stored_name n) ∷ others) others) (name_is n)
        ∙ kept (is_name_of named.Station id n.0) rest

  pub own_names : (ns : List (NameKey × List ℕ)) → filter (λ r. is_same_text (Text id) (column r 0)) (map owned_name (filter (is_name_within named.Station start last) (map stored_name ns)))
      ≡ map owned_name (map stored_name (filter (λ n. is_name_of named.Station id n.0) ns))
  own_names [] = refl
  own_names (n ∷ ns) = one_more n ns (own_names ns)
