-- Names: whether the system is set, by its key; a further one in a language is among those of its kind and identifier.
use Rattle.std.proofs.Common.{◌≡◌, inl, inr, ℕ, List, [], ◌∷◌, map, filter, Bool, true, false, cond, ◌&&◌, ◌||◌, Option, Some, None, refl, sym, ap, ap₂, subst, ◌∙◌}
use Rattle.std.specs.Prelude.{is_some, option_map}
use Rattle.std.specs.List.{list_any}
use Rattle.std.specs.Str.{bytes_eq}
use Rattle.std.specs.Ordering.{eq_by_cmp}
use Rattle.std.specs.Cmp.{IsTotalOrder, eq_by_cmp_equiv}
use Rattle.std.specs.Cmp.Lexicographic.{nat_list_cmp_total, lists_total, lists_ties}
use Rattle.std.specs.FinMap as fin
use Rattle.std.proofs.lemmas.Map.Text.{is_eq-slice_cmp}
use Rattle.sqlite_rules.specs.Lists.{Has}
use Rattle.bike_catalogue.specs.Rows.{SystemRow}
use Rattle.bike_fields.specs.declared.name_kind.NameKind.{NameKind}
use Rattle.bike_fields.specs.NameKinds.{kind_text}
use Rattle.bike_operator.specs.Operator.{Operator, NameKey, name_key, text_cmp, texts_cmp}
use Rattle.bike_operator.specs.Names.{part_at, is_name_of, further_names}
use Rattle.bike_operator.specs.Sound.{AreNamesSound}
use Rattle.bike_book.proofs.MapRows.{has_get}
use Rattle.bike_office_reads.specs.Accounts.{system_key}
use Rattle.bike_office_reads.specs.ReadRows.{named_in}
use Rattle.bike_views.specs.Parts.{is_among}

pub is_set : (o : Option SystemRow) → is_some (option_map system_key o) ≡ is_some o
is_set None = refl
is_set (Some x) = refl

texts_total : IsTotalOrder texts_cmp
texts_total = lists_total nat_list_cmp_total

three : (a b c : Bool) → ((a && b) && c) ≡ (a && (b && (c && true)))
three true true true = refl
three true true false = refl
three true false c = refl
three false b c = refl

module _ (kind : NameKind) (id language : List ℕ) where
  abbrev is_wanted : NameKey → Bool
  is_wanted key = is_name_of kind id key && bytes_eq (part_at key 2) language

  abbrev has_key : NameKey → Bool
  has_key = eq_by_cmp texts_cmp (name_key kind id language)

  same_key : (other : NameKind) (of tongue : List ℕ) → is_wanted (name_key other of tongue) ≡ has_key (name_key other of tongue)
  same_key other of tongue =
      three (bytes_eq (kind_text other) (kind_text kind)) (bytes_eq of id) (bytes_eq tongue language)
      ∙ lists_ties text_cmp (λ x y. sym (is_eq-slice_cmp x y)) (name_key other of tongue) (name_key kind id language)
      ∙ (eq_by_cmp_equiv texts_total).symm (name_key other of tongue) (name_key kind id language)

  among : (es : List (NameKey × List ℕ)) → ((e : NameKey × List ℕ) → Has es e → is_wanted e.0 ≡ has_key e.0)
      → is_among language (map named_in (filter (λ e. is_name_of kind id e.0) es)) ≡ list_any has_key (map (λ e. e.0) es)
  among [] same = refl
  among (e ∷ es) same = go (is_name_of kind id e.0) (same e (inl refl)) (among es (λ x has. same x (inr has))) where
    go : (b : Bool) → (b && bytes_eq (part_at e.0 2) language) ≡ has_key e.0 → is_among language (map named_in (filter (λ x. is_name_of kind id x.0) es)) ≡ list_any has_key (map (λ x. x.0) es)
        → is_among language (map named_in (cond b (e ∷ filter (λ x. is_name_of kind id x.0) es) (filter (λ x. is_name_of kind id x.0) es))) ≡ (has_key e.0 || list_any has_key (map (λ x. x.0) es))
    go true here rest = ap₂ (λ (x y : Bool). x || y) here rest
    go false here rest = rest ∙ ap (λ (x : Bool). x || list_any has_key (map (λ (x : NameKey × List ℕ). x.0) es)) here

  pub language_among : (s : Operator) → AreNamesSound s → is_among language (further_names s kind id) ≡ fin.contains_key s.more_names (name_key kind id language)
  language_among s sound = among (fin.entries s.more_names) same ∙ sym (fin.contains_key-keys s.more_names (name_key kind id language))
    where
      same : (e : NameKey × List ℕ) → Has (fin.entries s.more_names) e → is_wanted e.0 ≡ has_key e.0
      same e has =
          let it = sound.names e.0 e.1 (has_get texts_total s.more_names e has) in
          subst (λ key. is_wanted key ≡ has_key key) (sym it.key_is) (same_key it.kind it.id it.language)
