-- The further names of one thing stand in the order of their languages: there are at most so many exactly where each has fewer before it.
use Rattle.std.proofs.Common.{◌≡◌, inl, inr, ℕ, ◌<◌, ◌≤◌, List, [], ◌∷◌, map, filter, length, Bool, true, false, cond, ◌&&◌, T, Some, refl, sym, ap, ap₂, ◌∙◌}
use Rattle.std.specs.Str.{bytes_eq}
use Rattle.std.specs.Ordering.{on}
use Rattle.std.specs.declared.cmp.Ordering.{Ordering}
use Rattle.std.specs.declared.cmp.Ordering.TheVariants.{Less, Equal}
use Rattle.std.specs.Cmp.{IsTotalOrder}
use Rattle.std.specs.FinMap as fin
use Rattle.std.specs.FinMap.Entries as entries
use Rattle.std.proofs.lemmas.Cmp.{on_total, tied_itself}
use Rattle.std.proofs.lemmas.Option.{same_Some}
use Rattle.std.proofs.lemmas.Slice.Eq.{bytes_eq-Decides}
use Rattle.sqlite_value.proofs.OrderLemmas.{then-Equal}
use Rattle.sqlite_rules.specs.Lists.{Has}
use Rattle.bike_sql.proofs.OrderLemmas.{Rises, all_from}
use Rattle.bike_sql.proofs.RowListLemmas.{has_map, map_has, filter_has, has_filter}
use Rattle.bike_fields.proofs.Lengths.{both_hold}
use Rattle.bike_catalogue.specs.Rows.{MoreNameRow}
use Rattle.bike_fields.specs.declared.name_kind.NameKind.{NameKind}
use Rattle.bike_fields.specs.NameKinds.{kind_text, kind_of}
use Rattle.bike_fields.proofs.NameKinds.{kind_full}
use Rattle.bike_operator.specs.Operator.{Operator, NameKey, text_cmp, texts_cmp, name_key}
use Rattle.bike_operator.specs.Names.{part_at, is_name_of, further_names}
use Rattle.bike_laws.proofs.SingleSteps.MapLemmas.{text_order, texts_order}
use Rattle.bike_laws.proofs.SingleSteps.TestLemmas.{same_bytes}
use Rattle.bike_book.proofs.MapRows.{both, below_has, has_get}
use Rattle.bike_book.proofs.Keys.{triples, IsTriple}
use Rattle.bike_readings.specs.Demands.{names_before}
use Rattle.bike_readings.proofs.ReadBack.{get_has}
use Rattle.bike_readings.proofs.Ranks.{within, has_room}

-- ---- kinds and keys

-- two kinds of one word are one
pub same_kind : (a b : NameKind) → kind_text a ≡ kind_text b → a ≡ b
same_kind a b is = same_Some a b (sym (kind_full a) ∙ ap kind_of is ∙ kind_full b)

-- names stand in the order of their languages
abbrev by_language : MoreNameRow → MoreNameRow → Ordering
by_language = on (λ m. m.language) text_cmp

by_language_total : IsTotalOrder by_language
by_language_total = on_total (λ (m : MoreNameRow). m.language) text_order.total

-- the name under a key
abbrev name_under : NameKey × List ℕ → MoreNameRow
name_under e = record { language = part_at e.0 2; name = e.1 }

-- keys whose first two parts are the same stand as their third parts do
thirds_compare : (a b c d e f : List ℕ) → a ≡ d → b ≡ e → texts_cmp (a ∷ b ∷ c ∷ []) (d ∷ e ∷ f ∷ []) ≡ text_cmp c f
thirds_compare a b c d e f first second =
    let one : text_cmp a d ≡ Equal = ap (text_cmp a) (sym first) ∙ tied_itself text_order.total a in
    let two : text_cmp b e ≡ Equal = ap (text_cmp b) (sym second) ∙ tied_itself text_order.total b in
    rw (one, two) (then-Equal (text_cmp c f))

pub own_name : (kind : NameKind) (id language : List ℕ) → is_name_of kind id (name_key kind id language) ≡ true
own_name kind id language =
    ap₂ (λ (x y : Bool). x && y) ((bytes_eq-Decides (kind_text kind) (kind_text kind)).1 refl) ((bytes_eq-Decides id id).1 refl)

module _ (kind : NameKind) (id : List ℕ) where
  -- the key begins with the word of the kind and with the identifier
  pub name_parts : (key : NameKey) (t : IsTriple key) → is_name_of kind id key ≡ true → (t.first ≡ kind_text kind) × (t.second ≡ id)
  name_parts key t is =
      let tests = both_hold (bytes_eq t.first (kind_text kind)) (bytes_eq t.second id) (ap (is_name_of kind id) (sym t.is) ∙ is) in
      (same_bytes t.first (kind_text kind) tests.0, same_bytes t.second id tests.1)

  -- keys of one thing stand as their languages do
  languages_compare : (a b : NameKey) → IsTriple a → IsTriple b → is_name_of kind id a ≡ true → is_name_of kind id b ≡ true → texts_cmp a b ≡ text_cmp (part_at a 2) (part_at b 2)
  languages_compare a b t u is too =
      let first = name_parts a t is in
      let second = name_parts b u too in
      ap₂ texts_cmp t.is u.is
      ∙ thirds_compare t.first t.second t.third u.first u.second u.third (first.0 ∙ sym second.0) (first.1 ∙ sym second.1)
      ∙ ap₂ (λ (x y : NameKey). text_cmp (part_at x 2) (part_at y 2)) (sym t.is) (sym u.is)

  -- the names of the thing among entries
  abbrev names_in : List (NameKey × List ℕ) → List MoreNameRow
  names_in es = map name_under (filter (λ e. is_name_of kind id e.0) es)

  names_rise : (es : List (NameKey × List ℕ)) → ((e : NameKey × List ℕ) → Has es e → IsTriple e.0) → T (entries.is_sorted texts_cmp es) → Rises by_language_total (names_in es)
  names_rise [] each sorted = tt
  names_rise (e ∷ es) each sorted =
      let parts = both (entries.below_all texts_cmp e.0 es) (entries.is_sorted texts_cmp es) sorted in
      go (is_name_of kind id e.0) refl parts.0 (names_rise es (λ x has. each x (inr has)) parts.1)
    where
      above : is_name_of kind id e.0 ≡ true → T (entries.below_all texts_cmp e.0 es) → (m : MoreNameRow) → Has (names_in es) m → by_language (name_under e) m ≡ Less
      above is low m has =
          let at = map_has name_under (filter (λ e. is_name_of kind id e.0) es) m has in
          let it = has_filter (λ (x : NameKey × List ℕ). is_name_of kind id x.0) es at.0 at.1 in
          ap (by_language (name_under e)) at.2
          ∙ sym (languages_compare e.0 at.0.0 (each e (inl refl)) (each at.0 (inr it.0)) is it.1)
          ∙ below_has texts_order.total e.0 es at.0 low it.0

      go : (b : Bool) → is_name_of kind id e.0 ≡ b → T (entries.below_all texts_cmp e.0 es) → Rises by_language_total (names_in es)
          → Rises by_language_total (map name_under (cond b (e ∷ filter (λ x. is_name_of kind id x.0) es) (filter (λ x. is_name_of kind id x.0) es)))
      go true is low rest = (all_from (λ m. by_language (name_under e) m ≡ Less) (names_in es) (above is low), rest)
      go false is low rest = rest

-- ---- the limit

module _ (s : Operator) (kind : NameKind) (id : List ℕ) where
  -- an entry among the further names of the thing
  pub record IsNameIn (m : MoreNameRow) : Type 0 where
    pub key : NameKey
    pub found : fin.get s.more_names key ≡ Some m.name
    pub language_is : m.language ≡ part_at key 2
    pub named : is_name_of kind id key ≡ true

  name_in : (m : MoreNameRow) → Has (further_names s kind id) m → IsNameIn m
  name_in m has =
      let at = map_has name_under (filter (λ e. is_name_of kind id e.0) (fin.entries s.more_names)) m has in
      let it = has_filter (λ (x : NameKey × List ℕ). is_name_of kind id x.0) (fin.entries s.more_names) at.0 at.1 in
      record {
        key = at.0.0;
        found = has_get texts_order.total s.more_names at.0 it.0 ∙ ap (λ (x : MoreNameRow). Some x.name) (sym at.2);
        language_is = ap (λ (x : MoreNameRow). x.language) at.2;
        named = it.1;
      }

  -- where each further name has room, there are few
  pub few_names : ((key : NameKey) (name : List ℕ) → fin.get s.more_names key ≡ Some name → IsTriple key) → (most : ℕ)
      → ((m : MoreNameRow) → IsNameIn m → length (names_before s kind id m.language) < most) → length (further_names s kind id) ≤ most
  few_names triple most each =
      let sorted = names_rise kind id (fin.entries s.more_names) (λ e has. triple e.0 e.1 (has_get texts_order.total s.more_names e has)) (fin.entries_sorted s.more_names) in
      within by_language_total (further_names s kind id) most sorted (λ m has. each m (name_in m has))

  -- .. and where there are few, each has room
  pub name_room : (language name : List ℕ) (most : ℕ) → fin.get s.more_names (name_key kind id language) ≡ Some name → length (further_names s kind id) ≤ most
      → length (names_before s kind id language) < most
  name_room language name most found few =
      let there = get_has triples s.more_names (name_key kind id language) name found in
      let passes = filter_has (λ (e : NameKey × List ℕ). is_name_of kind id e.0) (fin.entries s.more_names) (name_key kind id language, name) there (own_name kind id language) in
      has_room by_language_total (further_names s kind id) most few (record { language = language; name = name })
      (has_map name_under (filter (λ e. is_name_of kind id e.0) (fin.entries s.more_names)) (name_key kind id language, name) passes)
