-- What keeps names in further languages sound.
use Rattle.std.proofs.Common.{◌≡◌, ℕ, ◌+◌, ◌≤◌, ◌<◌, List, [], ◌∷◌, length, filter, Bool, true, false, cond, ◌&&◌, Option, Some, None, is_some, refl, sym, ap, ◌∙◌, arith}
use Rattle.std.specs.Prelude.{option_map}
use Rattle.std.specs.Str.{bytes_eq}
use Rattle.std.specs.Ordering.{is_eq}
use Rattle.std.specs.declared.cmp.Ordering.{Ordering}
use Rattle.std.specs.declared.cmp.Ordering.TheVariants.{Less, Equal, Greater}
use Rattle.std.specs.FinMap as map
use Rattle.std.specs.FinMap.{FinMap}
use Rattle.std.specs.FinMap.Entries.{put, by_order}
use Rattle.std.proofs.lemmas.List.{length-map}
use Rattle.bike_fields.specs.Bytes.{is_name}
use Rattle.bike_catalogue.specs.Rows.{PlanRow, TypeRow, RegionRow, SystemRow}
use Rattle.bike_fields.specs.NameKinds.{kind_text}
use Rattle.bike_fields.specs.declared.name_kind.NameKind.{NameKind}
use Rattle.bike_fields.specs.declared.name_kind.NameKind.TheVariants as named
use Rattle.bike_operator.specs.declared.limits.TheConstants.{MOST_FURTHER_NAMES}
use Rattle.bike_operator.specs.Operator.{Operator, Station, text_cmp, texts_cmp, NameKey, name_key}
use Rattle.bike_operator.specs.Counts.{count}
use Rattle.bike_operator.specs.Names.{is_system, is_own_language, has_named, part_at, is_name_of, further_names}
use Rattle.bike_operator.specs.Sound.{IsNameAt, AreNamesSound}
use Rattle.bike_laws.proofs.SingleSteps.MapLemmas.{IsKeyOrder, texts_order, IsAdded, New, Old, added_at, insert-remove, put_back, removed_gone, removed_at}
use Rattle.bike_laws.proofs.SingleSteps.CountLemmas.{one, count-cons}
use Rattle.bike_laws.proofs.SingleSteps.TestLemmas.{same_bytes}

-- ---- one more entry

module _ {K X : Type 0} {R : K → K → Ordering} (o : IsKeyOrder R) (test : K → Bool) where
  -- under a new key: so many more keys pass
  count_key-put : (k : K) (v : X) (es : List (K × X)) → map.find R k es ≡ None → count (λ e. test e.0) (put R k v es) ≡ count (λ e. test e.0) es + one (test k)
  count_key-put k v [] free = let c = count-cons (λ (e : K × X). test e.0) (k, v) [] in omega (arith, c)
  count_key-put k v (e ∷ es) free = go (R k e.0) free (count_key-put k v es) where
    go : (r : Ordering) → cond (is_eq r) (Some e.1) (map.find R k es) ≡ None → (map.find R k es ≡ None → count (λ e. test e.0) (put R k v es) ≡ count (λ e. test e.0) es + one (test k))
        → count (λ e. test e.0) (by_order r ((k, v) ∷ e ∷ es) ((e.0, v) ∷ es) (e ∷ put R k v es)) ≡ count (λ e. test e.0) (e ∷ es) + one (test k)
    go Less free rest = let c = count-cons (λ (e : K × X). test e.0) (k, v) (e ∷ es) in omega (arith, c)
    go Equal free rest = absurd cc
    go Greater free rest =
        let c = count-cons (λ (e : K × X). test e.0) e (put R k v es) in
        let d = count-cons (λ (e : K × X). test e.0) e es in
        let f = rest free in
        omega (arith, c, d, f)

  pub count_key-added : (m : FinMap R X) (k : K) (v : X) → map.get m k ≡ None → count (λ e. test e.0) (map.entries (map.insert m k v)) ≡ count (λ e. test e.0) (map.entries m) + one (test k)
  count_key-added m k v free = rw (map.entries-insert o.total m k v) (count_key-put k v (map.entries m) (sym (map.get-entries m k) ∙ free))

  -- a key removed: so many fewer pass
  pub count_key-removed : (m : FinMap R X) (k : K) (v : X) → map.get m k ≡ Some v → count (λ e. test e.0) (map.entries (map.remove m k)) + one (test k) ≡ count (λ e. test e.0) (map.entries m)
  count_key-removed m k v found =
      sym (count_key-added (map.remove m k) k v (removed_gone o m k)) ∙ ap (λ (z : FinMap R X). count (λ e. test e.0) (map.entries z)) (put_back o m k v found)

  -- under a key that is there: as many pass
  pub count_key-set : (m : FinMap R X) (k : K) (v x : X) → map.get m k ≡ Some x → count (λ e. test e.0) (map.entries (map.insert m k v)) ≡ count (λ e. test e.0) (map.entries m)
  count_key-set m k v x found =
      ap (λ (z : FinMap R X). count (λ e. test e.0) (map.entries z)) (sym (insert-remove o m k v)) ∙ count_key-added (map.remove m k) k v (removed_gone o m k) ∙ count_key-removed m k x found

-- ---- how many further names there are of what has a kind and an identifier

pub names_counted : (s : Operator) (kind : NameKind) (id : List ℕ) → length (further_names s kind id) ≡ count (λ e. is_name_of kind id e.0) (map.entries s.more_names)
names_counted s kind id = length-map (filter (λ e. is_name_of kind id e.0) (map.entries s.more_names)) (λ e. record { language = part_at e.0 2; name = e.1 })

same_both : (a b c d : List ℕ) → (bytes_eq a b && bytes_eq c d) ≡ true → (a ≡ b) × (c ≡ d)
same_both a b c d e = go (bytes_eq a b) (bytes_eq c d) refl refl e where
  go : (x y : Bool) → bytes_eq a b ≡ x → bytes_eq c d ≡ y → (x && y) ≡ true → (a ≡ b) × (c ≡ d)
  go true true e f is = (same_bytes a b e, same_bytes c d f)
  go true false e f is = absurd cc
  go false y e f is = absurd cc

module _ (s : Operator) (kind : NameKind) (id language name : List ℕ) (free : map.get s.more_names (name_key kind id language) ≡ None) where
  abbrev with_name : Operator
  with_name = record s { more_names = map.insert s.more_names (name_key kind id language) name }

  -- one more of what the name is given to, and as many of all else
  pub length-further_names-added : (other : NameKind) (other_id : List ℕ)
      → length (further_names with_name other other_id) ≡ length (further_names s other other_id) + one (is_name_of other other_id (name_key kind id language))
  length-further_names-added other other_id =
      let all = names_counted with_name other other_id in
      let old = names_counted s other other_id in
      let more = count_key-added texts_order (is_name_of other other_id) s.more_names (name_key kind id language) name free in
      omega (arith, all, old, more)

  -- where fewer than so many were there, no more are there now
  pub few_named : (most : ℕ) → length (further_names s kind id) < most → (other : NameKind) (other_id : List ℕ) → length (further_names s other other_id) ≤ most
      → length (further_names with_name other other_id) ≤ most
  few_named most room other other_id few = go (is_name_of other other_id (name_key kind id language)) refl where
    go : (b : Bool) → is_name_of other other_id (name_key kind id language) ≡ b → length (further_names with_name other other_id) ≤ most
    go true is =
        let same = same_both (kind_text kind) (kind_text other) id other_id is in
        let here : length (further_names s other other_id) < most = rw (← same.0, ← same.1) room in
        let more = length-further_names-added other other_id in
        let one_more : one (is_name_of other other_id (name_key kind id language)) ≡ 1 = ap one is in
        omega (arith, here, more, one_more)
    go false is =
        let more = length-further_names-added other other_id in
        let no_more : one (is_name_of other other_id (name_key kind id language)) ≡ 0 = ap one is in
        omega (arith, few, more, no_more)

-- ---- what has names goes on being there

-- the system is the same, and what was there is there
pub record KeepsNamed (s n : Operator) : Type 0 where
  pub system : n.system ≡ s.system
  pub plans : (id : List ℕ) → map.contains_key s.plans id ≡ true → map.contains_key n.plans id ≡ true
  pub types : (id : List ℕ) → map.contains_key s.types id ≡ true → map.contains_key n.types id ≡ true
  pub regions : (id : List ℕ) → map.contains_key s.regions id ≡ true → map.contains_key n.regions id ≡ true
  pub stations : (id : List ℕ) → map.contains_key s.stations id ≡ true → map.contains_key n.stations id ≡ true

abbrev pub NamedParts : Type 0
NamedParts = Option SystemRow × FinMap text_cmp PlanRow × FinMap text_cmp TypeRow × FinMap text_cmp RegionRow × FinMap text_cmp Station

abbrev pub named_parts : Operator → NamedParts
named_parts s = (s.system, s.plans, s.types, s.regions, s.stations)

pub same_named : (s n : Operator) → named_parts n ≡ named_parts s → KeepsNamed s n
same_named s n e = record {
  system = ap (λ (p : NamedParts). p.0) e;
  plans = λ id known. ap (λ (p : NamedParts). map.contains_key p.1 id) e ∙ known;
  types = λ id known. ap (λ (p : NamedParts). map.contains_key p.2 id) e ∙ known;
  regions = λ id known. ap (λ (p : NamedParts). map.contains_key p.3 id) e ∙ known;
  stations = λ id known. ap (λ (p : NamedParts). map.contains_key p.4 id) e ∙ known;
}

named_stands : (s n : Operator) → KeepsNamed s n → (kind : NameKind) (id : List ℕ) → has_named s kind id ≡ true → has_named n kind id ≡ true
named_stands s n keeps named.System id h = ap (λ (x : Option SystemRow). is_system x id) keeps.system ∙ h
named_stands s n keeps named.Station id h = keeps.stations id h
named_stands s n keeps named.Type id h = keeps.types id h
named_stands s n keeps named.Plan id h = keeps.plans id h
named_stands s n keeps named.Description id h = keeps.plans id h
named_stands s n keeps named.Region id h = keeps.regions id h

name_stands : (s n : Operator) → KeepsNamed s n → (key : NameKey) (name : List ℕ) → IsNameAt s key name → IsNameAt n key name
name_stands s n keeps key name h = record {
  kind = h.kind;
  id = h.id;
  language = h.language;
  key_is = h.key_is;
  good_id = h.good_id;
  good = h.good;
  set = ap (λ (x : Option SystemRow). is_some x) keeps.system ∙ h.set;
  named = named_stands s n keeps h.kind h.id h.named;
  further = ap (λ (x : Option SystemRow). is_own_language x h.language) keeps.system ∙ h.further;
}

-- ---- names that are the same, and one more

pub names_kept : (s n : Operator) → n.more_names ≡ s.more_names → KeepsNamed s n → AreNamesSound s → AreNamesSound n
names_kept s n same keeps h = record {
  names = λ key name found. name_stands s n keeps key name (h.names key name (ap (λ (m : FinMap texts_cmp (List ℕ)). map.get m key) (sym same) ∙ found));
  few = λ kind id. rw same (h.few kind id);
}

-- the system is set: there were no further names, since each stands beside a set system
pub system_set_names : (s : Operator) (x : SystemRow) → is_some s.system ≡ false → AreNamesSound s → AreNamesSound (record s { system = Some x })
system_set_names s x unset h = record { names = λ key name found. let set = (h.names key name found).set in absurd cc; few = h.few }

-- What the system keeps that changes: its identifier and its language.
pub record IsKeptSystem (f : SystemRow → SystemRow) : Type 0 where
  pub id : (x : SystemRow) → (f x).system_id ≡ x.system_id
  pub language : (x : SystemRow) → (f x).language ≡ x.language

-- the system changes: it goes on being set
module _ (f : SystemRow → SystemRow) (keeps : IsKeptSystem f) where
  still_set : (o : Option SystemRow) → is_some (option_map f o) ≡ is_some o
  still_set None = refl
  still_set (Some y) = refl

  still_system : (o : Option SystemRow) (id : List ℕ) → is_system (option_map f o) id ≡ is_system o id
  still_system None id = refl
  still_system (Some y) id = ap (λ (own : List ℕ). bytes_eq own id) (keeps.id y)

  still_own_language : (o : Option SystemRow) (language : List ℕ) → is_own_language (option_map f o) language ≡ is_own_language o language
  still_own_language None language = refl
  still_own_language (Some y) language = ap (λ (own : List ℕ). bytes_eq own language) (keeps.language y)

  still_named : (s : Operator) (kind : NameKind) (id : List ℕ) → has_named s kind id ≡ true → has_named (record s { system = option_map f s.system }) kind id ≡ true
  still_named s named.System id h = still_system s.system id ∙ h
  still_named s named.Station id h = h
  still_named s named.Type id h = h
  still_named s named.Plan id h = h
  still_named s named.Description id h = h
  still_named s named.Region id h = h

  still_name : (s : Operator) (key : NameKey) (name : List ℕ) → IsNameAt s key name → IsNameAt (record s { system = option_map f s.system }) key name
  still_name s key name h = record {
    kind = h.kind;
    id = h.id;
    language = h.language;
    key_is = h.key_is;
    good_id = h.good_id;
    good = h.good;
    set = still_set s.system ∙ h.set;
    named = still_named s h.kind h.id h.named;
    further = still_own_language s.system h.language ∙ h.further;
  }

  pub system_changed_names : (s : Operator) → AreNamesSound s → AreNamesSound (record s { system = option_map f s.system })
  system_changed_names s h = record { names = λ key name found. still_name s key name (h.names key name found); few = h.few }

pub name_added : (s : Operator) (kind : NameKind) (id language name : List ℕ) → IsNameAt s (name_key kind id language) name → map.get s.more_names (name_key kind id language) ≡ None
    → length (further_names s kind id) < MOST_FURTHER_NAMES → AreNamesSound s → AreNamesSound (record s { more_names = map.insert s.more_names (name_key kind id language) name })
name_added s kind id language name good free room h =
    let n : Operator = record s { more_names = map.insert s.more_names (name_key kind id language) name } in
    let keeps = same_named s n refl in
    record {
      names = λ key y found. is_name n keeps key y (added_at texts_order s.more_names (name_key kind id language) name key y found);
      few = λ other other_id. few_named s kind id language name free MOST_FURTHER_NAMES room other other_id (h.few other other_id);
    }
  where
    is_name : (n : Operator) → KeepsNamed s n → (key : NameKey) (y : List ℕ) → IsAdded s.more_names (name_key kind id language) name key y → IsNameAt n key y
    is_name n keeps key y (New same is) = name_stands s n keeps key y (rw (same, is) good)
    is_name n keeps key y (Old apart found) = name_stands s n keeps key y (h.names key y found)

-- a further name that is there becomes another
pub name_changed : (s : Operator) (key : NameKey) (name old : List ℕ) → map.get s.more_names key ≡ Some old → is_name name ≡ true → AreNamesSound s
    → AreNamesSound (record s { more_names = map.insert s.more_names key name })
name_changed s key name old found good h =
    let n : Operator = record s { more_names = map.insert s.more_names key name } in
    record {
      names = λ other y is. name_stands s n (same_named s n refl) other y (is_named other y (added_at texts_order s.more_names key name other y is));
      few = λ kind id.
          let all = names_counted n kind id in
          let before = names_counted s kind id in
          let same = count_key-set texts_order (is_name_of kind id) s.more_names key name old found in
          let few = h.few kind id in
          omega (arith, all, before, same, few);
    }
  where
    renamed : (y : List ℕ) → IsNameAt s key y → IsNameAt s key name
    renamed y is = record {
      kind = is.kind;
      id = is.id;
      language = is.language;
      key_is = is.key_is;
      good_id = is.good_id;
      good = record { language = is.good.language; name = good };
      set = is.set;
      named = is.named;
      further = is.further;
    }

    is_named : (other : NameKey) (y : List ℕ) → IsAdded s.more_names key name other y → IsNameAt s other y
    is_named other y (New same is) = rw (same, is) (renamed old (h.names key old found))
    is_named other y (Old apart there) = h.names other y there

-- a further name that is there goes
pub name_removed : (s : Operator) (key : NameKey) (old : List ℕ) → map.get s.more_names key ≡ Some old → AreNamesSound s → AreNamesSound (record s { more_names = map.remove s.more_names key })
name_removed s key old found h =
    let n : Operator = record s { more_names = map.remove s.more_names key } in
    record {
      names = λ other y is. name_stands s n (same_named s n refl) other y (h.names other y (removed_at texts_order s.more_names key other y is));
      few = λ kind id.
          let all = names_counted n kind id in
          let before = names_counted s kind id in
          let fewer = count_key-removed texts_order (is_name_of kind id) s.more_names key old found in
          let few = h.few kind id in
          omega (arith, all, before, fewer, few);
    }
