-- What the lists of the feeds are made of.
use Rattle.std.proofs.Common.{◌≡◌, ℕ, List, [], ◌∷◌, map, find, Bool, true, false, cond, ◌&&◌, Option, Some, None, option_map, T, refl, sym, ap, ap₂, subst}
use Rattle.std.specs.Prelude.{slice_get}
use Rattle.std.specs.Ordering.{is_lt}
use Rattle.std.specs.FinMap.{FinMap, entries, entries_sorted}
use Rattle.std.specs.FinMap.Entries as list
use Rattle.bike_catalogue.specs.Rows.{SystemRow}
use Rattle.bike_json.specs.Tree.{Tree, text}
use Rattle.bike_operator.specs.Operator.{Operator, Station, text_cmp}
use Rattle.bike_feed_texts.specs.Elements.{status_tree}
use Rattle.bike_feed_texts.specs.Trees.{report_of, counts_of, names_by_language, further_languages, station_element}
use Rattle.bike_queries.specs.After.{IsNext, next_language}
use Rattle.bike_feeds.proofs.WalkLemmas.{Walk, map_walk}

-- what is listed by an identifier, as it says itself
abbrev pub listed : {X : Type 0} → (X → List ℕ) → (Operator → SystemRow → X → Tree) → (Operator → FinMap text_cmp X) → SystemRow → Walk X
listed key element held x = map_walk key (λ s. element s x) held

abbrev pub stations : SystemRow → Walk Station
stations x = map_walk (λ y. y.row.station_id) (λ s. station_element s x) (λ s. s.stations)

abbrev pub statuses : Walk Station
statuses = map_walk (λ y. y.row.station_id) (λ s y. status_tree (report_of y) (counts_of s y)) (λ s. s.stations)

-- ---- the languages

-- a language is its own identifier
abbrev pub with_itself : List ℕ × List ℕ → List ℕ × List ℕ
with_itself e = (e.0, e.0)

pub below_with_itself : (k : List ℕ) (es : List (List ℕ × List ℕ)) → list.below_all text_cmp k (map with_itself es) ≡ list.below_all text_cmp k es
below_with_itself k [] = refl
below_with_itself k (e ∷ es) = ap (λ b. is_lt (text_cmp k e.0) && b) (below_with_itself k es)

pub sorted_with_itself : (es : List (List ℕ × List ℕ)) → list.is_sorted text_cmp (map with_itself es) ≡ list.is_sorted text_cmp es
sorted_with_itself [] = refl
sorted_with_itself (e ∷ es) = ap₂ (λ a b. a && b) (below_with_itself e.0 es) (sorted_with_itself es)

-- the system's stands before those that are read
abbrev pub languages : SystemRow → Walk (List ℕ)
languages x = record {
  id = λ l. l;
  tree = λ s. text;
  rows = λ s. x.language ∷ further_languages s;
  held = λ s. map with_itself (entries (names_by_language s));
  sorted = λ s. subst T (sym (sorted_with_itself (entries (names_by_language s)))) (entries_sorted (names_by_language s));
}

all_with_itself : (es : List (List ℕ × List ℕ)) → map (λ e. e.0) es ≡ map (λ e. e.1) (map with_itself es)
all_with_itself [] = refl
all_with_itself (e ∷ es) = ap (λ ls. e.0 ∷ ls) (all_with_itself es)

pub languages_all : (x : SystemRow) (s : Operator) → (languages x).rows s ≡ x.language ∷ map (λ e. e.1) ((languages x).held s)
languages_all x s = ap (λ ls. x.language ∷ ls) (all_with_itself (entries (names_by_language s)))

first_with_itself : (es : List (List ℕ × List ℕ)) → IsNext (λ l. l) (slice_get (map with_itself es) 0) (option_map (λ e. e.0) (slice_get es 0))
first_with_itself [] = tt
first_with_itself (e ∷ es) = (refl, refl)

found_with_itself : (p : List ℕ → Bool) (es : List (List ℕ × List ℕ)) → IsNext (λ l. l) (find (λ e. p e.0) (map with_itself es)) (option_map (λ e. e.0) (find (λ e. p e.0) es))
found_with_itself p [] = tt
found_with_itself p (e ∷ es) =
    elim (p e.0) as (λ b. IsNext (λ l. l) (cond b (Some (with_itself e)) (find (λ y. p y.0) (map with_itself es))) (option_map (λ y. y.0) (cond b (Some e) (find (λ y. p y.0) es)))) [
      | true ↦ (refl, refl)
      | false ↦ found_with_itself p es
    ]

-- the answers to the first question and to the next
pub language_first : (x : SystemRow) (next : Option (List ℕ)) (s : Operator) → next ≡ next_language None s → IsNext (λ l. l) (slice_get ((languages x).held s) 0) next
language_first x next s is = subst (IsNext (λ l. l) (slice_get ((languages x).held s) 0)) (sym is) (first_with_itself (entries (names_by_language s)))

pub language_next : (x : SystemRow) (after : List ℕ) (next : Option (List ℕ)) (s : Operator) → next ≡ next_language (Some after) s
    → IsNext (λ l. l) (find (λ e. is_lt (text_cmp after e.0)) ((languages x).held s)) next
language_next x after next s is =
    subst (IsNext (λ l. l) (find (λ e. is_lt (text_cmp after e.0)) ((languages x).held s))) (sym is)
    (found_with_itself (λ l. is_lt (text_cmp after l)) (entries (names_by_language s)))
