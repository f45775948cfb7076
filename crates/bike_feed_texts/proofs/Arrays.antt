-- Arrays that are written item by item.
use Rattle.std.proofs.Common.{◌≡◌, ℕ, ◌+◌, ◌<◌, ◌≤◌, List, [], ◌∷◌, ◌++◌, IsTrue, length, drop, get_or, refl, sym, ap, ◌∙◌, append_assoc, false}
use Rattle.std.proofs.lemmas.List.{drop_more, drop_all}
use Rattle.bike_json.specs.Outputs.{OutputState}
use Rattle.bike_json.specs.Tree.{Tree, Items, array, comma, items_text}
use Rattle.bike_json.specs.Rows.{items}
use Rattle.bike_json.specs.State.{Place, Wrote, IsAt, takes_value, takes_array_end, has_more, after_value}
use Rattle.bike_json.specs.declared.level.Level.{Level}
use Rattle.bike_json.specs.declared.level.Level.TheVariants.{Start, Done, EmptyArray, FilledArray, EmptyObject, FilledObject, NamedObject}
use Rattle.bike_json.proofs.Rows.{SoFar, rows_next, rows_end}
use Rattle.bike_json.proofs.Series.{Wrote_then, Wrote_as}
use Rattle.bike_feed_texts.specs.Writing.{WroteValue}

-- where an array may end, a value may come
pub takes_item : (level : Level) → IsTrue (takes_array_end level) → IsTrue (takes_value level)
takes_item Start h = refl
takes_item Done h = absurd (cc h)
takes_item EmptyArray h = refl
takes_item FilledArray h = refl
takes_item EmptyObject h = absurd (cc h)
takes_item FilledObject h = absurd (cc h)
takes_item NamedObject h = refl

-- an array with its items
pub array_then : {p q r t : Place} {a b c d : OutputState} {all : Items}
    → Wrote p q a b (comma (has_more p.top) ++ 91 ∷ []) → Wrote q r b c (items_text false all) → Wrote r t c d (93 ∷ []) → WroteValue p t a d (array all)
array_then {p} {q} {r} {t} {a} {b} {c} {d} {all} one two three = record {
  are =
      Wrote_as (append_assoc (comma (has_more p.top) ++ 91 ∷ []) (items_text false all) (93 ∷ []) ∙ append_assoc (comma (has_more p.top)) (91 ∷ []) _)
      (Wrote_then (Wrote_then one two) three);
}

module _ {X : Type 0} (tree : X → Tree) {p q : Place} {a b : OutputState} {all : List X} (rest : List X) where
  -- a loop's turn, at an index of the rows of which it writes all
  pub turn : {r : Place} {c : OutputState} (i : ℕ) (x : X) → SoFar tree p q a b all (drop i rest) → i < length rest → x ≡ get_or rest i x
      → WroteValue q r b c (tree x) → IsAt r (after_value q.top) q.round → SoFar tree p r a c all (drop (i + 1) rest)
  turn i x s lt is w at = rows_next tree s (drop_more rest i x lt ∙ ap (λ y. y ∷ drop (i + 1) rest) (sym is)) w.are at

  -- the same where the item has no name of its own
  pub turn_at : {r : Place} {c : OutputState} (i : ℕ) (d : X) → SoFar tree p q a b all (drop i rest) → i < length rest
      → WroteValue q r b c (tree (get_or rest i d)) → IsAt r (after_value q.top) q.round → SoFar tree p r a c all (drop (i + 1) rest)
  turn_at i d s lt w at = rows_next tree s (drop_more rest i d lt) w.are at

  -- a loop's end
  pub turned : (i : ℕ) → SoFar tree p q a b all (drop i rest) → length rest ≤ i → Wrote p q a b (items_text false (items tree all))
  turned i s le = rows_end tree s (drop_all i rest le)
