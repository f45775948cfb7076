-- An object whose members are those of a list, written one after the other, and one whose member is an array.
use Rattle.std.proofs.Common.{◌≡◌, ℕ, zero, suc, ◌+◌, ◌<◌, ◌≤◌, List, [], ◌∷◌, ◌++◌, Bool, true, false, IsTrue, length, drop, get_or, refl, sym, ap, ◌∙◌, arith, append_assoc, append-nil}
use Rattle.bike_json.specs.Escapes.{string_text}
use Rattle.bike_json.specs.Outputs.{OutputState}
use Rattle.bike_json.specs.Tree.{Tree, Items, object, array, member, no_members, comma, text_of, members_text, items_text}
use Rattle.bike_json.specs.State.{Place, Wrote, WroteNext, IsAt, takes_name, takes_value, takes_array_end, has_more, after_value}
use Rattle.bike_json.specs.declared.level.Level.{Level}
use Rattle.bike_json.specs.declared.level.Level.TheVariants.{Start, Done, EmptyArray, FilledArray, EmptyObject, FilledObject, NamedObject}
use Rattle.bike_json.proofs.Series.{Wrote_then, Wrote_as}
use Rattle.bike_http_response.specs.Bodies.{members, member_text}

-- what was written of an object, with the text of the members that are left, is its text but for its end
pub record SoFar (from to : Place) (old new : OutputState) (all left : List (List ℕ × Tree)) : Type 0 where
  pub front : List ℕ
  pub wrote : Wrote from to old new front
  pub split : comma (has_more from.top) ++ 123 ∷ members_text false (members all) ≡ front ++ members_text (has_more to.top) (members left)
  pub inside : IsTrue (takes_name to.top)
  pub round : to.round ≡ after_value from.top ∷ from.round

pub members_start : {p q : Place} {a b : OutputState} (all : List (List ℕ × Tree)) → WroteNext p q a b (123 ∷ []) → IsAt q EmptyObject (after_value p.top ∷ p.round)
    → SoFar p q a b all all
members_start {p} {q} {a} {b} all w at = record {
  front = comma (has_more p.top) ++ 123 ∷ [];
  wrote = w;
  split = rw at.0 (sym (append_assoc (comma (has_more p.top)) (123 ∷ []) (members_text false (members all))));
  inside = rw at.0 refl;
  round = at.1;
}

one_more : (front name text : List ℕ) (more : Bool) (rest : List ℕ)
    → front ++ (comma more ++ (string_text name ++ 58 ∷ (text ++ rest))) ≡ (front ++ (comma more ++ (string_text name ++ 58 ∷ text))) ++ rest
one_more front name text more rest = simp append_assoc

pub members_next : {p q r : Place} {a b c : OutputState} {all left rest : List (List ℕ × Tree)} {m : List ℕ × Tree}
    → SoFar p q a b all left → left ≡ m ∷ rest → Wrote q r b c (member_text (has_more q.top) m.0 m.1) → IsAt r FilledObject q.round
    → SoFar p r a c all rest
members_next {p} {q} {r} {a} {b} {c} {all} {left} {rest} {m} s e w at = record {
  front = s.front ++ member_text (has_more q.top) m.0 m.1;
  wrote = Wrote_then s.wrote w;
  split = s.split ∙ (ap (λ l. s.front ++ members_text (has_more q.top) (members l)) e
      ∙ (one_more s.front m.0 (text_of m.1) (has_more q.top) (members_text true (members rest))
      ∙ ap (λ (l : Level). (s.front ++ member_text (has_more q.top) m.0 m.1) ++ members_text (has_more l) (members rest)) (sym at.0)));
  inside = rw at.0 refl;
  round = at.1 ∙ s.round;
}

pub members_end : {p q r : Place} {a b c : OutputState} {all left : List (List ℕ × Tree)} → SoFar p q a b all left → left ≡ [] → Wrote q r b c (125 ∷ [])
    → WroteNext p r a c (text_of (object (members all)))
members_end {p} {q} {r} {a} {b} {c} {all} {left} s e w =
    let whole = s.split ∙ (ap (λ l. s.front ++ members_text (has_more q.top) (members l)) e ∙ append-nil s.front) in
    Wrote_as (ap (λ l. l ++ 125 ∷ []) (sym whole) ∙ append_assoc (comma (has_more p.top)) (123 ∷ members_text false (members all)) (125 ∷ [])) (Wrote_then s.wrote w)

-- the element at a place comes first of those from there on
pub drop_get : {X : Type 0} (xs : List X) (i : ℕ) (d : X) → i < length xs → drop i xs ≡ get_or xs i d ∷ drop (i + 1) xs
drop_get [] i d lt = absurd (omega arith)
drop_get (x ∷ xs) zero d lt = refl
drop_get (x ∷ xs) (suc i) d lt = let e : suc i + 1 ≡ suc (i + 1) = omega arith in rw e (drop_get xs i d (omega arith))

-- a member's name and its value
pub member_parts : (more : Bool) (name text : List ℕ) → (comma more ++ string_text name ++ 58 ∷ []) ++ text ≡ comma more ++ (string_text name ++ 58 ∷ text)
member_parts more name text =
    append_assoc (comma more ++ string_text name) (58 ∷ []) text ∙ append_assoc (comma more) (string_text name) (58 ∷ text)

pub drop_none : {X : Type 0} (xs : List X) (i : ℕ) → length xs ≤ i → drop i xs ≡ []
drop_none [] zero le = refl
drop_none [] (suc i) le = refl
drop_none (x ∷ xs) zero le = absurd (omega arith)
drop_none (x ∷ xs) (suc i) le = drop_none xs i (omega arith)

-- where an array may end, a value may come
pub takes_item : (level : Level) → IsTrue (takes_array_end level) → IsTrue (takes_value level)
takes_item Start h = refl
takes_item Done h = absurd (cc h)
takes_item EmptyArray h = refl
takes_item FilledArray h = refl
takes_item EmptyObject h = absurd (cc h)
takes_item FilledObject h = absurd (cc h)
takes_item NamedObject h = refl

one_text : (more : Bool) (name items : List ℕ)
    → (((((comma more ++ 123 ∷ []) ++ (string_text name ++ 58 ∷ [])) ++ 91 ∷ []) ++ items) ++ 93 ∷ []) ++ 125 ∷ []
    ≡ comma more ++ (123 ∷ ((string_text name ++ 58 ∷ ((91 ∷ (items ++ 93 ∷ [])) ++ [])) ++ 125 ∷ []))
one_text more name items = simp (append_assoc, append-nil)

-- an object whose one member is an array
pub one_array : {p q r s t u v : Place} {a b c d e f g : OutputState} (name : List ℕ) (all : Items)
    → WroteNext p q a b (123 ∷ []) → q.top ≡ EmptyObject → Wrote q r b c (comma (has_more q.top) ++ string_text name ++ 58 ∷ []) → r.top ≡ NamedObject
    → WroteNext r s c d (91 ∷ []) → Wrote s t d e (items_text false all) → Wrote t u e f (93 ∷ []) → Wrote u v f g (125 ∷ [])
    → WroteNext p v a g (text_of (object (member name (array all) no_members)))
one_array {p} {q} {r} name all begun empty named waits opened items ended closed =
    let name_only = Wrote_as (ap (λ (l : Level). comma (has_more l) ++ string_text name ++ 58 ∷ []) empty) named in
    let bracket = Wrote_as (ap (λ (l : Level). comma (has_more l) ++ 91 ∷ []) waits) opened in
    Wrote_as (one_text (has_more p.top) name (items_text false all))
    (Wrote_then (Wrote_then (Wrote_then (Wrote_then (Wrote_then begun name_only) bracket) items) ended) closed)
