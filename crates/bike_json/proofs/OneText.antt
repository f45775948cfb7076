-- Each call keeps what was written a front of one value's text.
use Rattle.std.proofs.Common.{◌≡◌, ℕ, pos, List, [], ◌∷◌, ◌++◌, true, false, IsTrue, refl, sym, ◌∙◌, subst, append_assoc, append-nil}
use Rattle.bike_json.specs.Tree.{Tree, object, array, whole, Members, no_members, member, Items, no_items, item, comma, text_of, members_text, items_text}
use Rattle.bike_json.specs.Escapes.{string_text}
use Rattle.bike_json.specs.Front.{BeginsText, IsText, Calls, none, value, name, begin_array, begin_object, end_array, end_object}
use Rattle.bike_json.specs.State.{takes_value, takes_name, takes_array_end, has_more, after_value}
use Rattle.bike_json.specs.declared.level.Level.{Level}
use Rattle.bike_json.specs.declared.level.Level.TheVariants.{Start, Done, EmptyArray, FilledArray, EmptyObject, FilledObject, NamedObject}

-- however the open level is ended, the levels round it can be ended too
abbrev Stands : List Level → Level → List ℕ → Type 0
Stands [] Start b = (tree : Tree) → IsText (b ++ text_of tree)
Stands [] Done b = IsText b
Stands [] EmptyArray b = ⊥
Stands [] FilledArray b = ⊥
Stands [] EmptyObject b = ⊥
Stands [] FilledObject b = ⊥
Stands [] NamedObject b = ⊥
Stands (outer ∷ round) Start b = ⊥
Stands (outer ∷ round) Done b = ⊥
Stands (outer ∷ round) EmptyArray b = (ts : Items) → Stands round outer (b ++ (items_text false ts ++ 93 ∷ []))
Stands (outer ∷ round) FilledArray b = (ts : Items) → Stands round outer (b ++ (items_text true ts ++ 93 ∷ []))
Stands (outer ∷ round) EmptyObject b = (ms : Members) → Stands round outer (b ++ (members_text false ms ++ 125 ∷ []))
Stands (outer ∷ round) FilledObject b = (ms : Members) → Stands round outer (b ++ (members_text true ms ++ 125 ∷ []))
Stands (outer ∷ round) NamedObject b = (tree : Tree) (ms : Members) → Stands round outer (b ++ (text_of tree ++ (members_text true ms ++ 125 ∷ [])))

begun : (b c : List ℕ) → BeginsText (b ++ c) → BeginsText b
begun b c h = (h.0, c ++ h.1, h.2 ∙ append_assoc b c h.1)

all : (b : List ℕ) → IsText b → BeginsText b
all b h = (h.0, [], h.1 ∙ sym (append-nil b))

stands_begins : (round : List Level) (top : Level) (b : List ℕ) → Stands round top b → BeginsText b
stands_begins [] Start b s = begun b _ (all _ (s (whole (pos 0))))
stands_begins [] Done b s = all b s
stands_begins [] EmptyArray b s = absurd s
stands_begins [] FilledArray b s = absurd s
stands_begins [] EmptyObject b s = absurd s
stands_begins [] FilledObject b s = absurd s
stands_begins [] NamedObject b s = absurd s
stands_begins (outer ∷ round) Start b s = absurd s
stands_begins (outer ∷ round) Done b s = absurd s
stands_begins (outer ∷ round) EmptyArray b s = begun b _ (stands_begins round outer _ (s no_items))
stands_begins (outer ∷ round) FilledArray b s = begun b _ (stands_begins round outer _ (s no_items))
stands_begins (outer ∷ round) EmptyObject b s = begun b _ (stands_begins round outer _ (s no_members))
stands_begins (outer ∷ round) FilledObject b s = begun b _ (stands_begins round outer _ (s no_members))
stands_begins (outer ∷ round) NamedObject b s = begun b _ (stands_begins round outer _ (s (whole (pos 0)) no_members))

itemized : (b c t rest end : List ℕ) → b ++ ((c ++ (t ++ rest)) ++ end) ≡ (b ++ (c ++ t)) ++ (rest ++ end)
itemized b c t rest end = simp append_assoc

stands_value : (round : List Level) (top : Level) (b : List ℕ) (t : Tree) → IsTrue (takes_value top) → Stands round top b
    → Stands round (after_value top) (b ++ (comma (has_more top) ++ text_of t))
stands_value [] Start b t ok s = s t
stands_value [] Done b t ok s = absurd (cc ok)
stands_value [] EmptyArray b t ok s = absurd s
stands_value [] FilledArray b t ok s = absurd s
stands_value [] EmptyObject b t ok s = absurd s
stands_value [] FilledObject b t ok s = absurd s
stands_value [] NamedObject b t ok s = absurd s
stands_value (outer ∷ round) Start b t ok s = absurd s
stands_value (outer ∷ round) Done b t ok s = absurd s
stands_value (outer ∷ round) EmptyArray b t ok s = λ ts. subst (Stands round outer) (itemized b [] (text_of t) (items_text true ts) (93 ∷ [])) (s (item t ts))
stands_value (outer ∷ round) FilledArray b t ok s = λ ts. subst (Stands round outer) (itemized b (44 ∷ []) (text_of t) (items_text true ts) (93 ∷ [])) (s (item t ts))
stands_value (outer ∷ round) EmptyObject b t ok s = absurd (cc ok)
stands_value (outer ∷ round) FilledObject b t ok s = absurd (cc ok)
stands_value (outer ∷ round) NamedObject b t ok s =
    λ ms. subst (Stands round outer) (sym (append_assoc b (text_of t) (members_text true ms ++ 125 ∷ []))) (s t ms)

opened : (b c x rest : List ℕ) → b ++ (c ++ (x ++ rest)) ≡ (b ++ (c ++ x)) ++ rest
opened b c x rest = simp append_assoc

stands_in_array : (round : List Level) (top : Level) (b : List ℕ) → IsTrue (takes_value top) → Stands round top b
    → Stands (after_value top ∷ round) EmptyArray (b ++ (comma (has_more top) ++ 91 ∷ []))
stands_in_array round top b ok s =
    λ ts. subst (Stands round (after_value top)) (opened b (comma (has_more top)) (91 ∷ []) (items_text false ts ++ 93 ∷ [])) (stands_value round top b (array ts) ok s)

stands_in_object : (round : List Level) (top : Level) (b : List ℕ) → IsTrue (takes_value top) → Stands round top b
    → Stands (after_value top ∷ round) EmptyObject (b ++ (comma (has_more top) ++ 123 ∷ []))
stands_in_object round top b ok s =
    λ ms. subst (Stands round (after_value top)) (opened b (comma (has_more top)) (123 ∷ []) (members_text false ms ++ 125 ∷ [])) (stands_value round top b (object ms) ok s)

stands_after_array : (round : List Level) (outer top : Level) (b : List ℕ) → IsTrue (takes_array_end top) → Stands (outer ∷ round) top b → Stands round outer (b ++ 93 ∷ [])
stands_after_array round outer Start b ok s = absurd s
stands_after_array round outer Done b ok s = absurd s
stands_after_array round outer EmptyArray b ok s = s no_items
stands_after_array round outer FilledArray b ok s = s no_items
stands_after_array round outer EmptyObject b ok s = absurd (cc ok)
stands_after_array round outer FilledObject b ok s = absurd (cc ok)
stands_after_array round outer NamedObject b ok s = absurd (cc ok)

stands_after_object : (round : List Level) (outer top : Level) (b : List ℕ) → IsTrue (takes_name top) → Stands (outer ∷ round) top b → Stands round outer (b ++ 125 ∷ [])
stands_after_object round outer Start b ok s = absurd s
stands_after_object round outer Done b ok s = absurd s
stands_after_object round outer EmptyArray b ok s = absurd (cc ok)
stands_after_object round outer FilledArray b ok s = absurd (cc ok)
stands_after_object round outer EmptyObject b ok s = s no_members
stands_after_object round outer FilledObject b ok s = s no_members
stands_after_object round outer NamedObject b ok s = absurd (cc ok)

named : (b c q x t rest end : List ℕ) → b ++ ((c ++ (q ++ (x ++ (t ++ rest)))) ++ end) ≡ (b ++ ((c ++ q) ++ x)) ++ (t ++ (rest ++ end))
named b c q x t rest end = simp append_assoc

stands_named : (round : List Level) (top : Level) (b n : List ℕ) → IsTrue (takes_name top) → Stands round top b
    → Stands round NamedObject (b ++ (comma (has_more top) ++ string_text n ++ 58 ∷ []))
stands_named [] Start b n ok s = absurd (cc ok)
stands_named [] Done b n ok s = absurd (cc ok)
stands_named [] EmptyArray b n ok s = absurd s
stands_named [] FilledArray b n ok s = absurd s
stands_named [] EmptyObject b n ok s = absurd s
stands_named [] FilledObject b n ok s = absurd s
stands_named [] NamedObject b n ok s = absurd s
stands_named (outer ∷ round) Start b n ok s = absurd s
stands_named (outer ∷ round) Done b n ok s = absurd s
stands_named (outer ∷ round) EmptyArray b n ok s = absurd (cc ok)
stands_named (outer ∷ round) FilledArray b n ok s = absurd (cc ok)
stands_named (outer ∷ round) EmptyObject b n ok s =
    λ t ms. subst (Stands round outer) (named b [] (string_text n) (58 ∷ []) (text_of t) (members_text true ms) (125 ∷ [])) (s (member n t ms))
stands_named (outer ∷ round) FilledObject b n ok s =
    λ t ms. subst (Stands round outer) (named b (44 ∷ []) (string_text n) (58 ∷ []) (text_of t) (members_text true ms) (125 ∷ [])) (s (member n t ms))
stands_named (outer ∷ round) NamedObject b n ok s = absurd (cc ok)

stands : (round : List Level) (top : Level) (b : List ℕ) → Calls round top b → Stands round top b
stands _ _ _ none = λ t. (t, refl)
stands _ _ _ (value round top b t ok calls) = stands_value round top b t ok (stands round top b calls)
stands _ _ _ (name round top b n ok calls) = stands_named round top b n ok (stands round top b calls)
stands _ _ _ (begin_array round top b ok calls) = stands_in_array round top b ok (stands round top b calls)
stands _ _ _ (begin_object round top b ok calls) = stands_in_object round top b ok (stands round top b calls)
stands _ _ _ (end_array round outer top b ok calls) = stands_after_array round outer top b ok (stands (outer ∷ round) top b calls)
stands _ _ _ (end_object round outer top b ok calls) = stands_after_object round outer top b ok (stands (outer ∷ round) top b calls)

pub calls_begin : (round : List Level) (top : Level) (b : List ℕ) → Calls round top b → BeginsText b
calls_begin round top b calls = stands_begins round top b (stands round top b calls)

pub calls_end : (b : List ℕ) → Calls [] Done b → IsText b
calls_end b calls = stands [] Done b calls
