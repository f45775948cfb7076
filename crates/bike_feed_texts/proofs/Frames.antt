-- The text of a feed, from its parts.
use Rattle.std.proofs.Common.{◌≡◌, ℕ, List, [], ◌∷◌, ◌++◌, true, false, refl, sym, ap, ◌∙◌, append_assoc, append-nil}
use Rattle.std.specs.Prelude.{codes}
use Rattle.bike_catalogue.specs.Rows.{MoreNameRow, SystemRow}
use Rattle.bike_json.specs.Outputs.{OutputState}
use Rattle.bike_json.specs.Escapes.{string_text}
use Rattle.bike_json.specs.Tree.{Tree, Items, comma, text, text_of, items_text, members_text}
use Rattle.bike_json.specs.Rows.{items}
use Rattle.bike_json.specs.State.{Place, Wrote, has_more}
use Rattle.bike_json.specs.declared.level.Level.TheVariants.{Start, EmptyObject, FilledObject, NamedObject}
use Rattle.bike_json.proofs.Series.{Wrote_then, Wrote_as}
use Rattle.bike_fields.specs.declared.name_kind.NameKind.TheVariants as named
use Rattle.bike_operator.specs.Operator.{Operator}
use Rattle.bike_operator.specs.Names.{further_names}
use Rattle.bike_feed_texts.specs.declared.feed.Feed.TheVariants.{SystemInformation}
use Rattle.bike_feed_texts.specs.Elements.{members}
use Rattle.bike_feed_texts.specs.Trees.{head_members, system_members, contact_members, further_languages, information_tree, feed_frame, listing, feed_tree}
use Rattle.bike_feed_texts.specs.Writing.{WroteValue, WroteMembers, head_text, list_head_text, list_end_text, information_head_text, information_end_text}

pub frame_text : (x : SystemRow) (seconds : ℕ) (tree : Tree) → text_of (feed_frame x seconds tree) ≡ head_text x seconds ++ (text_of tree ++ 125 ∷ [])
frame_text x seconds tree = simp (append_assoc, append-nil)

listing_text : (name list : List ℕ)
    → (123 ∷ ((name ++ 58 ∷ ((91 ∷ (list ++ 93 ∷ [])) ++ [])) ++ 125 ∷ [])) ++ 125 ∷ [] ≡ 123 ∷ ((name ++ 58 ∷ 91 ∷ []) ++ (list ++ list_end_text))
listing_text name list =
    let whole : List ℕ = 58 ∷ 91 ∷ ((list ++ 93 ∷ []) ++ []) in
    ap (λ l. 123 ∷ l) (
    append_assoc (name ++ whole) (125 ∷ []) (125 ∷ [])
    ∙ (append_assoc name whole (125 ∷ 125 ∷ [])
    ∙ (ap (λ l. name ++ 58 ∷ 91 ∷ (l ++ 125 ∷ 125 ∷ [])) (append-nil (list ++ 93 ∷ []))
    ∙ (ap (λ l. name ++ 58 ∷ 91 ∷ l) (append_assoc list (93 ∷ []) (125 ∷ 125 ∷ []))
    ∙ sym (append_assoc name (58 ∷ 91 ∷ []) (list ++ list_end_text)))))
    )

pub list_text : (x : SystemRow) (seconds : ℕ) (name : List ℕ) (list : Items)
    → text_of (feed_frame x seconds (listing name list)) ≡ list_head_text x seconds name ++ (items_text false list ++ list_end_text)
list_text x seconds name list =
    frame_text x seconds (listing name list)
    ∙ (ap (λ l. head_text x seconds ++ l) (listing_text (string_text name) (items_text false list))
    ∙ sym (append_assoc (head_text x seconds) (123 ∷ (string_text name ++ 58 ∷ 91 ∷ [])) (items_text false list ++ list_end_text)))

-- a feed up to its data
pub head_then : {p q r t : Place} {a b c d : OutputState} (x : SystemRow) (seconds : ℕ) → p.top ≡ Start → Wrote p q a b (comma (has_more p.top) ++ 123 ∷ [])
    → q.top ≡ EmptyObject → WroteMembers q r b c (members (head_members x seconds))
    → r.top ≡ FilledObject → Wrote r t c d (comma (has_more r.top) ++ string_text (codes "data") ++ 58 ∷ [])
    → Wrote p t a d (head_text x seconds)
head_then {p} {q} {r} {t} x seconds at one e two f three =
    let head = members (head_members x seconds) in
    let named : List ℕ = comma (has_more r.top) ++ string_text (codes "data") ++ 58 ∷ [] in
    Wrote_as (
    ap (λ l. ((comma (has_more l) ++ 123 ∷ []) ++ members_text (has_more q.top) head) ++ named) at
    ∙ (ap (λ l. (123 ∷ members_text (has_more l) head) ++ named) e
    ∙ ap (λ l. (123 ∷ members_text false head) ++ (comma (has_more l) ++ string_text (codes "data") ++ 58 ∷ [])) f)
    ) (Wrote_then (Wrote_then one two.are) three)

-- a feed up to the first item of its list
pub list_head_then : {p q r t u : Place} {a b c d f : OutputState} (x : SystemRow) (seconds : ℕ) (name : List ℕ) → Wrote p q a b (head_text x seconds)
    → q.top ≡ NamedObject → Wrote q r b c (comma (has_more q.top) ++ 123 ∷ []) → r.top ≡ EmptyObject → Wrote r t c d (comma (has_more r.top) ++ string_text name ++ 58 ∷ [])
    → t.top ≡ NamedObject → Wrote t u d f (comma (has_more t.top) ++ 91 ∷ []) → Wrote p u a f (list_head_text x seconds name)
list_head_then {p} {q} {r} {t} x seconds name one e two f three g four =
    let head = head_text x seconds in
    let first : List ℕ = comma (has_more q.top) ++ 123 ∷ [] in
    let second : List ℕ = comma (has_more r.top) ++ string_text name ++ 58 ∷ [] in
    Wrote_as (
    ap (λ l. head ++ (first ++ (second ++ (comma (has_more l) ++ 91 ∷ [])))) g
    ∙ (ap (λ l. head ++ (first ++ ((comma (has_more l) ++ string_text name ++ 58 ∷ []) ++ 91 ∷ []))) f
    ∙ (ap (λ l. head ++ ((comma (has_more l) ++ 123 ∷ []) ++ ((string_text name ++ 58 ∷ []) ++ 91 ∷ []))) e
    ∙ ap (λ l. head ++ 123 ∷ l) (append_assoc (string_text name) (58 ∷ []) (91 ∷ []))))
    ) (Wrote_then one (Wrote_then two (Wrote_then three four)))

-- ---- the feed of the system

information_parts : (first value name list rest : List ℕ)
    → (123 ∷ ((first ++ 58 ∷ (value ++ 44 ∷ (name ++ 58 ∷ ((91 ∷ (list ++ 93 ∷ [])) ++ rest)))) ++ 125 ∷ [])) ++ 125 ∷ []
    ≡ (123 ∷ ((first ++ 58 ∷ (value ++ [])) ++ 44 ∷ (name ++ 58 ∷ 91 ∷ []))) ++ (list ++ 93 ∷ (rest ++ 125 ∷ 125 ∷ []))
information_parts first value name list rest = simp (append_assoc, append-nil)

pub information_text : (s : Operator) (x : SystemRow) (seconds : ℕ)
    → text_of (feed_tree s x SystemInformation seconds) ≡ information_head_text x seconds
    ++ (items_text false (items text (x.language ∷ further_languages s)) ++ information_end_text x (further_names s named.System x.system_id))
information_text s x seconds =
    let list = items_text false (items text (x.language ∷ further_languages s)) in
    let rest = members_text true (members (contact_members x (further_names s named.System x.system_id))) in
    frame_text x seconds (information_tree s x)
    ∙ (ap (λ l. head_text x seconds ++ l) (information_parts (string_text (codes "system_id")) (string_text x.system_id) (string_text (codes "languages")) list rest)
    ∙ sym (append_assoc (head_text x seconds) _ (list ++ information_end_text x (further_names s named.System x.system_id))))

-- up to the first of its languages
pub information_head_then : {p q r t u v : Place} {a b c d f h : OutputState} (x : SystemRow) (seconds : ℕ) → Wrote p q a b (head_text x seconds)
    → q.top ≡ NamedObject → Wrote q r b c (comma (has_more q.top) ++ 123 ∷ []) → r.top ≡ EmptyObject → WroteMembers r t c d (members (system_members x))
    → t.top ≡ FilledObject → Wrote t u d f (comma (has_more t.top) ++ string_text (codes "languages") ++ 58 ∷ []) → u.top ≡ NamedObject → Wrote u v f h (comma (has_more u.top) ++ 91 ∷ [])
    → Wrote p v a h (information_head_text x seconds)
information_head_then {q = q} {r = r} {t = t} {u = u} x seconds one e two f three h four i five =
    let first = members (system_members x) in
    let name = string_text (codes "languages") in
    let same : head_text x seconds ++ ((comma (has_more q.top) ++ 123 ∷ []) ++ (members_text (has_more r.top) first
    ++ ((comma (has_more t.top) ++ name ++ 58 ∷ []) ++ (comma (has_more u.top) ++ 91 ∷ []))))
    ≡ information_head_text x seconds =
    rw (e, f, h, i) (ap (λ l. head_text x seconds ++ 123 ∷ (members_text false first ++ 44 ∷ l)) (append_assoc name (58 ∷ []) (91 ∷ []))) in
    Wrote_as same (Wrote_then one (Wrote_then two (Wrote_then three.are (Wrote_then four five))))

-- behind the last
pub information_end_then : {p q r t u : Place} {a b c d f : OutputState} (x : SystemRow) (names : List MoreNameRow) → Wrote p q a b (93 ∷ []) → q.top ≡ FilledObject
    → WroteMembers q r b c (members (contact_members x names)) → Wrote r t c d (125 ∷ []) → Wrote t u d f (125 ∷ []) → Wrote p u a f (information_end_text x names)
information_end_then {q = q} x names one e two three four =
    let same : 93 ∷ [] ++ (members_text (has_more q.top) (members (contact_members x names)) ++ (125 ∷ [] ++ 125 ∷ [])) ≡ information_end_text x names = rw e refl in
    Wrote_as same (Wrote_then one (Wrote_then two.are (Wrote_then three four)))

-- a whole feed whose data are a list
pub list_then : {p q r t : Place} {a b c d : OutputState} (x : SystemRow) (seconds : ℕ) (name : List ℕ) (list : Items) → p.top ≡ Start
    → Wrote p q a b (list_head_text x seconds name) → Wrote q r b c (items_text false list) → Wrote r t c d list_end_text
    → WroteValue p t a d (feed_frame x seconds (listing name list))
list_then {p} {q} {r} {t} {a} {b} {c} {d} x seconds name list at one two three = record {
  are =
      Wrote_as (sym (list_text x seconds name list) ∙ ap (λ l. comma (has_more l) ++ text_of (feed_frame x seconds (listing name list))) (sym at))
      (Wrote_then one (Wrote_then two three));
}
