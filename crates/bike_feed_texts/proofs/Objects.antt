-- Objects that are written part by part.
use Rattle.std.proofs.Common.{◌≡◌, ℕ, List, [], ◌∷◌, ◌++◌, Bool, true, refl, sym, ap, ◌∙◌, append_assoc, append-nil}
use Rattle.bike_json.specs.Outputs.{OutputState}
use Rattle.bike_json.specs.Escapes.{string_text}
use Rattle.bike_json.specs.Tree.{Tree, object, Members, no_members, member, comma, text_of, members_text}
use Rattle.bike_json.specs.State.{Place, Wrote, has_more}
use Rattle.bike_json.specs.declared.level.Level.TheVariants.{EmptyObject, FilledObject, NamedObject}
use Rattle.bike_json.proofs.Series.{Wrote_then, Wrote_as}
use Rattle.bike_json.proofs.Rows.{wrote_nothing}
use Rattle.bike_feed_texts.specs.Elements.{NamedTree, members}
use Rattle.bike_feed_texts.specs.Writing.{WroteValue, WroteMember, WroteMembers}

member_text : (more : Bool) (name value rest : List ℕ) → (comma more ++ (string_text name ++ 58 ∷ value)) ++ rest ≡ comma more ++ (string_text name ++ 58 ∷ (value ++ rest))
member_text more name value rest =
    append_assoc (comma more) (string_text name ++ 58 ∷ value) rest ∙ ap (λ l. comma more ++ l) (append_assoc (string_text name) (58 ∷ value) rest)

named_text : (more : Bool) (name value : List ℕ) → (comma more ++ string_text name ++ 58 ∷ []) ++ value ≡ comma more ++ (string_text name ++ 58 ∷ value)
named_text more name value = append_assoc (comma more ++ string_text name) (58 ∷ []) value ∙ append_assoc (comma more) (string_text name) (58 ∷ value)

-- a name and then its value
pub name_then : {p q r : Place} {a b c : OutputState} {name : List ℕ} {value : Tree}
    → Wrote p q a b (comma (has_more p.top) ++ string_text name ++ 58 ∷ []) → q.top ≡ NamedObject → Wrote q r b c (comma (has_more q.top) ++ text_of value)
    → WroteMember p r a c name value
name_then {p} {q} {r} {a} {b} {c} {name} {value} w e v = record {
  are =
      let first : List ℕ = comma (has_more p.top) ++ string_text name ++ 58 ∷ [] in
      Wrote_as (ap (λ l. first ++ (comma (has_more l) ++ text_of value)) e ∙ named_text (has_more p.top) name (text_of value)) (Wrote_then w v);
}

-- a name and then its value, which was written by a call of its own
pub name_value : {p q r : Place} {a b c : OutputState} {name : List ℕ} {value : Tree}
    → Wrote p q a b (comma (has_more p.top) ++ string_text name ++ 58 ∷ []) → q.top ≡ NamedObject → WroteValue q r b c value → WroteMember p r a c name value
name_value w e v = name_then w e v.are

-- one member before others
pub member_then : {p q r : Place} {a b c : OutputState} {name : List ℕ} {value : Tree} {rest : Members}
    → WroteMember p q a b name value → q.top ≡ FilledObject → WroteMembers q r b c rest → WroteMembers p r a c (member name value rest)
member_then {p} {q} {r} {a} {b} {c} {name} {value} {rest} w e more = record {
  are =
      let first : List ℕ = comma (has_more p.top) ++ (string_text name ++ 58 ∷ text_of value) in
      Wrote_as (ap (λ l. first ++ members_text (has_more l) rest) e ∙ member_text (has_more p.top) name (text_of value) (members_text true rest)) (Wrote_then w.are more.are);
}

-- the last member
pub member_last : {p q : Place} {a b : OutputState} {name : List ℕ} {value : Tree}
    → WroteMember p q a b name value → WroteMembers p q a b (member name value no_members)
member_last {p} {q} {a} {b} {name} {value} w = record {
  are = Wrote_as (ap (λ l. comma (has_more p.top) ++ (string_text name ++ 58 ∷ l)) (sym (append-nil (text_of value)))) w.are;
}

pub members_none : (p : Place) (a : OutputState) → WroteMembers p p a a no_members
members_none p a = record { are = wrote_nothing p a }

members_text-append : (ms ns : List NamedTree) → members_text true (members (ms ++ ns)) ≡ members_text true (members ms) ++ members_text true (members ns)
members_text-append [] ns = refl
members_text-append (m ∷ ms) ns =
    let rest = members_text true (members ms) in
    ap (λ l. comma true ++ (string_text m.0 ++ 58 ∷ (text_of m.1 ++ l))) (members_text-append ms ns)
    ∙ ap (λ l. comma true ++ (string_text m.0 ++ 58 ∷ l)) (sym (append_assoc (text_of m.1) rest (members_text true (members ns))))
    ∙ sym (member_text true m.0 (text_of m.1 ++ rest) (members_text true (members ns)))

-- members, of which there may be none, before others
pub members_then : {p q r : Place} {a b c : OutputState} (ms ns : List NamedTree)
    → WroteMembers p q a b (members ms) → p.top ≡ FilledObject → q.top ≡ FilledObject → WroteMembers q r b c (members ns) → WroteMembers p r a c (members (ms ++ ns))
members_then {p} {q} {r} {a} {b} {c} ms ns one d e two = record {
  are =
      Wrote_as (
      ap (λ l. members_text (has_more l) (members ms) ++ members_text (has_more q.top) (members ns)) d
      ∙ (ap (λ l. members_text true (members ms) ++ members_text (has_more l) (members ns)) e
      ∙ (sym (members_text-append ms ns) ∙ ap (λ l. members_text (has_more l) (members (ms ++ ns))) (sym d)))
      ) (Wrote_then one.are two.are);
}

-- an object with its members
pub object_then : {p q r t : Place} {a b c d : OutputState} {all : Members}
    → Wrote p q a b (comma (has_more p.top) ++ 123 ∷ []) → q.top ≡ EmptyObject → WroteMembers q r b c all → Wrote r t c d (125 ∷ [])
    → WroteValue p t a d (object all)
object_then {p} {q} {r} {t} {a} {b} {c} {d} {all} one e two three = record {
  are =
      let first : List ℕ = comma (has_more p.top) ++ 123 ∷ [] in
      Wrote_as (
      ap (λ l. (first ++ members_text (has_more l) all) ++ 125 ∷ []) e
      ∙ (append_assoc first (members_text (has_more EmptyObject) all) (125 ∷ []) ∙ append_assoc (comma (has_more p.top)) (123 ∷ []) _)
      ) (Wrote_then (Wrote_then one two.are) three);
}
