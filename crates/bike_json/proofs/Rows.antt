-- An array whose items are the rows of a list, written one row after the other.
use Rattle.std.proofs.Common.{◌≡◌, ℕ, ◌<◌, List, [], ◌∷◌, ◌++◌, Bool, true, false, IsTrue, length, refl, sym, ap, ◌∙◌, subst, arith, append_assoc, append-nil, length-append}
use Rattle.bike_stream.specs.Writing.{AppendsFront}
use Rattle.bike_json.specs.Tree.{Tree, comma, text_of, items_text}
use Rattle.bike_json.specs.Rows.{items, WroteFront}
use Rattle.bike_json.specs.Outputs.{OutputState}
use Rattle.bike_json.specs.State.{Place, Writes, Wrote, IsAt, takes_array_end, has_more, after_value}
use Rattle.bike_json.specs.declared.level.Level.{Level}
use Rattle.bike_json.specs.declared.level.Level.TheVariants.{Start, Done, EmptyArray, FilledArray, EmptyObject, FilledObject, NamedObject}
use Rattle.std.proofs.KnownBytes.{Appends-nil, Keeps-refl}
use Rattle.bike_json.proofs.Series.{Wrote_then, Wrote_as, Wrote_front}

module _ {X : Type 0} (tree : X → Tree) where
  -- in an array: what was written, with the text of the rows that are left, is the text of all rows
  pub record SoFar (from to : Place) (old new : OutputState) (all left : List X) : Type 0 where
    pub front : List ℕ
    pub wrote : Wrote from to old new front
    pub split : items_text false (items tree all) ≡ front ++ items_text (has_more to.top) (items tree left)
    pub inside : IsTrue (takes_array_end to.top)
    pub round : to.round ≡ from.round

nothing : (f : Bool) (m : ℕ) (a : OutputState) → Writes f f m m a a []
nothing true m a = (refl, refl, Keeps-refl a.bytes)
nothing false m a = (Appends-nil a.bytes, omega arith)

pub wrote_nothing : (p : Place) (a : OutputState) → Wrote p p a a []
wrote_nothing p a = record { are = nothing p.failed p.count a; same = refl }

after_item : (level : Level) → IsTrue (takes_array_end level) → after_value level ≡ FilledArray
after_item Start h = absurd (cc h)
after_item Done h = absurd (cc h)
after_item EmptyArray h = refl
after_item FilledArray h = refl
after_item EmptyObject h = absurd (cc h)
after_item FilledObject h = absurd (cc h)
after_item NamedObject h = absurd (cc h)

-- before the first row
pub rows_start : {X : Type 0} (tree : X → Tree) (p : Place) (a : OutputState) (all : List X) → p.top ≡ EmptyArray → SoFar tree p p a a all all
rows_start tree p a all at = record { front = []; wrote = wrote_nothing p a; split = rw at refl; inside = rw at refl; round = refl }

-- one row more
pub rows_next : {X : Type 0} (tree : X → Tree) {p q r : Place} {a b c : OutputState} {all left rest : List X} {x : X}
    → SoFar tree p q a b all left → left ≡ x ∷ rest → Wrote q r b c (comma (has_more q.top) ++ text_of (tree x)) → IsAt r (after_value q.top) q.round
    → SoFar tree p r a c all rest
rows_next tree {p} {q} {r} {a} {b} {c} {all} {left} {rest} {x} s e w at =
    let filled : r.top ≡ FilledArray = at.0 ∙ after_item q.top s.inside in
    let piece = comma (has_more q.top) ++ text_of (tree x) in
    record {
      front = s.front ++ piece;
      wrote = Wrote_then s.wrote w;
      split = s.split ∙ (ap (λ l. s.front ++ items_text (has_more q.top) (items tree l)) e
          ∙ (ap (λ l. s.front ++ l) (sym (append_assoc (comma (has_more q.top)) (text_of (tree x)) (items_text true (items tree rest))))
          ∙ (sym (append_assoc s.front piece (items_text true (items tree rest)))
          ∙ ap (λ l. (s.front ++ piece) ++ items_text (has_more l) (items tree rest)) (sym filled))));
      inside = rw filled refl;
      round = at.1 ∙ s.round;
    }

-- after the last
pub rows_end : {X : Type 0} (tree : X → Tree) {p q : Place} {a b : OutputState} {all left : List X} → SoFar tree p q a b all left → left ≡ []
    → Wrote p q a b (items_text false (items tree all))
rows_end tree {p} {q} {a} {b} {all} {left} s e =
    Wrote_as (sym (s.split ∙ (ap (λ l. s.front ++ items_text (has_more q.top) (items tree l)) e ∙ append-nil s.front))) s.wrote

-- where no further row comes
pub rows_front : {X : Type 0} (tree : X → Tree) {p q : Place} {a b : OutputState} {all left : List X} → SoFar tree p q a b all left
    → WroteFront p q a b (items_text false (items tree all))
rows_front tree s = record { front = s.front; rest = _; split = s.split; wrote = s.wrote }

-- a text that ends in its rows: a front of it, whether or not a write failed
pub cut_short : {p q r : Place} {a b c : OutputState} {head bytes : List ℕ} (tail : List ℕ)
    → Wrote p q a b head → WroteFront q r b c bytes → p.failed ≡ false → 0 < length tail → AppendsFront a.bytes c.bytes (head ++ (bytes ++ tail))
cut_short {p} {q} {r} {a} {b} {c} {head} {bytes} tail w f e more =
    let longer : 0 < length (f.rest ++ tail) = omega (arith, length-append f.rest tail, more) in
    let same : (head ++ f.front) ++ (f.rest ++ tail) ≡ head ++ (bytes ++ tail) =
    append_assoc head f.front (f.rest ++ tail) ∙ ap (λ l. head ++ l) (sym (append_assoc f.front f.rest tail) ∙ ap (λ l. l ++ tail) (sym f.split)) in
    subst (AppendsFront a.bytes c.bytes) same (Wrote_front (f.rest ++ tail) (Wrote_then w f.wrote) e longer)
