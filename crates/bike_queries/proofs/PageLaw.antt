-- The entries of a page: each is the map's and comes after the page's beginning, they are apart, and none comes after the last.
use Rattle.std.proofs.Common.{◌≡◌, inl, inr, ℕ, zero, suc, List, [], ◌∷◌, ◌++◌, map, take, filter, find, slice_get, Bool, ◌&&◌, true, false, not, cond, T, Option, Some, None, Ordering, Less, Equal}
use Rattle.std.proofs.Common.{Greater, refl, sym, ap, subst, ◌∙◌}
use Rattle.std.specs.List.{AllZip}
use Rattle.std.specs.Ordering.{is_eq, is_lt, is_le, ordering_reverse}
use Rattle.std.specs.Cmp.{tied_itself}
use Rattle.std.specs.FinMap.{FinMap, entries, entries_sorted}
use Rattle.std.specs.FinMap.Entries as order
use Rattle.std.specs.Str.{bytes_eq}
use Rattle.std.proofs.lemmas.Map.Text.{is_eq-slice_cmp}
use Rattle.sqlite_value.specs.Order.{Row}
use Rattle.sqlite_rules.specs.Lists.{Has}
use Rattle.bike_sql.proofs.RowListLemmas.{has_filter}
use Rattle.bike_sql.proofs.PageLaw.{filter_filter}
use Rattle.bike_sql.proofs.RangeLaw.{filter_has_same}
use Rattle.bike_operator.specs.Operator.{text_cmp}
use Rattle.bike_laws.proofs.SingleSteps.MapLemmas.{text_order}
use Rattle.bike_book.proofs.MapRows.{both, below_has}
use Rattle.bike_queries.specs.declared.pages.TheConstants.{STATIONS_A_PAGE}
use Rattle.bike_queries.specs.After.{first_after, start_after}
use Rattle.bike_queries.specs.Pages.{entries_after, page_after, AreApart}
use Rattle.bike_queries.proofs.AfterLaw.{comes_after, start_is}
use Rattle.bike_queries.proofs.GroupLaw.{all_pass}

has_take : {X : Type 0} (n : ℕ) (xs : List X) (x : X) → Has (take n xs) x → Has xs x
has_take zero xs x has = absurd has
has_take (suc n) [] x has = absurd has
has_take (suc n) (y ∷ xs) x (inl is) = inl is
has_take (suc n) (y ∷ xs) x (inr has) = inr (has_take n xs x has)

pub and_false : (b : Bool) → (b && false) ≡ false
and_false true = refl
and_false false = refl

less_so : (r : Ordering) → is_lt r ≡ true → r ≡ Less
less_so Less is = refl
less_so Equal is = absurd cc
less_so Greater is = absurd cc

module _ {X : Type 0} where
  -- each comes after those before it
  abbrev pub Rising : List (List ℕ × X) → Type 0
  Rising [] = Unit {0}
  Rising (e ∷ es) = ((x : List ℕ × X) → Has es x → text_cmp e.0 x.0 ≡ Less) × Rising es

  sorted_rises : (es : List (List ℕ × X)) → T (order.is_sorted text_cmp es) → Rising es
  sorted_rises [] sorted = tt
  sorted_rises (e ∷ es) sorted =
      let parts = both (order.below_all text_cmp e.0 es) (order.is_sorted text_cmp es) sorted in
      (λ x has. below_has text_order.total e.0 es x parts.0 has, sorted_rises es parts.1)

  filter_rises : (p : List ℕ × X → Bool) (es : List (List ℕ × X)) → Rising es → Rising (filter p es)
  filter_rises p [] rises = tt
  filter_rises p (e ∷ es) rises = go (p e) (filter_rises p es rises.1) where
    go : (b : Bool) → Rising (filter p es) → Rising (cond b (e ∷ filter p es) (filter p es))
    go true rest = (λ x has. rises.0 x (has_filter p es x has).0, rest)
    go false rest = rest

  take_rises : (n : ℕ) (es : List (List ℕ × X)) → Rising es → Rising (take n es)
  take_rises zero es rises = tt
  take_rises (suc n) [] rises = tt
  take_rises (suc n) (e ∷ es) rises = (λ x has. rises.0 x (has_take n es x has), take_rises n es rises.1)

  after_rises : (after : Option (List ℕ)) (m : FinMap text_cmp X) → Rising (entries_after after m)
  after_rises None m = sorted_rises (entries m) (entries_sorted m)
  after_rises (Some id) m = filter_rises (λ e. is_lt (text_cmp id e.0)) (entries m) (sorted_rises (entries m) (entries_sorted m))

  pub page_rises : (after : Option (List ℕ)) (m : FinMap text_cmp X) → Rising (page_after after m)
  page_rises after m = take_rises STATIONS_A_PAGE (entries_after after m) (after_rises after m)

  -- ---- one after another

  -- the first of them is the next
  pub first_is : (after : Option (List ℕ)) (m : FinMap text_cmp X) → first_after after m ≡ slice_get (entries_after after m) 0
  first_is None m = refl
  first_is (Some id) m = go (entries m) where
    go : (es : List (List ℕ × X)) → find (λ e. is_lt (text_cmp id e.0)) es ≡ slice_get (filter (λ e. is_lt (text_cmp id e.0)) es) 0
    go [] = refl
    go (e ∷ es) = by (is_lt (text_cmp id e.0)) (go es) where
      by : (b : Bool) → find (λ x. is_lt (text_cmp id x.0)) es ≡ slice_get (filter (λ x. is_lt (text_cmp id x.0)) es) 0
          → cond b (Some e) (find (λ x. is_lt (text_cmp id x.0)) es) ≡ slice_get (cond b (e ∷ filter (λ x. is_lt (text_cmp id x.0)) es) (filter (λ x. is_lt (text_cmp id x.0)) es)) 0
      by true rest = refl
      by false rest = rest

  -- those after the first are the others
  behind_first : (e : List ℕ × X) (rest : List (List ℕ × X)) → Rising (e ∷ rest) → filter (λ x. is_lt (text_cmp e.0 x.0)) (e ∷ rest) ≡ rest
  behind_first e rest rises =
      ap (λ (b : Bool). cond b (e ∷ filter (λ x. is_lt (text_cmp e.0 x.0)) rest) (filter (λ x. is_lt (text_cmp e.0 x.0)) rest)) (ap is_lt (tied_itself text_order.total e.0))
      ∙ all_pass (λ x. is_lt (text_cmp e.0 x.0)) rest (λ x has. ap is_lt (rises.0 x has))

  -- what comes after an entry comes after what the entry comes after
  later_still : (id : List ℕ) (e : List ℕ × X) → is_lt (text_cmp id e.0) ≡ true → (es : List (List ℕ × X))
      → filter (λ x. is_lt (text_cmp e.0 x.0)) es ≡ filter (λ x. is_lt (text_cmp e.0 x.0)) (filter (λ x. is_lt (text_cmp id x.0)) es)
  later_still id e after es =
      filter_has_same (λ x. is_lt (text_cmp e.0 x.0)) (λ x. is_lt (text_cmp id x.0) && is_lt (text_cmp e.0 x.0)) es (λ x has. go x (text_cmp e.0 x.0) refl)
      ∙ filter_filter (λ x. is_lt (text_cmp e.0 x.0)) (λ x. is_lt (text_cmp id x.0)) es
    where
      go : (x : List ℕ × X) (r : Ordering) → text_cmp e.0 x.0 ≡ r → is_lt r ≡ (is_lt (text_cmp id x.0) && is_lt r)
      go x Less is = ap (λ (b : Bool). b && true) (sym (ap is_lt (text_order.total.trans id e.0 x.0 (less_so _ after) is)))
      go x Equal is = sym (and_false _)
      go x Greater is = sym (and_false _)

  pub next_after : (after : Option (List ℕ)) (m : FinMap text_cmp X) (e : List ℕ × X) (rest : List (List ℕ × X)) → entries_after after m ≡ e ∷ rest → entries_after (Some e.0) m ≡ rest
  next_after None m e rest is = ap (filter (λ x. is_lt (text_cmp e.0 x.0))) is ∙ behind_first e rest (subst Rising is (after_rises None m))
  next_after (Some id) m e rest is =
      let first = has_filter (λ x. is_lt (text_cmp id x.0)) (entries m) e (subst (λ (es : List (List ℕ × X)). Has es e) (sym is) (inl refl)) in
      later_still id e first.1 (entries m) ∙ ap (filter (λ x. is_lt (text_cmp e.0 x.0))) is ∙ behind_first e rest (subst Rising is (after_rises (Some id) m))

  -- ---- where they stand

  -- each of the page is the map's, and comes after what the page comes after
  here_after : (after : Option (List ℕ)) (m : FinMap text_cmp X) (e : List ℕ × X) → Has (entries_after after m) e → Has (entries m) e × (comes_after after e.0 ≡ true)
  here_after None m e has = (has, refl)
  here_after (Some id) m e has = has_filter (λ x. is_lt (text_cmp id x.0)) (entries m) e has

  pub page_has : (m : FinMap text_cmp X) (after : Option (List ℕ)) (start : List ℕ) → start ≡ start_after after → (e : List ℕ × X) → Has (page_after after m) e
      → Has (entries m) e × (not (is_lt (text_cmp e.0 start)) ≡ true)
  page_has m after start is e has =
      let it = here_after after m e (has_take STATIONS_A_PAGE (entries_after after m) e has) in
      (it.0, ap (λ (t : List ℕ). not (is_lt (text_cmp e.0 t))) is ∙ start_is after e.0 ∙ it.1)

-- ---- what was read of each entry, under its identifier

module _ {X O : Type 0} (R : List ℕ × X → O → Type 0) (id : O → List ℕ) (named : (e : List ℕ × X) (o : O) → R e o → id o ≡ e.0) where
  -- they are apart
  pub read_apart : (es : List (List ℕ × X)) (os : List O) → Rising es → AllZip R es os → AreApart id os
  read_apart [] [] rises zipped = tt
  read_apart [] (o ∷ os) rises zipped = absurd zipped
  read_apart (e ∷ es) [] rises zipped = absurd zipped
  read_apart (e ∷ es) (o ∷ os) rises zipped = (each es os rises.0 zipped.1, read_apart es os rises.1 zipped.1) where
    apart_by : (f : List ℕ × X) (q : O) → text_cmp e.0 f.0 ≡ Less → R f q → (bytes_eq (id o) (id q) ≡ false) × (bytes_eq (id q) (id o) ≡ false)
    apart_by f q less read = rw (named e o zipped.0, named f q read) (
      sym (is_eq-slice_cmp e.0 f.0) ∙ ap is_eq less,
      sym (is_eq-slice_cmp f.0 e.0) ∙ ap is_eq (text_order.total.antisymm f.0 e.0 ∙ ap ordering_reverse less),
    )

    each : (fs : List (List ℕ × X)) (qs : List O) → ((f : List ℕ × X) → Has fs f → text_cmp e.0 f.0 ≡ Less) → AllZip R fs qs → (q : O) → Has qs q
        → (bytes_eq (id o) (id q) ≡ false) × (bytes_eq (id q) (id o) ≡ false)
    each [] [] less zips q has = absurd has
    each [] (x ∷ qs) less zips q has = absurd zips
    each (f ∷ fs) [] less zips q has = absurd has
    each (f ∷ fs) (x ∷ qs) less zips q (inl is) = subst (λ (y : O). (bytes_eq (id o) (id y) ≡ false) × (bytes_eq (id y) (id o) ≡ false)) (sym is) (apart_by f x (less f (inl refl)) zips.0)
    each (f ∷ fs) (x ∷ qs) less zips q (inr has) = each fs qs (λ y there. less y (inr there)) zips.1 q has

  -- none comes after the last
  pub up_to_last : (es : List (List ℕ × X)) (os front : List O) (last : O) → os ≡ front ++ last ∷ [] → Rising es → AllZip R es os → (e : List ℕ × X) → Has es e → is_le (text_cmp e.0 (id last)) ≡ true
  up_to_last es os front last is rises zipped = go es front rises (subst (AllZip R es) is zipped) where
    go : (es : List (List ℕ × X)) (front : List O) → Rising es → AllZip R es (front ++ last ∷ []) → (e : List ℕ × X) → Has es e → is_le (text_cmp e.0 (id last)) ≡ true
    go [] front rises zips e has = absurd has
    go (f ∷ []) [] rises zips e (inl same) =
        ap (λ (y : List ℕ × X). is_le (text_cmp y.0 (id last))) same ∙ ap (λ (t : List ℕ). is_le (text_cmp f.0 t)) (named f last zips.0) ∙ ap is_le (tied_itself text_order.total f.0)
    go (f ∷ []) [] rises zips e (inr has) = absurd has
    go (f ∷ h ∷ es) [] rises zips e has = absurd zips.1
    go (f ∷ []) (o ∷ front) rises zips e has = absurd (unended front zips.1)
      where
        unended : (front : List O) → AllZip R [] (front ++ last ∷ []) → ⊥
        unended [] none = none
        unended (x ∷ front) none = none
    go (f ∷ h ∷ es) (o ∷ front) rises zips e (inl same) =
        ap (λ (y : List ℕ × X). is_le (text_cmp y.0 (id last))) same
        ∙ before (text_cmp h.0 (id last)) refl (go (h ∷ es) front rises.1 zips.1 h (inl refl))
      where
        before : (r : Ordering) → text_cmp h.0 (id last) ≡ r → is_le r ≡ true → is_le (text_cmp f.0 (id last)) ≡ true
        before Less is low = ap is_le (text_order.total.trans f.0 h.0 (id last) (rises.0 h (inl refl)) is)
        before Equal is low = ap (λ (t : List ℕ). is_le (text_cmp f.0 t)) (sym (text_order.same h.0 (id last) is)) ∙ ap is_le (rises.0 h (inl refl))
        before Greater is low = absurd cc
    go (f ∷ h ∷ es) (o ∷ front) rises zips e (inr has) = go (h ∷ es) front rises.1 zips.1 e has

-- what was read of what was read of each
pub zipped_both : {A O X : Type 0} (R : A → O → Type 0) (S : O → X → Type 0) (T : A → X → Type 0) (es : List A) (os : List O) (xs : List X)
    → ((e : A) (o : O) (x : X) → Has es e → R e o → S o x → T e x) → AllZip R es os → AllZip S os xs → AllZip T es xs
zipped_both R S T [] [] [] then one two = tt
zipped_both R S T [] [] (x ∷ xs) then one two = absurd two
zipped_both R S T [] (o ∷ os) xs then one two = absurd one
zipped_both R S T (e ∷ es) [] xs then one two = absurd one
zipped_both R S T (e ∷ es) (o ∷ os) [] then one two = absurd two
zipped_both R S T (e ∷ es) (o ∷ os) (x ∷ xs) then one two = (then e o x (inl refl) one.0 two.0, zipped_both R S T es os xs (λ a b c has. then a b c (inr has)) one.1 two.1)

-- what was read of their rows
pub zipped_rows : {A X : Type 0} (R : Row → X → Type 0) (S : A → X → Type 0) (row : A → Row) (es : List A) (xs : List X) → ((e : A) (x : X) → Has es e → R (row e) x → S e x) → AllZip R (map row es) xs
    → AllZip S es xs
zipped_rows R S row [] [] then all = tt
zipped_rows R S row [] (x ∷ xs) then all = absurd all
zipped_rows R S row (e ∷ es) [] then all = absurd all
zipped_rows R S row (e ∷ es) (x ∷ xs) then all = (then e x (inl refl) all.0, zipped_rows R S row es xs (λ a b has. then a b (inr has)) all.1)
