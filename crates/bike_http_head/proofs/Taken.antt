-- What the parameter of the route that a path takes takes of the path.
use Rattle.std.proofs.Common.{◌≡◌, ℕ, ◌+◌, List, [], ◌∷◌, ◌++◌, Bool, true, false, ltb, ◌==◌, ◌&&◌, not, Some, length, drop, refl, sym, ap, ◌∙◌, subst, inl, inr, arith}
use Rattle.std.proofs.lemmas.Bool.Decides.{nat_tests}
use Rattle.std.proofs.lemmas.List.Elements.{All-nil, All-cons}
use Rattle.std.specs.Cmp.Lexicographic.{bytes_decides}
use Rattle.std.specs.List.{list_all, before_first}
use Rattle.std.specs.Str.{IsUtf8}
use Rattle.matchit.proofs.OnLiterals.{matchit_on_literals}
use Rattle.matchit.specs.Params.{walk, Shows}
use Rattle.matchit.specs.Router.{RouteOf}
use Rattle.matchit.specs.Rows.{RowsOf, param_token}
use Rattle.matchit.specs.Seek.{slash, same_text, first}
use Rattle.bike_http_head.specs.Table.{table, routes, with_route, part_in, takes_part, with_part, found_at}
use Rattle.bike_http_head.specs.declared.routes.Route.{Route}
use Rattle.bike_http_head.proofs.Fits.{IsBytes, HasNoSlash, Matches, Has, seek_found}
use Rattle.bike_http_head.proofs.Parts.{is_slash, front, EndsPlain, and_both, cut_at, part_there, part_text, walk_is}

-- the word of a pattern between its first two slashes, and what stands behind the parameter
abbrev kind_of : List ℕ → List ℕ
kind_of pattern = before_first is_slash (drop 1 pattern)

abbrev end_of : List ℕ → List ℕ
end_of pattern = drop (length (kind_of pattern) + 3) pattern

abbrev is_byte : ℕ → Bool
is_byte b = ltb b 256

abbrev ends_plain : List ℕ → Bool
ends_plain [] = true
ends_plain (b ∷ more) = is_slash b

abbrev one_name : List (ℕ × ℕ) → Bool
one_name [] = false
one_name (name ∷ []) = true
one_name (name ∷ other ∷ names) = false

abbrev no_name : List (ℕ × ℕ) → Bool
no_name [] = true
no_name (name ∷ names) = false

-- the form of a pattern with a parameter, and of one without
abbrev is_formed : Bool → List ℕ × RouteOf Route → Bool
is_formed true row =
    same_text row.0 (front (kind_of row.0) ++ param_token ∷ end_of row.0) && (same_text row.1.pattern row.0
    && (list_all (λ b. not (is_slash b)) (kind_of row.0) && (list_all is_byte (front (kind_of row.0)) && (list_all is_byte (end_of row.0)
    && (ends_plain (end_of row.0) && one_name row.1.names)))))
is_formed false row = no_name row.1.names

abbrev is_plain : List ℕ × RouteOf Route → Bool
is_plain row = is_formed (takes_part row.1.value) row

plain_table : list_all is_plain table ≡ true
unfolding matchit_on_literals table routes with_route
plain_table = refl

pub row_has : {K : Type 0} (test : List ℕ × K → Bool) (rows : RowsOf K) (t : List ℕ) (k : K) → list_all test rows ≡ true → Has t k rows → test (t, k) ≡ true
row_has test [] t k e h = absurd h
row_has test ((u, l) ∷ rows) t k e (inl here) = subst (λ (v : List ℕ). test (v, k) ≡ true) here.0 (subst (λ (m : _). test (u, m) ≡ true) here.1 (and_both (test (u, l)) _ e).0)
row_has test ((u, l) ∷ rows) t k e (inr there) = row_has test rows t k (and_both (test (u, l)) _ e).1 there

no_slash : (text : List ℕ) → list_all (λ b. not (is_slash b)) text ≡ true → HasNoSlash text
no_slash [] e = All-nil _
no_slash (b ∷ text) e =
    let both = and_both (not (is_slash b)) _ e in
    All-cons (λ c. (c == slash) ≡ false) b text (not_true (is_slash b) both.0) (no_slash text both.1)
  where
    not_true : (v : Bool) → not v ≡ true → v ≡ false
    not_true true e = absurd (cc e)
    not_true false e = refl

plain_end : (end : List ℕ) → ends_plain end ≡ true → EndsPlain end
plain_end [] e = inl refl
plain_end (b ∷ more) e = let is : b ≡ slash = grind (e, arith, nat_tests) in inr (more, ap (λ (c : ℕ). c ∷ more) is)

the_name : (names : List (ℕ × ℕ)) → one_name names ≡ true → (name : ℕ × ℕ) × (names ≡ name ∷ [])
the_name [] e = absurd (cc e)
the_name (name ∷ []) e = (name, refl)
the_name (name ∷ other ∷ names) e = absurd (cc e)

nothing_named : (names : List (ℕ × ℕ)) → no_name names ≡ true → names ≡ []
nothing_named [] e = refl
nothing_named (name ∷ names) e = absurd (cc e)

record IsTaken (r : RouteOf Route) (path : List ℕ) : Type 0 where
  label : List ℕ
  part : List ℕ
  there : part_in path ≡ Some part
  takes : walk r.pattern r.text path r.names 0 0 ≡ (label, part) ∷ []
  text : IsUtf8 part

abbrev second : List (List ℕ × List ℕ) → List ℕ
second [] = []
second (p ∷ ps) = p.1

found_part : (path : List ℕ) (r : RouteOf Route) → first table path ≡ Some r → found_at path ≡ with_part (takes_part r.value) r.value path
found_part path r e = rw e refl

module _ (path : List ℕ) (r : RouteOf Route) (utf8 : IsUtf8 path) where
  of_row : (t : List ℕ) → is_formed true (t, r) ≡ true → Matches t path → IsTaken r path
  of_row t plain m =
      let kind : List ℕ = kind_of t in
      let end : List ℕ = end_of t in
      let a = and_both _ _ plain in
      let b = and_both _ _ a.1 in
      let c = and_both _ _ b.1 in
      let d = and_both _ _ c.1 in
      let f = and_both _ _ d.1 in
      let g = and_both _ _ f.1 in
      let form : t ≡ front kind ++ param_token ∷ end = (bytes_decides t (front kind ++ param_token ∷ end)).0 a.0 in
      let same : r.pattern ≡ t = (bytes_decides r.pattern t).0 b.0 in
      let kinds = no_slash kind c.0 in
      let ends = plain_end end g.0 in
      let name = the_name r.names g.1 in
      let cut = cut_at kind end path d.0 f.0 (subst (λ (l : List ℕ). Matches l path) form m) in
      let walks = walk_is (front kind) end cut.0 r.text name.0 ends cut.1.1 d.0 in
      record {
        label = _;
        part = cut.0;
        there = part_there kind end path cut.0 kinds ends cut.1;
        takes = ap (λ (l : List ℕ). walk l r.text path r.names 0 0) (same ∙ form) ∙ (ap (λ (l : List ℕ). walk (front kind ++ param_token ∷ end) r.text l r.names 0 0) cut.1.0
            ∙ (ap (λ (l : List (ℕ × ℕ)). walk (front kind ++ param_token ∷ end) r.text (front kind ++ (cut.0 ++ end)) l 0 0) name.1 ∙ walks));
        text = part_text kind end path cut.0 ends cut.1 utf8;
      }

  row_of : IsBytes path → first table path ≡ Some r → (t : List ℕ) × Matches t path × (is_plain (t, r) ≡ true)
  row_of bytes e =
      let (t, has, m) = seek_found 0 table path r bytes e in
      (t, m, row_has is_plain table t r plain_table has)

  -- what is told as the first parameter stands in the place of the route's parameter ..
  pub told_first : (pair : List ℕ × List ℕ) (rest : List (List ℕ × List ℕ)) (told : List ℕ) → IsBytes path → first table path ≡ Some r
      → walk r.pattern r.text path r.names 0 0 ≡ pair ∷ rest → Shows pair.1 told → Some (r.value, told) ≡ found_at path
  told_first pair rest told bytes e walks shows = by (takes_part r.value) refl
    where
      row : (t : List ℕ) × Matches t path × (is_plain (t, r) ≡ true)
      row = row_of bytes e

      by : (b : Bool) → takes_part r.value ≡ b → Some (r.value, told) ≡ found_at path
      by true takes =
          let taken = of_row row.0 (rw takes at row.2) row.1 in
          let same : pair.1 ≡ taken.part = ap second (sym walks ∙ taken.takes) in
          let is : told ≡ taken.part = shows (subst IsUtf8 (sym same) taken.text) ∙ same in
          sym (found_part path r e ∙ rw (takes, taken.there, is) refl)
      by false takes =
          let none : r.names ≡ [] = nothing_named r.names (rw takes at row.2) in
          let no : pair ∷ rest ≡ [] = sym walks ∙ ap (λ (l : List (ℕ × ℕ)). walk r.pattern r.text path l 0 0) none in
          absurd (cc no)

  -- .. and nothing does where none is told
  pub told_none : IsBytes path → first table path ≡ Some r → walk r.pattern r.text path r.names 0 0 ≡ [] → Some (r.value, []) ≡ found_at path
  told_none bytes e walks = by (takes_part r.value) refl
    where
      row : (t : List ℕ) × Matches t path × (is_plain (t, r) ≡ true)
      row = row_of bytes e

      by : (b : Bool) → takes_part r.value ≡ b → Some (r.value, []) ≡ found_at path
      by true takes =
          let taken = of_row row.0 (rw takes at row.2) row.1 in
          let no : (taken.label, taken.part) ∷ [] ≡ [] = sym taken.takes ∙ walks in
          absurd (cc no)
      by false takes = sym (found_part path r e ∙ rw takes refl)
