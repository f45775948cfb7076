-- FROM, `*` and USING mean the same, but for the places of the tables.
use Rattle.std.proofs.Common.{◌≡◌, ℕ, ◌+◌, Bool, true, false, ◌||◌, if◌then◌else◌, List, [], ◌∷◌, ◌++◌, map, slice_get, length, nat_lt, Option, Some, None, is_some, option_map, unwrap_or, Ok, Err}
use Rattle.std.proofs.Common.{refl, sym, ap, ap₂, ◌∙◌}
use Rattle.std.proofs.Math.Path.{fun_ext}
use Rattle.std.proofs.lemmas.List.{map-append}
use Rattle.std.specs.List.{list_any}
use Rattle.sqlite_ast.specs.declared.Expr.{Expr}
use Rattle.sqlite_ast.specs.declared.Origin.{Origin}
use Rattle.sqlite_ast.specs.declared.Origin.TheVariants as origin
use Rattle.sqlite_ast.specs.declared.Select.{Select}
use Rattle.sqlite_ast.specs.declared.Source.{Source, out-Source}
use Rattle.sqlite_sql.specs.Term.{Term, col, reads_below}
use Rattle.sqlite_schema.specs.declared.schema.Schema.{Schema}
use Rattle.sqlite_schema.specs.declared.schema.Table.{Table}
use Rattle.sqlite_schema.specs.declared.schema.Column.{Column}
use Rattle.sqlite_schema.specs.Names.{same_name, table_named, view_named, place_of}
use Rattle.sqlite_resolve.specs.declared.error.CompileError.TheVariants.{NoSuchTable, NoSuchColumn, TooBig}
use Rattle.sqlite_resolve.specs.declared.scope.Bound.{Bound}
use Rattle.sqlite_resolve.specs.declared.scope.Output.{Output}
use Rattle.sqlite_resolve.specs.declared.scope.Level.{Level}
use Rattle.sqlite_resolve.specs.declared.scope.Found.{Found}
use Rattle.sqlite_resolve.specs.declared.state.State.{State}
use Rattle.sqlite_resolve.specs.Scope as sqlite_scope
use Rattle.sqlite_resolve.specs.Scope.{Name, is_meant, is_hidden, column_in, term_of}
use Rattle.sqlite_resolve.specs.Terms.{equal}
use Rattle.sqlite_resolve.specs.Lowering.{Checked, and_then, or_else, ◌>>=◌, pure, fail, lift, last, chosen, take_slot}
use Rattle.sqlite_resolve.specs.Body.{table_in, table_or, view_or_none, bound, bounds_from, bounds, columns_from, columns_of, stars_from, shares_name, stars, leftmost, first_with, agreeing}
use Rattle.sqlite_resolve.specs.Body.{shared_from, shared}
use Rattle.bike_sql.specs.Fragment.{covers_origin, covers_sources}
use Rattle.bike_sql.proofs.Relocation.{Relocates, bound_at, level_at, found_at, scope, checked_map, with_state, then_over, then_into}
use Rattle.bike_sql.proofs.CoverLemmas.{source_parts}
use Rattle.bike_sql.proofs.NameLemmas.{column_in_over, term_same}

-- ---- what sees the tables' names and not their places

any_name : (f : ℕ → ℕ) (name : Name) (bs : List Bound) → list_any (λ other. same_name other.name name) (map (bound_at f) bs) ≡ list_any (λ other. same_name other.name name) bs
any_name f name [] = refl
any_name f name (b ∷ bs) = ap (λ t. same_name b.name name || t) (any_name f name bs)

shares_same : (f : ℕ → ℕ) (bs : List Bound) → shares_name (map (bound_at f) bs) ≡ shares_name bs
shares_same f [] = refl
shares_same f (b ∷ bs) = ap₂ (λ t u. t || u) (any_name f b.name bs) (shares_same f bs)

hidden_same : (f : ℕ → ℕ) (wanted : Option Name) (name : Name) (b : Bound) → is_hidden wanted name (bound_at f b) ≡ is_hidden wanted name b
hidden_same f None name b = refl
hidden_same f (Some t) name b = refl

meant_same : (f : ℕ → ℕ) (wanted : Option Name) (b : Bound) → is_meant wanted (bound_at f b) ≡ is_meant wanted b
meant_same f None b = refl
meant_same f (Some t) b = refl

columns_same : (f : ℕ → ℕ) (wanted : Option Name) (t : Table) (b : Bound) (at : ℕ) (done : List Output) (cs : List Column)
    → columns_from wanted t (bound_at f b) at done cs ≡ columns_from wanted t b at done cs
columns_same f wanted t b at done [] = refl
columns_same f wanted t b at done (c ∷ cs) =
    let one : List Output = record { name = c.name; is_alias = true; is_column = true; term = col b.slot (place_of t at); carried = sqlite_scope.declared t at c } ∷ [] in
    ap (λ hidden. columns_from wanted t (bound_at f b) (at + 1) (if hidden then done else done ++ one) cs) (hidden_same f wanted c.name b)
    ∙ columns_same f wanted t b (at + 1) (if is_hidden wanted c.name b then done else done ++ one) cs

module _ {s s0 : Schema} {f : ℕ → ℕ} (r : Relocates s s0 f) where
  -- ---- FROM

  table_in_over : (slot : ℕ) (o : Origin Select) → covers_origin s0 o ≡ true → table_in s slot o ≡ checked_map {A = Name × ℕ} {B = Name × ℕ} (λ p. (p.0, f p.1)) (table_in s0 slot o)
  unfolding table_in
  table_in_over slot (origin.Query q) k = absurd (cc)
  table_in_over slot (origin.Table name) k = go (table_named s0 name) k (r.names name k)
    where
      go : (o : Option ℕ) → is_some o ≡ true → table_named s name ≡ option_map f o
          → and_then {B = Name × ℕ} (table_or (view_or_none (view_named s name)) (table_named s name)) (λ at. Ok (name, at))
          ≡ checked_map {A = Name × ℕ} {B = Name × ℕ} (λ p. (p.0, f p.1)) (and_then {B = Name × ℕ} (table_or (view_or_none (view_named s0 name)) o) (λ at. Ok (name, at)))
      go None k is = absurd (cc)
      go (Some at) k is = rw is

  bound_over : (src : Source) → covers_origin s0 (out-Source src).origin ≡ true → (st : State) → bound s src st ≡ checked_map (with_state (bound_at f)) (bound s0 src st)
  unfolding bound
  bound_over src k st = then_into (take_slot st) _ _ (with_state (bound_at f)) (λ a. rw (table_in_over a.0 (out-Source src).origin k) (go a.1 a.0 (table_in s0 a.0 (out-Source src).origin)))
    where
      go : (u : State) (slot : ℕ) (o : Checked (Name × ℕ))
          → and_then {A = (Name × ℕ) × State} {B = Bound × State} (and_then (checked_map (λ p. (p.0, f p.1)) o) (λ a. Ok (a, u)))
          (λ p. Ok (record { name = unwrap_or (out-Source src).alias p.0.0; table = p.0.1; slot = slot; shared = (out-Source src).using }, p.1))
          ≡ checked_map (with_state (bound_at f)) (and_then {A = (Name × ℕ) × State} {B = Bound × State} (and_then o (λ a. Ok (a, u)))
          (λ p. Ok (record { name = unwrap_or (out-Source src).alias p.0.0; table = p.0.1; slot = slot; shared = (out-Source src).using }, p.1)))
      go u slot (Ok p) = refl
      go u slot (Err e) = refl

  bounds_from_over : (ok : Expr → Bool) (done : List Bound) (srcs : List Source) → covers_sources s0 ok srcs ≡ true → (st : State)
      → bounds_from s (map (bound_at f) done) srcs st ≡ checked_map (with_state (map (bound_at f))) (bounds_from s0 done srcs st)
  bounds_from_over ok done [] k st = refl
  bounds_from_over ok done (src ∷ more) k st =
      let p = source_parts s0 ok src more k in
      rw (bound_over src p.0 st)
      (then_over (bound s0 src st) (with_state (bound_at f)) _ _ (with_state (map (bound_at f))) (λ a.
      ap (λ l. bounds_from s l more a.1) (sym (map-append (bound_at f) done (a.0 ∷ []))) ∙ bounds_from_over ok (done ++ a.0 ∷ []) more p.2 a.1))

  pub bounds_over : (ok : Expr → Bool) (srcs : List Source) → covers_sources s0 ok srcs ≡ true → (st : State) → bounds s srcs st ≡ checked_map (with_state (map (bound_at f))) (bounds s0 srcs st)
  unfolding bounds
  bounds_over ok srcs k st =
      elim (nat_lt 64 (length srcs)) as (λ c. (if c then fail TooBig else bounds_from s [] srcs) st
      ≡ checked_map (with_state (map (bound_at f))) ((if c then fail TooBig else bounds_from s0 [] srcs) st))
      [ true ↦ refl | false ↦ bounds_from_over ok [] srcs k st ]

  -- ---- `*` and `t.*`

  columns_of_same : (wanted : Option Name) (done : List Output) (b : Bound) → columns_of s wanted done (bound_at f b) ≡ columns_of s0 wanted done b
  unfolding columns_of
  columns_of_same wanted done b = ap (λ o. and_then (or_else o NoSuchTable) (λ t. Ok (columns_from wanted t (bound_at f b) 0 done t.columns))) (r.tables b.table) ∙ go (slice_get s0.tables b.table)
    where
      go : (o : Option Table) → and_then (or_else o NoSuchTable) (λ t. Ok (columns_from wanted t (bound_at f b) 0 done t.columns))
          ≡ and_then (or_else o NoSuchTable) (λ t. Ok (columns_from wanted t b 0 done t.columns))
      go None = refl
      go (Some t) = ap (λ x. Ok x) (columns_same f wanted t b 0 done t.columns)

  stars_from_same : (wanted : Option Name) (done : List Output) (bs : List Bound) → stars_from s wanted done (map (bound_at f) bs) ≡ stars_from s0 wanted done bs
  stars_from_same wanted done [] = refl
  stars_from_same wanted done (b ∷ bs) =
      rw (meant_same f wanted b, columns_of_same wanted done b) (ap (λ k. and_then (if is_meant wanted b then columns_of s0 wanted done b else Ok done) k)
      (fun_ext (λ more. stars_from_same wanted more bs)))

  pub stars_same : (wanted : Option Name) (done : List Output) (bs : List Bound) → stars s wanted done (map (bound_at f) bs) ≡ stars s0 wanted done bs
  unfolding stars
  stars_same wanted done bs = rw (shares_same f bs, stars_from_same wanted done bs)

  -- ---- USING

  leftmost_over : (name : Name) (bs : List Bound) → leftmost s name (map (bound_at f) bs) ≡ option_map (found_at f) (leftmost s0 name bs)
  leftmost_over name [] = refl
  leftmost_over name (b ∷ bs) = rw (column_in_over r name b, leftmost_over name bs) (go (column_in s0 name b))
    where
      go : (o : Option Found) → (if is_some (option_map (found_at f) o) then option_map (found_at f) o else option_map (found_at f) (leftmost s0 name bs))
          ≡ option_map (found_at f) (if is_some o then o else leftmost s0 name bs)
      go None = refl
      go (Some x) = refl

  -- the term of what was found, if anything was
  lowered_same : (ls : List Level) (a b : Bool) (o o0 : Option Found) → o ≡ option_map (found_at f) o0
      → (lift (or_else o NoSuchColumn) >>= term_of (scope s (map (level_at f) ls) a b)) ≡ (lift (or_else o0 NoSuchColumn) >>= term_of (scope s0 ls a b))
  lowered_same ls a b o o0 is = ap (λ x. lift (or_else x NoSuchColumn) >>= term_of (scope s (map (level_at f) ls) a b)) is ∙ go o0
    where
      go : (o0 : Option Found) → (lift (or_else (option_map (found_at f) o0) NoSuchColumn) >>= term_of (scope s (map (level_at f) ls) a b))
          ≡ (lift (or_else o0 NoSuchColumn) >>= term_of (scope s0 ls a b))
      go None = refl
      go (Some x) = term_same r ls a b x

  agreeing_same : (ls : List Level) (a b : Bool) (bs : List Bound) (t : Bound) (name : Name)
      → agreeing (scope s (map (level_at f) ls) a b) (map (bound_at f) bs) (bound_at f t) name ≡ agreeing (scope s0 ls a b) bs t name
  unfolding agreeing first_with
  agreeing_same ls a b bs t name =
      ap₂ (λ x y. x >>= (λ l. last >>= (λ p. y >>= (λ r. last >>= (λ q. if reads_below t.slot l then pure (equal (chosen p q) l r) else fail NoSuchColumn)))))
      (lowered_same ls a b (leftmost s name (map (bound_at f) bs)) (leftmost s0 name bs) (leftmost_over name bs))
      (lowered_same ls a b (column_in s name (bound_at f t)) (column_in s0 name t) (column_in_over r name t))

  shared_from_same : (ls : List Level) (a b : Bool) (bs : List Bound) (t : Bound) (done : List Term) (names : List Name)
      → shared_from (scope s (map (level_at f) ls) a b) (map (bound_at f) bs) (bound_at f t) done names ≡ shared_from (scope s0 ls a b) bs t done names
  shared_from_same ls a b bs t done [] = refl
  shared_from_same ls a b bs t done (name ∷ more) = ap₂ (λ p k. p >>= k) (agreeing_same ls a b bs t name) (fun_ext (λ x. shared_from_same ls a b bs t (done ++ x ∷ []) more))

  pub shared_same : (ls : List Level) (a b : Bool) (bs : List Bound) (t : Bound) → shared (scope s (map (level_at f) ls) a b) (map (bound_at f) bs) (bound_at f t) ≡ shared (scope s0 ls a b) bs t
  unfolding shared
  shared_same ls a b bs t = shared_from_same ls a b bs t [] t.shared
