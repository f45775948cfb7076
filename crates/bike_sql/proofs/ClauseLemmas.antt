-- The clauses of a SELECT mean the same where its expressions do: the columns of its result, joins, WHERE, GROUP BY, HAVING and ORDER BY.
use Rattle.std.proofs.Common.{◌≡◌, ℕ, ◌+◌, Bool, true, false, if◌then◌else◌, List, [], ◌∷◌, ◌++◌, map, Option, Some, None, refl, ap, ap₂}
use Rattle.std.proofs.Math.Path.{fun_ext}
use Rattle.std.specs.List.{list_all}
use Rattle.sqlite_value.specs.declared.keys.Key.{Key}
use Rattle.sqlite_value.specs.declared.keys.Collation.{Collation}
use Rattle.sqlite_ast.specs.declared.Expr.{Expr, out-Expr}
use Rattle.sqlite_ast.specs.declared.Expr.TheOpen.{Expr-F, Shown-F}
use Rattle.sqlite_ast.specs.declared.Shown.{Shown, out-Shown}
use Rattle.sqlite_ast.specs.declared.Sort.{Sort, out-Sort}
use Rattle.sqlite_ast.specs.declared.Source.{Source, out-Source}
use Rattle.sqlite_ast.specs.declared.Core.{Core, out-Core}
use Rattle.sqlite_ast.specs.Layer.{Layer, ShownLayer}
use Rattle.sqlite_sql.specs.Term.{Term, reads_below}
use Rattle.sqlite_schema.specs.declared.schema.Schema.{Schema}
use Rattle.sqlite_draft.specs.declared.join.Step.TheVariants.{Inner, Left}
use Rattle.sqlite_resolve.specs.declared.error.CompileError.TheVariants.{Misuse, Unsupported}
use Rattle.sqlite_resolve.specs.declared.scope.Bound.{Bound}
use Rattle.sqlite_resolve.specs.declared.scope.Output.{Output}
use Rattle.sqlite_resolve.specs.declared.scope.Level.{Level}
use Rattle.sqlite_resolve.specs.declared.body.Joined.{Joined}
use Rattle.sqlite_resolve.specs.declared.state.State.{State}
use Rattle.sqlite_resolve.specs.Scope.{Name, Context}
use Rattle.sqlite_resolve.specs.Lowering.{Lowering, ◌>>=◌, ◌<$>◌, pure, fail, lift}
use Rattle.sqlite_resolve.specs.Body.{table_at, bounds, heading, heading_at, shared, tests, shown_at, shown, outputs_from, outputs, left_join, inner_join, join, joins_from, joins, begins_with_on}
use Rattle.sqlite_resolve.specs.Body.{result, matching, body}
use Rattle.sqlite_resolve.specs.Order.{key, group_key, keys_from, keys, aliased_or, alias_in, peeled, sort, sorts_from, sorts, collation_of}
use Rattle.bike_sql.specs.Fragment.{covers_option, covers_sources, covers_column, covers_columns, covers_body, covers_order, covers_group}
use Rattle.bike_sql.proofs.Relocation.{Relocates, bound_at, level_at, body_at, scope, checked_map, with_state, then_over, then_into, both as parts}
use Rattle.bike_sql.proofs.CoverLemmas.{source_parts, body_parts}
use Rattle.bike_sql.proofs.NameLemmas.{Alike, alike}
use Rattle.bike_sql.proofs.SourceLemmas.{bounds_over, stars_same, shared_same}

heading_same : (cx cx0 : Context) → Alike cx cx0 → (text : Name) (l : Layer) → heading_at cx text l ≡ heading_at cx0 text l
heading_same cx cx0 h text (Expr-F.Column table name) = h.headings text table name
heading_same cx cx0 h text (Expr-F.Truth name value) = h.headings text None name
heading_same cx cx0 h text _ = refl

-- Covered expressions are lowered alike in each scope.
abbrev pub LowersAlike : (Schema) → Schema → (ℕ → ℕ) → (Context → Expr → Lowering Term) → (Expr → Bool) → Type 0
LowersAlike s s0 f low ok = (e : Expr) → ok e ≡ true → (ls : List Level) (a b : Bool) → low (scope s (map (level_at f) ls) a b) e ≡ low (scope s0 ls a b) e

module _ {s s0 : Schema} {f : ℕ → ℕ} (r : Relocates s s0 f) (low : Context → Expr → Lowering Term) (ok : Expr → Bool) (same : LowersAlike s s0 f low ok) where
  abbrev in_s : List Level → Bool → Bool → Context
  in_s ls a b = scope s (map (level_at f) ls) a b

  abbrev in_s0 : List Level → Bool → Bool → Context
  in_s0 ls a b = scope s0 ls a b

  -- ---- a test, as WHERE, ON or HAVING

  pub tests_same : (ls : List Level) (a b : Bool) (done : List Term) (o : Option Expr) → covers_option ok o ≡ true → tests low (in_s ls a b) done o ≡ tests low (in_s0 ls a b) done o
  unfolding tests
  tests_same ls a b done None k = refl
  tests_same ls a b done (Some e) k = let it = same e k ls a b in rw it

  -- ---- the columns of the result

  column_same : (ls : List Level) (a b : Bool) (bs : List Bound) (done : List Output) (l : ShownLayer) → covers_column ok l ≡ true
      → shown_at low (in_s ls a b) (map (bound_at f) bs) done l ≡ shown_at low (in_s0 ls a b) bs done l
  unfolding heading
  column_same ls a b bs done Shown-F.All k = ap (λ x. lift x) (stars_same r None done bs)
  column_same ls a b bs done (Shown-F.AllOf table) k = ap (λ x. lift x) (stars_same r (Some table) done bs)
  column_same ls a b bs done (Shown-F.One e alias text) k =
      let it = same e k ls a b in
      let head = heading_same (in_s ls a b) (in_s0 ls a b) (alike r ls a b) text (out-Expr e) in
      rw (it, head)

  columns_same : (ls : List Level) (a b : Bool) (bs : List Bound) (done : List Output) (xs : List Shown) → covers_columns ok xs ≡ true
      → outputs_from low (in_s ls a b) (map (bound_at f) bs) done xs ≡ outputs_from low (in_s0 ls a b) bs done xs
  unfolding shown
  columns_same ls a b bs done [] k = refl
  columns_same ls a b bs done (x ∷ more) k =
      let p = parts (covers_column ok (out-Shown x)) (covers_columns ok more) k in
      ap₂ (λ first later. first >>= later) (column_same ls a b bs done (out-Shown x) p.0) (fun_ext (λ longer. columns_same ls a b bs longer more p.1))

  result_same : (ls : List Level) (a b : Bool) (l : Level) (core : Core) → covers_columns ok (out-Core core).shown ≡ true
      → result low (in_s ls a b) (level_at f l) core ≡ result low (in_s0 ls a b) l core
  unfolding result outputs
  result_same ls a b l core k = columns_same (l ∷ ls) true true l.tables [] (out-Core core).shown k

  -- ---- joins

  join_same : (ls : List Level) (a b : Bool) (bs : List Bound) (done : Joined) (t : Bound) (src : Source) → covers_option ok (out-Source src).on ≡ true
      → join low (in_s ls a b) (map (bound_at f) bs) done (bound_at f t) src ≡ join low (in_s0 ls a b) bs done t src
  unfolding join left_join inner_join
  join_same ls a b bs done t src k =
      let there = r.tables t.table in
      let using = shared_same r ls a b bs t in
      let left : (λ terms. tests low (in_s ls a false) terms (out-Source src).on) ≡ (λ terms. tests low (in_s0 ls a false) terms (out-Source src).on) = fun_ext (λ terms. tests_same ls a false terms (out-Source src).on k) in
      let inner : (λ terms. tests low (in_s ls a b) terms (out-Source src).on) ≡ (λ terms. tests low (in_s0 ls a b) terms (out-Source src).on) = fun_ext (λ terms. tests_same ls a b terms (out-Source src).on k) in
      rw (there, using)
      (ap₂ (λ x y. lift (table_at s0 t.table) >>= (λ table. shared (in_s0 ls a b) bs t >>= (λ terms.
      if (out-Source src).is_left
      then (x terms >>= (λ all. if list_all (reads_below (t.slot + 1)) all then pure (record done { steps = done.steps ++ Left table.tree all ∷ [] }) else fail Unsupported))
      else ((λ filter. record { steps = done.steps ++ Inner table.tree ∷ []; filter = filter }) <$> y (done.filter ++ terms))))) left inner)

  joins_from_same : (ls : List Level) (a b : Bool) (bs : List Bound) (done : Joined) (ts : List Bound) (srcs : List Source) → covers_sources s0 ok srcs ≡ true
      → joins_from low (in_s ls a b) (map (bound_at f) bs) done (map (bound_at f) ts) srcs ≡ joins_from low (in_s0 ls a b) bs done ts srcs
  joins_from_same ls a b bs done [] srcs k = refl
  joins_from_same ls a b bs done (t ∷ ts) [] k = refl
  joins_from_same ls a b bs done (t ∷ ts) (src ∷ more) k =
      let p = source_parts s0 ok src more k in
      ap₂ (λ first later. first >>= later) (join_same ls a b bs done t src p.1) (fun_ext (λ longer. joins_from_same ls a b bs longer ts more p.2))

  joins_same : (ls : List Level) (a b : Bool) (bs : List Bound) (srcs : List Source) → covers_sources s0 ok srcs ≡ true
      → joins low (in_s ls a b) (map (bound_at f) bs) srcs ≡ joins low (in_s0 ls a b) bs srcs
  unfolding joins
  joins_same ls a b bs srcs k = ap (λ x. if begins_with_on srcs then fail Misuse else x) (joins_from_same ls a b bs (record { steps = []; filter = [] }) bs srcs k)

  matching_same : (ls : List Level) (a b : Bool) (l : Level) (core : Core) → covers_body s0 ok core ≡ true → matching low (in_s ls a b) (level_at f l) core ≡ matching low (in_s0 ls a b) l core
  unfolding matching
  matching_same ls a b l core k =
      let p = body_parts s0 ok core k in
      ap₂ (λ all later. all >>= (λ joined. later joined.filter >>= (λ filter. pure (record joined { filter = filter })))) (joins_same (l ∷ ls) false true l.tables (out-Core core).from p.0)
      (fun_ext (λ done. tests_same (l ∷ ls) false true done (out-Core core).filter p.2))

  -- ---- FROM, the columns and WHERE

  pub body_over : (ls : List Level) (a b : Bool) (core : Core) → covers_body s0 ok core ≡ true → (st : State)
      → body low (in_s ls a b) core st ≡ checked_map (with_state (body_at f)) (body low (in_s0 ls a b) core st)
  unfolding body
  body_over ls a b core k st =
      let p = body_parts s0 ok core k in
      rw (bounds_over r ok (out-Core core).from p.0 st)
      (then_over (bounds s0 (out-Core core).from st) (with_state (map (bound_at f))) _ _ (with_state (body_at f)) (λ t.
      rw (result_same ls a b (record { tables = t.0; shown = [] }) core p.1)
      (then_into (result low (in_s0 ls a b) (record { tables = t.0; shown = [] }) core t.1) _ _ (with_state (body_at f)) (λ c.
      rw (matching_same ls a b (record { tables = t.0; shown = c.0 }) core k)
      (then_into (matching low (in_s0 ls a b) (record { tables = t.0; shown = c.0 }) core c.1) _ _ (with_state (body_at f)) (λ j. refl))))))

  -- ---- GROUP BY and ORDER BY

  key_same : (ls : List Level) (a b : Bool) (shown : List Output) (e : Expr) → ok e ≡ true → key low (in_s ls a b) shown e ≡ key low (in_s0 ls a b) shown e
  unfolding key
  key_same ls a b shown e k = let it = same e k ls a b in rw it

  keys_from_same : (ls : List Level) (a b : Bool) (shown : List Output) (done : List Term × List Collation) (es : List Expr) → covers_group ok es ≡ true
      → keys_from low (in_s ls a b) shown done es ≡ keys_from low (in_s0 ls a b) shown done es
  unfolding group_key
  keys_from_same ls a b shown done [] k = refl
  keys_from_same ls a b shown done (e ∷ es) k =
      let p = parts (ok (peeled e)) (covers_group ok es) k in
      ap₂ (λ first later. (first >>= (λ t. collation_of e >>= (λ c. pure (done.0 ++ t ∷ [], done.1 ++ c ∷ [])))) >>= later) (key_same ls a b shown (peeled e) p.0)
      (fun_ext (λ longer. keys_from_same ls a b shown longer es p.1))

  pub keys_same : (ls : List Level) (a b : Bool) (shown : List Output) (es : List Expr) → covers_group ok es ≡ true → keys low (in_s ls a b) shown es ≡ keys low (in_s0 ls a b) shown es
  unfolding keys
  keys_same ls a b shown es k = keys_from_same ls a b shown ([], []) es k

  by_alias_same : (ls : List Level) (a b : Bool) (shown : List Output) (e : Expr) → ok e ≡ true → (o : Option ℕ) → aliased_or low (in_s ls a b) shown e o ≡ aliased_or low (in_s0 ls a b) shown e o
  by_alias_same ls a b shown e k (Some at) = refl
  by_alias_same ls a b shown e k None = key_same ls a b shown e k

  sort_same : (ls : List Level) (a b : Bool) (shown : List Output) (done : List (Term × Key)) (x : Sort) → ok (peeled (out-Sort x).key) ≡ true
      → sort low (in_s ls a b) shown done x ≡ sort low (in_s0 ls a b) shown done x
  unfolding sort
  sort_same ls a b shown done x k = let it = by_alias_same ls a b shown (peeled (out-Sort x).key) k (alias_in shown (peeled (out-Sort x).key)) in rw it

  sorts_from_same : (ls : List Level) (a b : Bool) (shown : List Output) (done : List (Term × Key)) (xs : List Sort) → covers_order ok xs ≡ true
      → sorts_from low (in_s ls a b) shown done xs ≡ sorts_from low (in_s0 ls a b) shown done xs
  sorts_from_same ls a b shown done [] k = refl
  sorts_from_same ls a b shown done (x ∷ more) k =
      let p = parts (ok (peeled (out-Sort x).key)) (covers_order ok more) k in
      ap₂ (λ first later. first >>= later) (sort_same ls a b shown done x p.0) (fun_ext (λ longer. sorts_from_same ls a b shown longer more p.1))

  pub sorts_same : (ls : List Level) (a b : Bool) (shown : List Output) (xs : List Sort) → covers_order ok xs ≡ true → sorts low (in_s ls a b) shown xs ≡ sorts low (in_s0 ls a b) shown xs
  unfolding sorts
  sorts_same ls a b shown xs k = sorts_from_same ls a b shown [] xs k
