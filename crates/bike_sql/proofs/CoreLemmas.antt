-- One SELECT has the same draft under both schemas: a draft has the numbers of trees in it, and no place of a table.
use Rattle.std.proofs.Common.{◌≡◌, ℕ, Bool, true, false, not, ◌&&◌, if◌then◌else◌, List, [], ◌∷◌, length, ◌==◌, negsuc, Option, Some, None, is_some, refl, ap}
use Rattle.std.proofs.lemmas.List.{length-map}
use Rattle.sqlite_value.specs.declared.value.Value.TheVariants.{Int}
use Rattle.sqlite_ast.specs.declared.Expr.{Expr}
use Rattle.sqlite_ast.specs.declared.Sort.{Sort}
use Rattle.sqlite_ast.specs.declared.Core.{Core, out-Core}
use Rattle.sqlite_ast.specs.declared.Select.{Select, out-Select}
use Rattle.sqlite_sql.specs.Term.{Term, lit}
use Rattle.sqlite_schema.specs.declared.schema.Schema.{Schema}
use Rattle.sqlite_resolve.specs.declared.error.CompileError.TheVariants.{Misuse}
use Rattle.sqlite_resolve.specs.declared.scope.Level.{Level}
use Rattle.sqlite_resolve.specs.declared.state.State.{State}
use Rattle.sqlite_resolve.specs.declared.select.Clauses.{Clauses}
use Rattle.sqlite_resolve.specs.Terms.{number}
use Rattle.sqlite_resolve.specs.Lowering.{fail, fresh, max_budget}
use Rattle.sqlite_resolve.specs.Body.{body}
use Rattle.sqlite_resolve.specs.Order.{keys, sorts}
use Rattle.sqlite_resolve.specs.Expr.{lower}
use Rattle.sqlite_resolve.specs.Select.{outermost, inside, having, parts, assembled, named, stepless, constant, constant_or, paging}
use Rattle.bike_sql.specs.Fragment.{covers, covers_option, covers_core, covers_page}
use Rattle.bike_sql.proofs.Relocation.{Relocates, bound_at, level_at, body_at, checked_map, with_state, then_over, then_into, then_same, both}
use Rattle.bike_sql.proofs.CoverLemmas.{core_parts}
use Rattle.bike_sql.proofs.ClauseLemmas.{LowersAlike, tests_same, body_over, keys_same, sorts_same}
use Rattle.bike_sql.proofs.SubqueryLemmas.{lower_to_same}

abbrev pub clauses_at : (ℕ → ℕ) → Clauses → Clauses
clauses_at f c = record c { body = body_at f c.body }

module _ {s s0 : Schema} {f : ℕ → ℕ} (r : Relocates s s0 f) where
  pub lower_same : LowersAlike s s0 f lower (covers s0)
  lower_same e k ls a b = lower_to_same r 700 e k ls a b

  having_same : (l : Level) (is_grouped : Bool) (o : Option Expr) → covers_option (covers s0) o ≡ true → having (inside s (level_at f l) is_grouped) o ≡ having (inside s0 l is_grouped) o
  unfolding having
  having_same l is_grouped o k = ap (λ x. if is_some o && not is_grouped then fail Misuse else x) (tests_same r lower (covers s0) lower_same (l ∷ []) is_grouped true [] o k)

  pub parts_over : (core : Core) (order : List Sort) → covers_core s0 core order ≡ true → (st : State) → parts s core order st ≡ checked_map (with_state (clauses_at f)) (parts s0 core order st)
  unfolding parts
  parts_over core order k st =
      let p = core_parts s0 core order k in
      rw (body_over r lower (covers s0) lower_same [] false true core p.0 st)
      (then_over (body lower (outermost s0) core st) (with_state (body_at f)) _ _ (with_state (clauses_at f)) (λ w.
      let g = not (length (out-Core core).group == 0 && length w.1.aggregates == 0) in
      rw (
        keys_same r lower (covers s0) lower_same (w.0.level ∷ []) false true w.0.level.shown (out-Core core).group p.1,
        having_same w.0.level g (out-Core core).having p.2,
        sorts_same r lower (covers s0) lower_same (w.0.level ∷ []) g true w.0.level.shown order p.3,
      )
      (then_into (keys lower (inside s0 w.0.level false) w.0.level.shown (out-Core core).group w.1) _ _ (with_state (clauses_at f)) (λ by.
      then_into (having (inside s0 w.0.level g) (out-Core core).having by.1) _ _ (with_state (clauses_at f)) (λ kept.
      then_into (sorts lower (inside s0 w.0.level g) w.0.level.shown order kept.1) _ _ (with_state (clauses_at f)) (λ o. refl))))))

  assembled_same : (distinct : Bool) (limit offset : Term) (p : Clauses) (st : State) → assembled distinct limit offset (clauses_at f p) st ≡ assembled distinct limit offset p st
  unfolding assembled
  assembled_same distinct limit offset p st = let e = length-map p.body.level.tables (bound_at f) in rw e

  pub named_same : (core : Core) (order : List Sort) (page : Term × Term) → covers_core s0 core order ≡ true → named s core order page ≡ named s0 core order page
  unfolding named
  named_same core order page k =
      rw (parts_over core order k (fresh 1 max_budget))
      (then_same (parts s0 core order (fresh 1 max_budget)) (with_state (clauses_at f)) _ _ (λ p. rw (assembled_same (out-Core core).distinct page.0 page.1 p.0 p.1)))

  -- ---- LIMIT and OFFSET

  constant_same : (absent : Term) (o : Option Expr) → covers_option (covers s0) o ≡ true → constant_or s absent o ≡ constant_or s0 absent o
  unfolding constant_or constant stepless
  constant_same absent None k = refl
  constant_same absent (Some e) k = let it = lower_same e k [] false true in rw it

  pub paging_same : (q : Select) → covers_page s0 q ≡ true → paging s q ≡ paging s0 q
  unfolding paging
  paging_same q k =
      let p = both (covers_option (covers s0) (out-Select q).limit) (covers_option (covers s0) (out-Select q).offset) k in
      let x = constant_same (lit (Int (negsuc 0))) (out-Select q).limit p.0 in
      let y = constant_same (number 0) (out-Select q).offset p.1 in
      rw (x, y)
