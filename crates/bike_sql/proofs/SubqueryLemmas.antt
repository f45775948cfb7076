-- An expression with subqueries and aggregates in it, correlated or not, is lowered to the same term.
use Rattle.std.proofs.Common.{◌≡◌, ℕ, zero, suc, Bool, true, false, ◌&&◌, ◌||◌, if◌then◌else◌, List, [], ◌∷◌, map, refl, ap}
use Rattle.std.proofs.Math.Path.{fun_ext}
use Rattle.std.specs.List.{list_any}
use Rattle.sqlite_ast.specs.declared.Expr.{Expr, out-Expr}
use Rattle.sqlite_ast.specs.declared.Expr.TheOpen.{Expr-F}
use Rattle.sqlite_ast.specs.declared.Core.{Core}
use Rattle.sqlite_ast.specs.declared.Select.{Select, out-Select}
use Rattle.sqlite_ast.specs.Layer.{Layer}
use Rattle.sqlite_sql.specs.Term.{Term, reads_below}
use Rattle.sqlite_schema.specs.declared.schema.Schema.{Schema}
use Rattle.sqlite_draft.specs.declared.query.Aggregate.{Aggregate}
use Rattle.sqlite_draft.specs.Measure.{reads}
use Rattle.sqlite_resolve.specs.declared.function.Function.{Function}
use Rattle.sqlite_resolve.specs.declared.function.Function.TheVariants as function
use Rattle.sqlite_resolve.specs.declared.scope.Bound.{Bound}
use Rattle.sqlite_resolve.specs.declared.scope.Level.{Level}
use Rattle.sqlite_resolve.specs.declared.scope.Output.{Output}
use Rattle.sqlite_resolve.specs.declared.state.State.{State}
use Rattle.sqlite_resolve.specs.declared.subquery.Purpose.{Purpose}
use Rattle.sqlite_resolve.specs.declared.subquery.Purpose.TheVariants.{Exists, Equals, MayEqual}
use Rattle.sqlite_resolve.specs.Scope.{Name, Context}
use Rattle.sqlite_resolve.specs.Lowering.{Lowering, fresh}
use Rattle.sqlite_resolve.specs.Body.{body}
use Rattle.sqlite_resolve.specs.Expr.{wanted, counting, counted, ordered, valuing, valued, summary, is_own, folded, single, call, scalar, distinct_by, function_named, node_at, opened, node, lower_to}
use Rattle.bike_sql.specs.Fragment.{is_aggregate, covers_body, covers_order, covers_inner, covers_layer, covers_to}
use Rattle.bike_sql.proofs.Relocation.{Relocates, bound_at, level_at, body_at, scope, with_state, then_same, both as parts}
use Rattle.bike_sql.proofs.NameLemmas.{alike}
use Rattle.bike_sql.proofs.TermLemmas.{compared_same, node_same}
use Rattle.bike_sql.proofs.ClauseLemmas.{LowersAlike, body_over, sorts_same}

-- an aggregate belongs to the query whose tables it reads, wherever these stand
any_read : (f : ℕ → ℕ) (a : Aggregate) (bs : List Bound) → list_any (λ b. reads b.slot a.argument) (map (bound_at f) bs) ≡ list_any (λ b. reads b.slot a.argument) bs
any_read f a [] = refl
any_read f a (b ∷ bs) = ap (λ t. reads b.slot a.argument || t) (any_read f a bs)

own_same : (f : ℕ → ℕ) (bs : List Bound) → is_own (map (bound_at f) bs) ≡ is_own bs
unfolding is_own
own_same f bs = fun_ext (λ a. ap (λ t. reads_below 1 a.argument || t) (any_read f a bs))

module _ {s s0 : Schema} {f : ℕ → ℕ} (r : Relocates s s0 f) where
  abbrev in_s : List Level → Bool → Bool → Context
  in_s ls a b = scope s (map (level_at f) ls) a b

  abbrev in_s0 : List Level → Bool → Bool → Context
  in_s0 ls a b = scope s0 ls a b

  wanted_same : (ls : List Level) (a b : Bool) (p : Purpose) (shown : List Output) (all : List Aggregate) → wanted (in_s ls a b) p shown all ≡ wanted (in_s0 ls a b) p shown all
  unfolding wanted
  wanted_same ls a b Exists shown all = refl
  wanted_same ls a b (Equals x c) shown all = let e = compared_same (in_s ls a b) (in_s0 ls a b) (alike r ls a b) in rw e
  wanted_same ls a b (MayEqual x c) shown all = let e = compared_same (in_s ls a b) (in_s0 ls a b) (alike r ls a b) in rw e

  module _ (low : Context → Expr → Lowering Term) (ok : Expr → Bool) (same : LowersAlike s s0 f low ok) where
    -- ---- EXISTS

    counting_same : (ls : List Level) (a b : Bool) (p : Purpose) (core : Core) → covers_body s0 ok core ≡ true → (st : State)
        → counting low (in_s ls a b) p core st ≡ counting low (in_s0 ls a b) p core st
    unfolding counting
    counting_same ls a b p core k st =
        rw (body_over r low ok same ls a b core k st)
        (then_same (body low (in_s0 ls a b) core st) (with_state (body_at f)) _ _ (λ w. let e = wanted_same (w.0.level ∷ ls) false true p w.0.level.shown w.1.aggregates in rw e))

    counted_same : (ls : List Level) (a b : Bool) (p : Purpose) (q : Select) → covers_body s0 ok (out-Select q).first ≡ true → counted low (in_s ls a b) p q ≡ counted low (in_s0 ls a b) p q
    unfolding counted
    counted_same ls a b p q k = fun_ext (λ st. let e = counting_same ls a b p (out-Select q).first k (fresh st.next st.budget) in rw e)

    -- ---- a query as a value

    valuing_same : (ls : List Level) (a b : Bool) (first : ℕ) (q : Select) → covers_inner s0 ok q ≡ true → (st : State) → valuing low (in_s ls a b) first q st ≡ valuing low (in_s0 ls a b) first q st
    unfolding valuing ordered summary
    valuing_same ls a b first q k st =
        let p = parts (covers_body s0 ok (out-Select q).first) (covers_order ok (out-Select q).order) k in
        rw (body_over r low ok same ls a b (out-Select q).first p.0 st)
        (then_same (body low (in_s0 ls a b) (out-Select q).first st) (with_state (body_at f)) _ _ (λ w.
        let order = sorts_same r low ok same (w.0.level ∷ ls) false true w.0.level.shown (out-Select q).order p.1 in
        let own = own_same f w.0.level.tables in
        rw (order, own)))

    valued_same : (ls : List Level) (a b : Bool) (q : Select) → covers_inner s0 ok q ≡ true → valued low (in_s ls a b) q ≡ valued low (in_s0 ls a b) q
    unfolding valued
    valued_same ls a b q k = fun_ext (λ st. let e = valuing_same ls a b st.next q k (fresh st.next st.budget) in rw e)

    -- ---- an aggregate of one argument

    call_by_same : (ls : List Level) (a b distinct : Bool) (x : Function) (e : Expr) → ok e ≡ true → is_aggregate x ≡ true
        → (if distinct then distinct_by low (in_s ls a b) x (e ∷ []) else scalar low (in_s ls a b) x (e ∷ []))
        ≡ (if distinct then distinct_by low (in_s0 ls a b) x (e ∷ []) else scalar low (in_s0 ls a b) x (e ∷ []))
    unfolding scalar folded single
    call_by_same ls a b true (function.Aggregate op) e k is = let it = same e k ls false b in rw it
    call_by_same ls a b false (function.Aggregate op) e k is = let it = same e k ls false b in rw it
    call_by_same ls a b distinct _ e k is = absurd (cc)

    call_same : (ls : List Level) (a b distinct : Bool) (name : Name) (e : Expr) → (ok e && is_aggregate (function_named name)) ≡ true
        → call low (in_s ls a b) name distinct (e ∷ []) ≡ call low (in_s0 ls a b) name distinct (e ∷ [])
    unfolding call
    call_same ls a b distinct name e k = let p = parts (ok e) (is_aggregate (function_named name)) k in call_by_same ls a b distinct (function_named name) e p.0 p.1

    -- ---- any covered node

    layer_same : (ls : List Level) (a b : Bool) (l : Layer) → covers_layer s0 ok l ≡ true → node_at low (in_s ls a b) l ≡ node_at low (in_s0 ls a b) l
    layer_same ls a b (Expr-F.Exists q) k = let p = parts (covers_body s0 ok (out-Select q).first) (covers_order ok (out-Select q).order) k in counted_same ls a b Exists q p.0
    layer_same ls a b (Expr-F.Subquery q) k = valued_same ls a b q k
    layer_same ls a b (Expr-F.Call name distinct (e ∷ [])) k = call_same ls a b distinct name e k
    layer_same ls a b l k = node_same (in_s ls a b) (in_s0 ls a b) (alike r ls a b) low low ok (λ e k'. same e k' ls a b) l k

    covered_same : (ls : List Level) (a b : Bool) (e : Expr) → covers_layer s0 ok (out-Expr e) ≡ true → node low (in_s ls a b) e ≡ node low (in_s0 ls a b) e
    unfolding node opened
    covered_same ls a b e k = let it = layer_same ls a b (out-Expr e) k in rw it

  -- by the depth to which the expression is read
  pub lower_to_same : (depth : ℕ) → LowersAlike s s0 f (lower_to depth) (covers_to s0 depth)
  unfolding lower_to
  lower_to_same zero e k ls a b = refl
  lower_to_same (suc depth) e k ls a b = covered_same (lower_to depth) (covers_to s0 depth) (lower_to_same depth) ls a b e k
