-- An expression with no query in it is lowered to the same term in two contexts that read each name alike.
use Rattle.std.proofs.Common.{◌≡◌, Bool, true, ◌&&◌, if◌then◌else◌, Option, Some, None, refl, ap}
use Rattle.std.proofs.Math.Path.{fun_ext}
use Rattle.sqlite_value.specs.declared.keys.Collation.{Collation}
use Rattle.sqlite_ast.specs.declared.Unary.{Unary}
use Rattle.sqlite_ast.specs.declared.Unary.TheVariants as unary
use Rattle.sqlite_ast.specs.declared.Binary.{Binary}
use Rattle.sqlite_ast.specs.declared.Binary.TheVariants as binary
use Rattle.sqlite_ast.specs.declared.Expr.{Expr, out-Expr}
use Rattle.sqlite_ast.specs.declared.Expr.TheOpen.{Expr-F}
use Rattle.sqlite_ast.specs.Layer.{Layer}
use Rattle.sqlite_sql.specs.declared.ops.UnaryOp.TheVariants.{Not}
use Rattle.sqlite_sql.specs.declared.ops.BinaryOp.{BinaryOp}
use Rattle.sqlite_sql.specs.declared.ops.BinaryOp.TheVariants as by
use Rattle.sqlite_sql.specs.declared.aggregate.AggregateOp.{AggregateOp}
use Rattle.sqlite_sql.specs.declared.aggregate.AggregateOp.TheVariants.{Count}
use Rattle.sqlite_sql.specs.Term.{Term, op1, op2}
use Rattle.sqlite_resolve.specs.declared.function.Function.{Function}
use Rattle.sqlite_resolve.specs.declared.function.Function.TheVariants as function
use Rattle.sqlite_resolve.specs.Lowering.{Lowering, pure}
use Rattle.sqlite_resolve.specs.Scope.{Name, Context}
use Rattle.sqlite_resolve.specs.Compare.{compared, unbound, converted, bare}
use Rattle.sqlite_resolve.specs.Expr.{count_rows, operated, applied, operator, combine, truth, truth_at, wanted_truth, is_identity, is_alias_at, tests_alias, both, operation, operation_by, prefixed}
use Rattle.sqlite_resolve.specs.Expr.{bounded, between, star, star_by, function_named, node_at}
use Rattle.bike_sql.specs.Fragment.{covers_prefix, covers_node}
use Rattle.bike_sql.proofs.Relocation.{both as parts}
use Rattle.bike_sql.proofs.CoverLemmas.{both3}
use Rattle.bike_sql.proofs.NameLemmas.{Alike}

module _ (cx cx0 : Context) (h : Alike cx cx0) where
  -- ---- what a node makes of the terms below it

  pub compared_same : compared cx ≡ compared cx0
  unfolding compared
  compared_same = ap (λ aff. λ op a b. op2 op (converted (aff a) (aff b) a) (converted (aff b) (aff a) b)) h.affinities

  unbound_same : unbound cx ≡ unbound cx0
  unfolding unbound
  unbound_same = ap (λ aff. λ t. bare (aff t) t) h.affinities

  operated_same : (op : BinaryOp) (a b : Term) → operated cx op a b ≡ operated cx0 op a b
  operated_same (by.Compare op how) a b = ap (λ c. c (by.Compare op how) a b) compared_same
  operated_same (by.Is how) a b = ap (λ c. c (by.Is how) a b) compared_same
  operated_same _ a b = refl

  applied_same : (o : Option BinaryOp) (a b : Term) → applied cx o a b ≡ applied cx0 o a b
  applied_same None a b = refl
  applied_same (Some op) a b = ap (λ t. pure t) (operated_same op a b)

  combine_same : (op : Binary) (how : Collation) (a b : Term) → combine cx op how a b ≡ combine cx0 op how a b
  unfolding combine
  combine_same binary.IsNot how a b = ap (λ c. pure (op1 Not (c (by.Is how) a b))) compared_same
  combine_same binary.Concat how a b = refl
  combine_same op how a b = applied_same (operator how op) a b

  -- ---- TRUE and FALSE, which may be names of columns

  truth_at_same : (l : Layer) → truth_at cx l ≡ truth_at cx0 l
  truth_at_same (Expr-F.Truth name value) = rw (h.free name)
  truth_at_same _ = refl

  wanted_same : (op : Binary) (e : Expr) → wanted_truth cx op e ≡ wanted_truth cx0 op e
  unfolding wanted_truth
  wanted_same op e = ap (λ t. if is_identity op then t else None) (truth_at_same (out-Expr e))

  alias_at_same : (l : Layer) → is_alias_at cx l ≡ is_alias_at cx0 l
  alias_at_same (Expr-F.Column table name) = h.aliases table name
  alias_at_same (Expr-F.Truth name value) = h.aliases None name
  alias_at_same _ = refl

  tests_alias_same : (op : Binary) (e : Expr) → tests_alias cx op e ≡ tests_alias cx0 op e
  unfolding tests_alias
  tests_alias_same op e = ap (λ t. is_identity op && t) (alias_at_same (out-Expr e))

  truth_same : (name : Name) (value : Bool) → truth cx name value ≡ truth cx0 name value
  unfolding truth
  truth_same name value = rw (h.free name)

  -- ---- count(*)

  star_by_same : (x : Function) → star_by cx x ≡ star_by cx0 x
  star_by_same (function.Aggregate op) = go op
    where
      go : (op : AggregateOp) → star_by cx (function.Aggregate op) ≡ star_by cx0 (function.Aggregate op)
      go Count = ap count_rows h.aggregates
      go _ = refl
  star_by_same _ = refl

  star_same : (name : Name) → star cx name ≡ star cx0 name
  unfolding star
  star_same name = star_by_same (function_named name)

  -- ---- a node over expressions that are lowered alike

  module _ (low low0 : Context → Expr → Lowering Term) where
    both_same : (op : Binary) (a b : Expr) → low cx a ≡ low0 cx0 a → low cx b ≡ low0 cx0 b → both low cx op a b ≡ both low0 cx0 op a b
    unfolding both
    both_same op a b left right =
        let combined : combine cx op ≡ combine cx0 op = fun_ext (λ how. fun_ext (λ x. fun_ext (λ y. combine_same op how x y))) in
        rw (tests_alias_same op b, left, right, combined)

    operation_by_same : (op : Binary) (a b : Expr) (wanted : Option Bool) → low cx a ≡ low0 cx0 a → low cx b ≡ low0 cx0 b → operation_by low cx op a b wanted ≡ operation_by low0 cx0 op a b wanted
    operation_by_same op a b (Some v) left right = rw left
    operation_by_same op a b None left right = both_same op a b left right

    operation_same : (op : Binary) (a b : Expr) → low cx a ≡ low0 cx0 a → low cx b ≡ low0 cx0 b → operation low cx op a b ≡ operation low0 cx0 op a b
    unfolding operation
    operation_same op a b left right = let wanted = wanted_same op b in rw wanted (operation_by_same op a b (wanted_truth cx0 op b) left right)

    prefixed_same : (op : Unary) (e : Expr) → covers_prefix op ≡ true → low cx e ≡ low0 cx0 e → prefixed low cx op e ≡ prefixed low0 cx0 op e
    unfolding prefixed
    prefixed_same unary.Minus e covered same = absurd (cc)
    prefixed_same unary.Plus e covered same = let u = unbound_same in rw (u, same)
    prefixed_same unary.Not e covered same = rw same
    prefixed_same unary.BitNot e covered same = rw same
    prefixed_same (unary.Collate c) e covered same = rw same

    between_same : (value from to : Expr) → low cx value ≡ low0 cx0 value → low cx from ≡ low0 cx0 from → low cx to ≡ low0 cx0 to → between low cx value from to ≡ between low0 cx0 value from to
    unfolding between bounded
    between_same value from to a b c = let d = compared_same in rw (d, a, b, c)

    pub node_same : (ok : Expr → Bool) → ((e : Expr) → ok e ≡ true → low cx e ≡ low0 cx0 e) → (l : Layer) → covers_node ok l ≡ true → node_at low cx l ≡ node_at low0 cx0 l
    node_same ok same Expr-F.Null k = refl
    node_same ok same (Expr-F.Integer text) k = refl
    node_same ok same (Expr-F.Float text) k = refl
    node_same ok same (Expr-F.Text text) k = refl
    node_same ok same (Expr-F.Blob digits) k = refl
    node_same ok same (Expr-F.Parameter n) k = refl
    node_same ok same (Expr-F.Column table name) k = h.columns table name
    node_same ok same (Expr-F.Truth name value) k = truth_same name value
    node_same ok same (Expr-F.Unary op e) k = let p = parts (covers_prefix op) (ok e) k in prefixed_same op e p.0 (same e p.1)
    node_same ok same (Expr-F.Binary op a b) k = let p = parts (ok a) (ok b) k in operation_same op a b (same a p.0) (same b p.1)
    node_same ok same (Expr-F.Between v a b) k = let p = both3 (ok v) (ok a) (ok b) k in between_same v a b (same v p.0) (same a p.1) (same b p.2)
    node_same ok same (Expr-F.CallStar name) k = star_same name
    node_same ok same _ k = absurd (cc)
