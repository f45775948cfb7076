-- A whole query has the same draft under both schemas: one SELECT, or SELECTs joined by UNION and its like.
use Rattle.std.proofs.Common.{◌≡◌, ℕ, ◌+◌, suc, Bool, true, false, ◌&&◌, not, nat_lt, if◌then◌else◌, List, [], ◌∷◌, ◌++◌, length, ◌==◌, Option, Ok, Err, is_ok, refl, ap, ap₂, ◌∙◌}
use Rattle.std.proofs.Math.Path.{fun_ext}
use Rattle.std.proofs.Math.Dec.{eqb-suc-zero}
use Rattle.sqlite_value.specs.declared.keys.Collation.{Collation}
use Rattle.sqlite_value.specs.declared.keys.Key.{Key}
use Rattle.sqlite_ast.specs.declared.Expr.{Expr}
use Rattle.sqlite_ast.specs.declared.Core.{Core, out-Core}
use Rattle.sqlite_ast.specs.declared.Compound.{Compound}
use Rattle.sqlite_ast.specs.declared.Sort.{Sort, out-Sort}
use Rattle.sqlite_ast.specs.declared.Select.{Select, out-Select}
use Rattle.sqlite_ast.specs.declared.Source.{Source, out-Source}
use Rattle.sqlite_ast.specs.declared.Origin.{Origin}
use Rattle.sqlite_ast.specs.declared.Origin.TheVariants as origin
use Rattle.sqlite_sql.specs.Term.{Term}
use Rattle.sqlite_schema.specs.declared.schema.Schema.{Schema}
use Rattle.sqlite_schema.specs.declared.program.Table.{Table as Let}
use Rattle.sqlite_draft.specs.declared.query.Draft.{Draft}
use Rattle.sqlite_resolve.specs.declared.error.CompileError.TheVariants.{TooBig}
use Rattle.sqlite_resolve.specs.declared.scope.Level.{Level}
use Rattle.sqlite_resolve.specs.Lowering.{Checked, and_then, fresh, max_budget}
use Rattle.sqlite_resolve.specs.Order.{peeled}
use Rattle.sqlite_resolve.specs.Compound.{unnamed, sort_key, sort_keys_from, sort_keys, order_of}
use Rattle.sqlite_resolve.specs.Select.{named, paging, parts}
use Rattle.sqlite_resolve.specs.Program.{Shown, Building, ◌>>=◌, lift, Joined, computed, reading, source_by, sources_from, sources, source, viewing, single, alone, part, joined, others_from, others}
use Rattle.sqlite_resolve.specs.Program.{combined, compound, whole, level, with, query_to, query}
use Rattle.bike_sql.specs.Fragment.{is_nil, covers, covers_origin, covers_sources, covers_order, covers_core, covers_page, covers_select}
use Rattle.bike_sql.specs.Reads.{whole_part, covers_part, covers_parts, covers_union}
use Rattle.bike_sql.proofs.Relocation.{Relocates, level_at, with_state, then_same, both}
use Rattle.bike_sql.proofs.CoverLemmas.{both3, source_parts, body_parts, core_parts, select_parts}
use Rattle.bike_sql.proofs.CoreLemmas.{clauses_at, lower_same, parts_over, named_same, paging_same}

pub none_of : {X : Type 0} (xs : List X) → is_nil xs ≡ true → xs ≡ []
none_of [] h = refl
none_of (x ∷ xs) h = absurd (cc)

pub ok_is : {A : Type 0} (r : Checked A) → is_ok r ≡ true → (a : A) × (r ≡ Ok a)
ok_is (Ok a) h = (a, refl)
ok_is (Err e) h = absurd (cc)

-- FROM has a subquery in it nowhere, and names no view
covers_from : (s0 : Schema) (core : Core) (order : List Sort) → covers_core s0 core order ≡ true → covers_sources s0 (covers s0) (out-Core core).from ≡ true
covers_from s0 core order k = (body_parts s0 (covers s0) core (core_parts s0 core order k).0).0

module _ (inner : Schema → Select → Building Shown) where
  -- ---- one SELECT, in any schema in which its draft is known

  sources_are : (s0 outer s : Schema) (ok : Expr → Bool) (slot : ℕ) (srcs : List Source) → covers_sources s0 ok srcs ≡ true → (lets : List Let)
      → sources_from inner outer s slot srcs lets ≡ Ok (s, lets)
  unfolding source
  sources_are s0 outer s ok slot [] k lets = refl
  sources_are s0 outer s ok slot (src ∷ more) k lets =
      let p = source_parts s0 ok src more k in go (out-Source src).origin p.0 (sources_are s0 outer s ok (slot + 1) more p.2 lets)
    where
      go : (o : Origin Select) → covers_origin s0 o ≡ true → sources_from inner outer s (slot + 1) more lets ≡ Ok (s, lets)
          → and_then (source_by inner outer s slot o lets) (λ r. sources_from inner outer r.0 (slot + 1) more r.1) ≡ Ok (s, lets)
      go (origin.Query q) k' later = absurd (cc)
      go (origin.Table name) k' later = later

  viewing_is : (outer s : Schema) (core : Core) (order : List Sort) (page : Term × Term) (n : ℕ) (shown : Shown) → named s core order page ≡ Ok shown → (lets : List Let)
      → viewing inner outer core order page (suc n) s lets ≡ Ok ((shown, s), lets)
  unfolding viewing
  viewing_is outer s core order page n shown is lets = rw is

  single_is : (s0 s : Schema) (core : Core) (order : List Sort) (page : Term × Term) (shown : Shown) → covers_sources s0 (covers s0) (out-Core core).from ≡ true → named s core order page ≡ Ok shown
      → (lets : List Let) → single inner s core order page lets ≡ Ok ((shown, s), lets)
  unfolding single sources
  single_is s0 s core order page shown k is lets = let e = sources_are s0 s s (covers s0) 1 (out-Core core).from k lets in let v = viewing_is s s core order page 63 shown is lets in rw (e, v)

  alone_is : (s0 s : Schema) (core : Core) (order : List Sort) (page : Term × Term) (shown : Shown) → covers_sources s0 (covers s0) (out-Core core).from ≡ true → named s core order page ≡ Ok shown
      → (lets : List Let) → alone inner s core order page lets ≡ Ok (shown, lets)
  unfolding alone
  alone_is s0 s core order page shown k is lets = let e = single_is s0 s core order page shown k is lets in rw e

  level_is : (s0 s : Schema) (q : Select) (page : Term × Term) (shown : Shown) → is_nil (out-Select q).with ≡ true → is_nil (out-Select q).others ≡ true
      → covers_sources s0 (covers s0) (out-Core (out-Select q).first).from ≡ true
      → paging s q ≡ Ok page → named s (out-Select q).first (out-Select q).order page ≡ Ok shown → (lets : List Let) → level inner s q lets ≡ Ok (shown, lets)
  unfolding level with whole
  level_is s0 s q page shown no_with no_others k paged is lets =
      let w = none_of (out-Select q).with no_with in
      let o = none_of (out-Select q).others no_others in
      let a = alone_is s0 s (out-Select q).first (out-Select q).order page shown k is lets in
      rw (w, paged, o, a)

module _ {s s0 : Schema} {f : ℕ → ℕ} (r : Relocates s s0 f) where
  pub select_query : (q : Select) (shown : Shown) → covers_select s0 q ≡ true → and_then (paging s0 q) (λ page. named s0 (out-Select q).first (out-Select q).order page) ≡ Ok shown
      → query s q ≡ Ok (shown, [])
  unfolding query query_to
  select_query q shown k is = go (paging s0 q) refl is
    where
      go : (o : Checked (Term × Term)) → paging s0 q ≡ o → and_then o (λ page. named s0 (out-Select q).first (out-Select q).order page) ≡ Ok shown → query_to 16 s q [] ≡ Ok (shown, [])
      go (Err e) paged h = absurd (cc)
      go (Ok page) paged h =
          let p = select_parts s0 q k in
          level_is (query_to 15) s0 s q page shown p.2 p.3 (covers_from s0 (out-Select q).first (out-Select q).order p.0)
          (paging_same r q p.1 ∙ paged) (named_same r (out-Select q).first (out-Select q).order page p.0 ∙ h) []

  -- ---- ORDER BY of parts that are joined by UNION and its like

  unnamed_same : (l : Level) (e : Expr) → covers s0 e ≡ true → unnamed s (level_at f l) e ≡ unnamed s0 l e
  unfolding unnamed
  unnamed_same l e k = let it = lower_same r e k (l ∷ []) false true in rw it

  sort_key_same : (l : Level) (by : List (Option Collation)) (x : Sort) → covers s0 (peeled (out-Sort x).key) ≡ true → sort_key s (level_at f l) by x ≡ sort_key s0 l by x
  unfolding sort_key
  sort_key_same l by x k = let it = unnamed_same l (peeled (out-Sort x).key) k in rw it

  sort_keys_same : (l : Level) (by : List (Option Collation)) (done : List (Term × Key)) (xs : List Sort) → covers_order (covers s0) xs ≡ true
      → sort_keys_from s (level_at f l) by done xs ≡ sort_keys_from s0 l by done xs
  sort_keys_same l by done [] k = refl
  sort_keys_same l by done (x ∷ more) k =
      let p = both (covers s0 (peeled (out-Sort x).key)) (covers_order (covers s0) more) k in
      ap₂ (λ first later. and_then first later) (sort_key_same l by x p.0) (fun_ext (λ one. sort_keys_same l by (done ++ one ∷ []) more p.1))

  order_same : (core : Core) (by : List (Option Collation)) (order : List Sort) → covers_core s0 core [] ≡ true → covers_order (covers s0) order ≡ true
      → order_of s core by order ≡ order_of s0 core by order
  unfolding order_of sort_keys
  order_same core by order k1 k2 =
      rw (parts_over r core [] k1 (fresh 1 max_budget)) (then_same (parts s0 core [] (fresh 1 max_budget)) (with_state (clauses_at f)) _ _ (λ p. sort_keys_same p.0.body.level by [] order k2))

  -- ---- the parts

  module _ (inner inner0 : Schema → Select → Building Shown) where
    part_is : (core : Core) → covers_part s0 core ≡ true → (shown : Shown) × ((lets : List Let) → part inner s core lets ≡ Ok ((shown, s), lets))
        × ((lets : List Let) → part inner0 s0 core lets ≡ Ok ((shown, s0), lets))
    unfolding part
    part_is core k =
        let p = both (covers_core s0 core []) (is_ok (named s0 core [] whole_part)) k in
        let d = ok_is (named s0 core [] whole_part) p.1 in
        let from = covers_from s0 core [] p.0 in
        (d.0, single_is inner s0 s core [] whole_part d.0 from (named_same r core [] whole_part p.0 ∙ d.1), single_is inner0 s0 s0 core [] whole_part d.0 from d.1)

    joined_same : (width : ℕ) (left : Joined) (c : Compound × Core) → covers_part s0 c.1 ≡ true → joined inner s width left c ≡ joined inner0 s0 width left c
    unfolding joined
    joined_same width left c k = fun_ext (λ lets. let p = part_is c.1 k in let a = p.1 lets in let b = p.2 lets in rw (a, b))

    others_from_same : (width : ℕ) (left : Joined) (cs : List (Compound × Core)) → covers_parts s0 cs ≡ true → others_from inner s width left cs ≡ others_from inner0 s0 width left cs
    others_from_same width left [] k = refl
    others_from_same width left (c ∷ more) k =
        let p = both (covers_part s0 c.1) (covers_parts s0 more) k in
        let later : (λ longer. others_from inner s width longer more) ≡ (λ longer. others_from inner0 s0 width longer more) = fun_ext (λ longer. others_from_same width longer more p.1) in
        rw (joined_same width left c p.0, later)

    combined_same : (q : Select) (first : Draft) (width : ℕ) (how : List (Option Collation)) → covers_parts s0 (out-Select q).others ≡ true
        → combined inner s q first width how ≡ combined inner0 s0 q first width how
    unfolding combined others
    combined_same q first width how k =
        let later : (λ left. others_from inner s (width + 1) left (out-Select q).others) ≡ (λ left. others_from inner0 s0 (width + 1) left (out-Select q).others) = fun_ext (λ left. others_from_same (width + 1) left (out-Select q).others k) in
        ap (λ x. λ lets. and_then (computed first lets) (λ p. (if nat_lt width 65535 then x (p.0, how, false) else lift (Err TooBig)) p.1)) later

    compound_same : (q : Select) (page : Term × Term) → covers_part s0 (out-Select q).first ≡ true → covers_parts s0 (out-Select q).others ≡ true → covers_order (covers s0) (out-Select q).order ≡ true
        → compound inner s q page ≡ compound inner0 s0 q page
    unfolding compound
    compound_same q page k1 k2 k3 = fun_ext (λ lets.
        let p = part_is (out-Select q).first k1 in
        let core = (both (covers_core s0 (out-Select q).first []) (is_ok (named s0 (out-Select q).first [] whole_part)) k1).0 in
        let o : (λ by. order_of s (out-Select q).first by (out-Select q).order) ≡ (λ by. order_of s0 (out-Select q).first by (out-Select q).order) = fun_ext (λ by. order_same (out-Select q).first by (out-Select q).order core k3) in
        let a = p.1 lets in
        let b = p.2 lets in
        let c = combined_same q p.0.0 (length p.0.1) p.0.2 k2 in
        rw (a, b, c) (ap (λ (x : List (Option Collation) → Checked (List (Term × Key))). and_then {A = Joined × List Let} {B = Shown × List Let} (combined inner0 s0 q p.0.0 (length p.0.1) p.0.2 lets)
        (λ j. (lift (x j.0.1) >>= (λ order. lift (Ok (reading j.0.0 p.0.1 order page, p.0.1, p.0.2)))) j.1)) o))

    union_same : (q : Select) → covers_union s0 q ≡ true → level inner s q ≡ level inner0 s0 q
    unfolding level with whole
    union_same q k =
        let parts3 = covers_part s0 (out-Select q).first && (covers_parts s0 (out-Select q).others && covers_order (covers s0) (out-Select q).order) in
        let rest = covers_page s0 q && (is_nil (out-Select q).with && not (is_nil (out-Select q).others)) in
        let pt = both parts3 rest k in
        let p = both3 (covers_part s0 (out-Select q).first) (covers_parts s0 (out-Select q).others) (covers_order (covers s0) (out-Select q).order) pt.0 in
        let t = both3 (covers_page s0 q) (is_nil (out-Select q).with) (not (is_nil (out-Select q).others)) pt.1 in
        let w = none_of (out-Select q).with t.1 in
        let g = paging_same r q t.0 in
        rw w (go g (more_than_none (out-Select q).others t.2) (λ page. compound_same q page p.0 p.1 p.2))
      where
        more_than_none : {X : Type 0} (xs : List X) → not (is_nil xs) ≡ true → (length xs == 0) ≡ false
        more_than_none [] h = absurd (cc)
        more_than_none (x ∷ xs) h = eqb-suc-zero (length xs)

        go : paging s q ≡ paging s0 q → (length (out-Select q).others == 0) ≡ false → ((page : Term × Term) → compound inner s q page ≡ compound inner0 s0 q page) → whole inner s q ≡ whole inner0 s0 q
        go paged more same = rw (paged, more) (ap (λ x. lift (paging s0 q) >>= x) (fun_ext same))

  pub union_query : (q : Select) → covers_union s0 q ≡ true → query s q ≡ query s0 q
  unfolding query query_to
  union_query q k = ap (λ x. x []) (union_same (query_to 15) (query_to 15) q k)
