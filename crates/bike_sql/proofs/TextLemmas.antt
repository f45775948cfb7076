-- What a text means wherever its tables stand, from what it means where the schema has nothing else.
use Rattle.std.proofs.Common.{◌≡◌, ℕ, true, false, List, [], ◌∷◌, map, Ok, Err, refl, sym, ◌∙◌}
use Rattle.sqlite_value.specs.declared.keys.Key.{Key}
use Rattle.sqlite_value.specs.declared.keys.Collation.{Collation}
use Rattle.sqlite_sql.specs.Term.{Term}
use Rattle.sqlite_sql.specs.Query.{Query, inner, end}
use Rattle.sqlite_schema.specs.declared.schema.Schema.{Schema}
use Rattle.sqlite_schema.specs.declared.program.Table.{Table as Let}
use Rattle.sqlite_schema.specs.declared.command.Command.TheVariants.{Select, Update, Delete}
use Rattle.sqlite_schema.specs.Program.{let_in}
use Rattle.sqlite_draft.specs.Query.{query_of}
use Rattle.sqlite_resolve.specs.Lowering.{Checked}
use Rattle.sqlite_resolve.specs.Program.{Shown}
use Rattle.sqlite_typing.specs.Types.{accepts_program}
use Rattle.bike_sql.specs.Has.{HasTable, of_tables}
use Rattle.bike_sql.specs.Laws.{Means, Reads}
use Rattle.bike_sql.specs.Reads.{IsDraft, draft_of, IsUnion, union_of}
use Rattle.bike_sql.specs.Changes.{Change, IsChange, change_of}
use Rattle.bike_sql.proofs.ReadLaws.{select_is, union_is}
use Rattle.bike_sql.proofs.ChangeLaws.{change_is}
use Rattle.bike_sql.specs.Answer.{MeansQuery}
use Rattle.bike_sql.specs.Layout.{Layout, table_of}
use Rattle.bike_sql.specs.Queries.{left_query, two_left_query, union_tables, union_query, three_tables, three_query}

-- ---- a query is what it is under any names of its columns

abbrev pub Drafts : Checked Shown → Query → Type 0
Drafts (Ok shown) q = q ≡ query_of shown.0
Drafts (Err e) q = ⊥

drafted : (d : Checked Shown) (q : Query) → Drafts d q → (names : List (List ℕ)) × IsDraft d q names
drafted (Ok shown) q is = (shown.1, (sym is, refl))
drafted (Err e) q is = absurd is

abbrev pub Unites : Checked (Shown × List Let) → List Let → Query → Type 0
Unites (Ok r) lets q = (lets ≡ r.1) × (q ≡ query_of r.0.0)
Unites (Err e) lets q = ⊥

united : (d : Checked (Shown × List Let)) (lets : List Let) (q : Query) → Unites d lets q → (names : List (List ℕ)) × IsUnion d lets q names
united (Ok r) lets q is = (r.0.1, (sym is.0, sym is.1, refl))
united (Err e) lets q is = absurd is

-- an UPDATE of the one table
abbrev pub Updates : Checked Change → Query → Type 0
Updates (Ok c) q = (0 ≡ c.0) × (q ≡ query_of c.1) × (true ≡ c.2)
Updates (Err e) q = ⊥

updated : (d : Checked Change) (q : Query) → Updates d q → IsChange d 0 q true
updated (Ok c) q is = (sym is.0, sym is.1, sym is.2)
updated (Err e) q is = absurd is

-- a DELETE of rows of the one table
abbrev pub Deletes : Checked Change → Query → Type 0
Deletes (Ok c) q = (0 ≡ c.0) × (q ≡ query_of c.1) × (false ≡ c.2)
Deletes (Err e) q = ⊥

deleted : (d : Checked Change) (q : Query) → Deletes d q → IsChange d 0 q false
deleted (Ok c) q is = (sym is.0, sym is.1, sym is.2)
deleted (Err e) q is = absurd is

-- ---- the terms have the types that they have where the schema has nothing else

abbrev pub alone : Layout → Schema
alone layout = of_tables (table_of layout 0 ∷ [])

abbrev pub both_alone : Layout → Layout → Schema
both_alone layout other = of_tables (table_of layout 0 ∷ table_of other 1 ∷ [])

-- a query of one table, which stands in any tree
module _ (base : Query) where
  abbrev pub over : ℕ → Query
  over tree = record base { from = inner tree end }

  over_alone : (layout : Layout) (s : Schema) (at tree : ℕ) → HasTable s at (table_of layout tree) → accepts_program s [] (over tree) [] ≡ accepts_program (alone layout) [] (over 0) []
  over_alone layout s at tree h = rw (h.stored, h.by_tree)

  -- Where the table stands alone, in any tree, the text is this query, and its terms have types.
  abbrev pub IsSelect : Layout → List ℕ → Type 0
  IsSelect layout text = ((tree : ℕ) → Drafts (draft_of (of_tables (table_of layout tree ∷ [])) text) (over tree)) × (accepts_program (alone layout) [] (over 0) [] ≡ true)

  pub select_means : (layout : Layout) (text : List ℕ) → IsSelect layout text → (s : Schema) (at tree : ℕ) → HasTable s at (table_of layout tree)
      → (names : List (List ℕ)) × MeansQuery s text (over tree) names
  select_means layout text is s at tree h =
      let it = drafted _ (over tree) (is.0 tree) in
      (it.0, select_is s (at ∷ []) (table_of layout tree ∷ []) (h, tt) text (over tree) it.0 it.1 (over_alone layout s at tree h ∙ is.1))

  -- The text is an UPDATE by this query.
  abbrev pub IsUpdate : Layout → List ℕ → Type 0
  IsUpdate layout text = ((tree : ℕ) → Updates (change_of (of_tables (table_of layout tree ∷ [])) text) (over tree)) × (accepts_program (alone layout) [] (over 0) [] ≡ true)

  pub update_means : (layout : Layout) (text : List ℕ) → IsUpdate layout text → (s : Schema) (at tree : ℕ) → HasTable s at (table_of layout tree)
      → Means s text (Update at (record { lets = []; body = over tree }))
  update_means layout text is s at tree h = change_is s (at ∷ []) (table_of layout tree ∷ []) (h, tt) text 0 (over tree) true (updated _ (over tree) (is.0 tree)) (over_alone layout s at tree h ∙ is.1)

  -- The text is a DELETE by this query.
  abbrev pub IsDelete : Layout → List ℕ → Type 0
  IsDelete layout text = ((tree : ℕ) → Deletes (change_of (of_tables (table_of layout tree ∷ [])) text) (over tree)) × (accepts_program (alone layout) [] (over 0) [] ≡ true)

  pub delete_means : (layout : Layout) (text : List ℕ) → IsDelete layout text → (s : Schema) (at tree : ℕ) → HasTable s at (table_of layout tree)
      → Means s text (Delete at (record { lets = []; body = over tree }))
  delete_means layout text is s at tree h =
      change_is s (at ∷ []) (table_of layout tree ∷ []) (h, tt) text 0 (over tree) false (deleted _ (over tree) (is.0 tree)) (over_alone layout s at tree h ∙ is.1)

-- ---- a LEFT JOIN

module _ (on : List Term) (order : List (Term × Key)) (project : List Term) where
  abbrev joined : ℕ → ℕ → Query
  joined tree more = left_query tree more on order project

  joined_alone : (layout other : Layout) (s : Schema) (at tree there more : ℕ) → HasTable s at (table_of layout tree) → HasTable s there (table_of other more)
      → accepts_program s [] (joined tree more) [] ≡ accepts_program (both_alone layout other) [] (joined 0 1) []
  joined_alone layout other s at tree there more h k = rw (h.stored, h.by_tree, k.stored, k.by_tree)

  -- Where the two tables stand alone, in any trees, the text is this LEFT JOIN, and its terms have types.
  abbrev pub IsLeftJoin : Layout → Layout → List ℕ → Type 0
  IsLeftJoin layout other text =
      ((tree more : ℕ) → Drafts (draft_of (of_tables (table_of layout tree ∷ table_of other more ∷ [])) text) (joined tree more))
      × (accepts_program (both_alone layout other) [] (joined 0 1) [] ≡ true)

  pub left_join_means : (layout other : Layout) (text : List ℕ) → IsLeftJoin layout other text → (s : Schema) (at tree there more : ℕ) → HasTable s at (table_of layout tree)
      → HasTable s there (table_of other more)
      → (names : List (List ℕ)) × MeansQuery s text (joined tree more) names
  left_join_means layout other text is s at tree there more h k =
      let it = drafted _ (joined tree more) (is.0 tree more) in
      (it.0, select_is s (at ∷ there ∷ []) (table_of layout tree ∷ table_of other more ∷ []) (h, (k, tt)) text (joined tree more) it.0 it.1 (joined_alone layout other s at tree there more h k ∙ is.1))

-- ---- two LEFT JOINs

abbrev pub three_alone : Layout → Layout → Layout → Schema
three_alone layout other third = of_tables (table_of layout 0 ∷ table_of other 1 ∷ table_of third 2 ∷ [])

module _ (on on_third : List Term) (order : List (Term × Key)) (project : List Term) where
  abbrev joined_twice : ℕ → ℕ → ℕ → Query
  joined_twice tree more last = two_left_query tree more on last on_third order project

  twice_alone : (layout other third : Layout) (s : Schema) (at tree there more further last : ℕ) → HasTable s at (table_of layout tree) → HasTable s there (table_of other more)
      → HasTable s further (table_of third last)
      → accepts_program s [] (joined_twice tree more last) [] ≡ accepts_program (three_alone layout other third) [] (joined_twice 0 1 2) []
  twice_alone layout other third s at tree there more further last h k l = rw (h.stored, h.by_tree, k.stored, k.by_tree, l.stored, l.by_tree)

  -- Where the three tables stand alone, in any trees, the text is these two LEFT JOINs, and its terms have types.
  abbrev pub IsTwoJoins : Layout → Layout → Layout → List ℕ → Type 0
  IsTwoJoins layout other third text =
      ((tree more last : ℕ) → Drafts (draft_of (of_tables (table_of layout tree ∷ table_of other more ∷ table_of third last ∷ [])) text) (joined_twice tree more last))
      × (accepts_program (three_alone layout other third) [] (joined_twice 0 1 2) [] ≡ true)

  pub two_joins_means : (layout other third : Layout) (text : List ℕ) → IsTwoJoins layout other third text → (s : Schema) (at tree there more further last : ℕ) → HasTable s at (table_of layout tree)
      → HasTable s there (table_of other more) → HasTable s further (table_of third last)
      → (names : List (List ℕ)) × MeansQuery s text (joined_twice tree more last) names
  two_joins_means layout other third text is s at tree there more further last h k l =
      let it = drafted _ (joined_twice tree more last) (is.0 tree more last) in (
        it.0,
        select_is s (at ∷ there ∷ further ∷ []) (table_of layout tree ∷ table_of other more ∷ table_of third last ∷ []) (h, (k, (l, tt))) text (joined_twice tree more last) it.0 it.1
            (twice_alone layout other third s at tree there more further last h k l ∙ is.1),
      )

-- ---- a UNION ALL

module _ (first second : List Term) (collations : List Collation) (places : List ℕ) (project : List Term) where
  abbrev parts : ℕ → ℕ → List Let
  parts tree more = union_tables tree more first second collations

  united_alone : (layout other : Layout) (s : Schema) (at tree there more : ℕ) → HasTable s at (table_of layout tree) → HasTable s there (table_of other more)
      → accepts_program s (map let_in (parts tree more)) (union_query places project) [] ≡ accepts_program (both_alone layout other) (map let_in (parts 0 1)) (union_query places project) []
  united_alone layout other s at tree there more h k = rw (h.stored, h.by_tree, k.stored, k.by_tree)

  -- Where the two tables stand alone, in any trees, the text is this UNION ALL, and its terms have types.
  abbrev pub IsUnionAll : Layout → Layout → List ℕ → Type 0
  IsUnionAll layout other text =
      ((tree more : ℕ) → Unites (union_of (of_tables (table_of layout tree ∷ table_of other more ∷ [])) text) (parts tree more) (union_query places project))
      × (accepts_program (both_alone layout other) (map let_in (parts 0 1)) (union_query places project) [] ≡ true)

  pub union_all_means : (layout other : Layout) (text : List ℕ) → IsUnionAll layout other text → (s : Schema) (at tree there more : ℕ) → HasTable s at (table_of layout tree)
      → HasTable s there (table_of other more)
      → (names : List (List ℕ)) × Reads s text (Select (record { lets = parts tree more; body = union_query places project }) names)
  union_all_means layout other text is s at tree there more h k =
      let it = united _ (parts tree more) (union_query places project) (is.0 tree more) in (
        it.0,
        union_is s (at ∷ there ∷ []) (table_of layout tree ∷ table_of other more ∷ []) (h, (k, tt)) text (parts tree more) (union_query places project) it.0 it.1
            (united_alone layout other s at tree there more h k ∙ is.1),
      )

-- ---- a UNION ALL of three

module _ (first second third : List Term) (collations : List Collation) (places : List ℕ) (project : List Term) where
  abbrev three_parts : ℕ → ℕ → ℕ → List Let
  three_parts tree more last = three_tables tree more last first second third collations

  three_united_alone : (layout other final : Layout) (s : Schema) (at tree there more further last : ℕ) → HasTable s at (table_of layout tree) → HasTable s there (table_of other more)
      → HasTable s further (table_of final last)
      → accepts_program s (map let_in (three_parts tree more last)) (three_query places project) []
      ≡ accepts_program (three_alone layout other final) (map let_in (three_parts 0 1 2)) (three_query places project) []
  three_united_alone layout other final s at tree there more further last h k l = rw (h.stored, h.by_tree, k.stored, k.by_tree, l.stored, l.by_tree)

  -- Where the three tables stand alone, in any trees, the text is this UNION ALL, and its terms have types.
  abbrev pub IsUnionOfThree : Layout → Layout → Layout → List ℕ → Type 0
  IsUnionOfThree layout other final text =
      ((tree more last : ℕ) → Unites (union_of (of_tables (table_of layout tree ∷ table_of other more ∷ table_of final last ∷ [])) text) (three_parts tree more last) (three_query places project))
      × (accepts_program (three_alone layout other final) (map let_in (three_parts 0 1 2)) (three_query places project) [] ≡ true)

  pub union_of_three_means : (layout other final : Layout) (text : List ℕ) → IsUnionOfThree layout other final text → (s : Schema) (at tree there more further last : ℕ)
      → HasTable s at (table_of layout tree) → HasTable s there (table_of other more) → HasTable s further (table_of final last)
      → (names : List (List ℕ)) × Reads s text (Select (record { lets = three_parts tree more last; body = three_query places project }) names)
  union_of_three_means layout other final text is s at tree there more further last h k l =
      let it = united _ (three_parts tree more last) (three_query places project) (is.0 tree more last) in (
        it.0,
        union_is s (at ∷ there ∷ further ∷ []) (table_of layout tree ∷ table_of other more ∷ table_of final last ∷ []) (h, (k, (l, tt))) text (three_parts tree more last)
            (three_query places project) it.0 it.1 (three_united_alone layout other final s at tree there more further last h k l ∙ is.1),
      )
