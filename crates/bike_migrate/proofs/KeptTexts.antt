-- The texts that name `kept`.
use Rattle.std.proofs.Common.{◌≡◌, ◌^◌, ℕ, List, [], ◌∷◌, map, Bool, true, false, Ok, Err, nat_lt, nat_le, codes, Ordering, Less, Equal, Greater, refl, subst, sym, ap, ◌∙◌}
use Rattle.std.specs.List.{IsDistinct}
use Rattle.std.specs.List.Sorted.{IsPermutation}
use Rattle.std.specs.Ordering.{on, eq_by_cmp, is_eq}
use Rattle.std.proofs.lemmas.Bool.{leb-false, lt-ltb}
use Rattle.sqlite_value.specs.declared.value.Value.TheVariants.{Null}
use Rattle.sqlite_value.specs.declared.keys.Key.{Key}
use Rattle.sqlite_value.specs.Order.{Row, value_cmp}
use Rattle.sqlite_value.proofs.OrderLemmas.{then-Equal}
use Rattle.sqlite_sql.specs.Query.{Query, Output, output_cmp}
use Rattle.sqlite_sql.proofs.QueryLemmas.{output_cmp_total}
use Rattle.sqlite_sql.specs.Term.{Term, col}
use Rattle.sqlite_schema.specs.declared.schema.Schema.{Schema}
use Rattle.sqlite_syntax.specs.declared.statement.Parsed.{Parsed}
use Rattle.sqlite_resolve.specs.Compile.{first}
use Rattle.sqlite_resolve.specs.Lowering.{Checked, and_then}
use Rattle.sqlite_resolve.specs.Program.{Shown}
use Rattle.sqlite_typing.specs.Types.{accepts_program}
use Rattle.sqlite_tied.specs.Compute.{everything}
use Rattle.sqlite_rules.specs.Lists.{Has}
use Rattle.sqlite_trees.specs.Tree.{Trees, rowid}
use Rattle.sqlite.specs.Effect.{Database}
use Rattle.bike_sql.specs.Answer.{MeansQuery, HasOneAnswer}
use Rattle.bike_sql.specs.Drops.{IsDrop}
use Rattle.bike_sql.specs.Has.{HasTable, of_tables}
use Rattle.bike_sql.specs.Keyed.{in_order}
use Rattle.bike_sql.specs.Reads.{draft_of, of_query, one_select, IsDraft}
use Rattle.bike_sql.proofs.ReadLaws.{select_is}
use Rattle.bike_sql.specs.Layout.{Layout, table_of}
use Rattle.bike_sql.specs.Queries.{table_query, by_columns}
use Rattle.bike_sql.specs.View.{AreSpread}
use Rattle.bike_sql.proofs.AnswerLemmas.{out, Answered, answered}
use Rattle.bike_sql.proofs.KeyOrderLemmas.{compares}
use Rattle.bike_sql.proofs.OrderLemmas.{all_has, all_from}
use Rattle.bike_sql.proofs.RowListLemmas.{map_has, map_map, filter_all}
use Rattle.bike_sql.proofs.SortLemmas.{sorted_is, order_map}
use Rattle.bike_sql.proofs.TextLemmas.{Drafts, alone}
use Rattle.bike_sql.proofs.WalkLaw.{one_answer}
use Rattle.bike_recognition.specs.Rowids.{AreApart}
use Rattle.bike_recognition.specs.Wanted.{Lies}
use Rattle.bike_recognition.specs.EarlierVersions.Kept.{kept_name, kept_layout, kept_row, shown_kept, kept_rows, KeptLies}
use Rattle.bike_recognition.proofs.RowidTexts.{IsParsed}

-- ---- what the query asks

abbrev pub kept_text : List ℕ
kept_text = codes "SELECT * FROM kept ORDER BY rowid"

abbrev order : List (Term × Key)
order = by_columns (0 ∷ [])

abbrev project : List Term
project = col 1 1 ∷ col 1 2 ∷ col 1 3 ∷ col 1 4 ∷ []

abbrev kept_query : ℕ → Query
kept_query tree = table_query tree [] order project

-- As with every text that names the rowid, it is parsed first, and its meaning is that of what was parsed.
named : (draft : Checked Shown) (q : Query) → Drafts draft q → (names : List (List ℕ)) × IsDraft draft q names
named (Ok shown) q is = (shown.1, (sym is, refl))
named (Err e) q is = absurd is

is_stored : (tree : ℕ) → nat_le (2 ^ 31) tree ≡ false → nat_lt tree (2 ^ 31) ≡ true
is_stored tree low = lt-ltb tree (2 ^ 31) (leb-false (2 ^ 31) tree low)

parsed : IsParsed kept_text
unfolding everything
parsed = (_, refl)

-- what was parsed asks for the rows, where the table stands alone in a stored tree
abbrev AsksAlone : Layout → Parsed → Type 0
AsksAlone layout p =
    ((tree : ℕ) → nat_lt tree (2 ^ 31) ≡ true → Drafts (of_query (one_select (of_tables (table_of layout tree ∷ []))) p.formats p.statement) (kept_query tree))
    × (accepts_program (alone layout) [] (kept_query 0) [] ≡ true)

asks_alone : (keyed : Bool) → AsksAlone (kept_layout keyed) parsed.0
unfolding everything parsed
asks_alone true = (λ tree low. rw low refl, refl)
asks_alone false = (λ tree low. rw low refl, refl)

asks : (keyed : Bool) (s : Schema) (at tree : ℕ) → HasTable s at (table_of (kept_layout keyed) tree) → (names : List (List ℕ)) × MeansQuery s kept_text (kept_query tree) names
asks keyed s at tree has =
    let layout = kept_layout keyed in
    let schema = of_tables (table_of layout tree ∷ []) in
    let alone_asks = asks_alone keyed in
    let drafts : Drafts (draft_of schema kept_text) (kept_query tree) = subst (λ r. Drafts (and_then r (λ p. of_query (one_select schema) p.formats p.statement)) (kept_query tree)) (sym parsed.1) (alone_asks.0 tree (is_stored tree has.stored)) in
    let it = named _ (kept_query tree) drafts in
    (it.0, select_is s (at ∷ []) (table_of layout tree ∷ []) (has, tt) kept_text (kept_query tree) it.0 it.1 (anywhere alone_asks.1))
  where
    anywhere : accepts_program (alone (kept_layout keyed)) [] (kept_query 0) [] ≡ true → accepts_program s [] (kept_query tree) [] ≡ true
    anywhere there = rw (has.stored, has.by_tree) there

-- ---- what it answers

module _ (tree : ℕ) (trees : Trees) where
  abbrev stored : List Row
  stored = trees tree

  abbrev o : Row → Output
  o = out tree [] order project trees []

  abbrev by_rowid : Row → Row → Ordering
  by_rowid = on rowid value_cmp

  same_order : (a b : Row) → output_cmp (kept_query tree) (o a) (o b) ≡ by_rowid a b
  same_order a b = compares (0 ∷ []) [] a b [] [] ∙ then-Equal (value_cmp (rowid a) (rowid b))

  unequal : (c : Ordering) → (c ≡ Equal → ⊥) → is_eq c ≡ false
  unequal Less f = refl
  unequal Equal f = absurd (f refl)
  unequal Greater f = refl

  distinct : (rows : List Row) → AreSpread rows → IsDistinct (eq_by_cmp (output_cmp (kept_query tree))) (map o rows)
  unfolding IsDistinct
  distinct [] spread = tt
  distinct (r ∷ rows) spread = (
    all_from (λ y. is_eq (output_cmp (kept_query tree) (o r) y) ≡ false) (map o rows) (λ y has.
        let b = map_has o rows y has in
        let far = all_has (λ x. value_cmp (rowid r) (rowid x) ≡ Equal → ⊥) rows b.0 spread.0 b.1 in
        unequal (output_cmp (kept_query tree) (o r) y) (λ tie. far (sym (same_order r b.0) ∙ ap (output_cmp (kept_query tree) (o r)) (sym b.2) ∙ tie))),
    distinct rows spread.1,
  )

  in_rowid_order : (rows : List Row) → AreApart stored → Answered tree [] order project trees [] rows → rows ≡ shown_kept stored
  in_rowid_order rows apart a =
      let same : IsPermutation (map o stored) a.outs = subst (λ rs. IsPermutation (map o rs) a.outs) (filter_all stored) a.same in
      let outs : a.outs ≡ in_order (output_cmp (kept_query tree)) (map o stored) = sorted_is (output_cmp_total (kept_query tree)) (map o stored) a.outs same a.sorted (distinct stored apart.0) in
      a.shown ∙ ap (map (λ (x : Output). x.1)) (outs ∙ order_map by_rowid (output_cmp (kept_query tree)) o same_order stored)
      ∙ map_map o (λ (x : Output). x.1) (in_order by_rowid stored)

kept_rows_are : (db : Database) (keyed : Bool) (it : Lies db (kept_layout keyed)) → kept_rows db ≡ shown_kept (db.trees it.tree)
kept_rows_are db true it = rw (it.has.found, it.has.there) refl
kept_rows_are db false it = rw (it.has.found, it.has.there) refl

pub asks_kept : (db : Database) → KeptLies db → HasOneAnswer db kept_text [] (kept_rows db)
asks_kept db it = by it.keyed it.lies
  where
    by : (keyed : Bool) → Lies db (kept_layout keyed) → HasOneAnswer db kept_text [] (kept_rows db)
    by keyed lies =
        let means = asks keyed db.schema lies.at lies.tree lies.has in
        subst (HasOneAnswer db kept_text []) (sym (kept_rows_are db keyed lies))
        (one_answer db kept_text [] (kept_query lies.tree) means.0 (shown_kept (db.trees lies.tree)) means.1
        (λ rows answer. in_rowid_order lies.tree db.trees rows lies.apart (answered lies.tree [] order project db.trees [] Null rows answer)))

-- ---- its rows

-- each is some stored row, as its columns show it
pub kept_shown : (db : Database) (P : Row → Type 0) → ((r : Row) → P (kept_row r)) → KeptLies db → (row : Row) → Has (kept_rows db) row → P row
kept_shown db P each it = by it.keyed it.lies
  where
    by : (keyed : Bool) → Lies db (kept_layout keyed) → (row : Row) → Has (kept_rows db) row → P row
    by keyed lies row has =
        let there = subst (λ rows. Has rows row) (kept_rows_are db keyed lies) has in
        let found = map_has kept_row (in_order (on rowid value_cmp) (db.trees lies.tree)) row there in
        subst P (sym found.2) (each found.0)

-- ---- DROP

pub kept_drops : IsDrop (first (codes "DROP TABLE kept")) kept_name
unfolding everything
kept_drops = (refl, refl)
