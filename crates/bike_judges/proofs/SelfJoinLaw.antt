-- Two LEFT JOINs of one table: the text names it twice, each time by another name.
use Rattle.std.proofs.Common.{◌≡◌, ℕ, true, List, [], ◌∷◌, length, Option, Some, None, Ok, Err, refl, sym, ◌∙◌}
use Rattle.sqlite_value.specs.declared.keys.Key.{Key}
use Rattle.sqlite_value.specs.Order.{Row}
use Rattle.sqlite_sql.specs.Term.{Term, eval_all}
use Rattle.sqlite_sql.specs.Query.{Query}
use Rattle.sqlite_schema.specs.declared.schema.Schema.{Schema}
use Rattle.sqlite_resolve.specs.Lowering.{Checked}
use Rattle.sqlite_resolve.specs.Program.{Shown}
use Rattle.sqlite_typing.specs.Types.{accepts_program}
use Rattle.sqlite.specs.Effect.{Database}
use Rattle.bike_sql.specs.Has.{HasTable, of_tables}
use Rattle.bike_sql.specs.Reads.{IsDraft, draft_of}
use Rattle.bike_sql.proofs.ReadLaws.{select_is}
use Rattle.bike_sql.specs.Answer.{MeansQuery, HasOneAnswer}
use Rattle.bike_sql.specs.Layout.{Layout, table_of}
use Rattle.bike_sql.specs.Queries.{two_left_query, by_columns, join_tests, third_tests}
use Rattle.bike_sql.specs.Stands.{rows_of, Stands}
use Rattle.bike_sql.specs.View.{columns_of, twice_joined}
use Rattle.bike_sql.proofs.KeyLemmas.{IsKeyAt}
use Rattle.bike_sql.proofs.SelectLaws.{places_of, AreShown}
use Rattle.bike_sql.proofs.TextLemmas.{Drafts, both_alone}
use Rattle.bike_sql.proofs.TwoJoinsLaw.{two_joins_answer}

-- a query is what it is under any names of its columns
drafted : (d : Checked Shown) (q : Query) → Drafts d q → (names : List (List ℕ)) × IsDraft d q names
drafted (Ok shown) q is = (shown.1, (sym is, refl))
drafted (Err e) q is = absurd is

module _ (on on_third : List Term) (order : List (Term × Key)) (project : List Term) where
  abbrev joined : ℕ → ℕ → Query
  joined tree more = two_left_query tree more on more on_third order project

  joined_alone : (layout other : Layout) (s : Schema) (at tree there more : ℕ) → HasTable s at (table_of layout tree) → HasTable s there (table_of other more)
      → accepts_program s [] (joined tree more) [] ≡ accepts_program (both_alone layout other) [] (joined 0 1) []
  joined_alone layout other s at tree there more h k = rw (h.stored, h.by_tree, k.stored, k.by_tree)

  -- Where the two tables stand alone, in any trees, the text is these two LEFT JOINs, and its terms have types.
  abbrev pub IsSelfJoins : Layout → Layout → List ℕ → Type 0
  IsSelfJoins layout other text =
      ((tree more : ℕ) → Drafts (draft_of (of_tables (table_of layout tree ∷ table_of other more ∷ [])) text) (joined tree more))
      × (accepts_program (both_alone layout other) [] (joined 0 1) [] ≡ true)

  self_joins_mean : (layout other : Layout) (text : List ℕ) → IsSelfJoins layout other text → (s : Schema) (at tree there more : ℕ) → HasTable s at (table_of layout tree)
      → HasTable s there (table_of other more)
      → (names : List (List ℕ)) × MeansQuery s text (joined tree more) names
  self_joins_mean layout other text is s at tree there more h k =
      let it = drafted _ (joined tree more) (is.0 tree more) in
      (it.0, select_is s (at ∷ there ∷ []) (table_of layout tree ∷ table_of other more ∷ []) (h, (k, tt)) text (joined tree more) it.0 it.1 (joined_alone layout other s at tree there more h k ∙ is.1))

-- SELECT project FROM the table LEFT JOIN another ON its key equals these columns LEFT JOIN the same ON its key equals those ORDER BY the table's key
pub rows_joined_with_one : {keys more : ℕ} {layout other : Layout} {places other_places : List ℕ} (key : IsKeyAt keys layout places) (other_key : IsKeyAt more other other_places) {db : Database}
    (was : Stands db keys layout) (with_ : Stands db more other) {text : List ℕ} {params : Row}
    (c1 c2 : List ℕ) (project : List Term) (show : Row → Option Row → Option Row → Row)
    → IsSelfJoins (join_tests other_places (places_of layout c1)) (third_tests other_places (places_of layout c2)) (by_columns places) project layout other text
    → length other_places ≡ length (places_of layout c1) → length other_places ≡ length (places_of layout c2) → AreShown layout c1 → AreShown layout c2
    → ((r : Row) → eval_all project (params ∷ r ∷ [] ∷ [] ∷ []) ≡ show (columns_of (table_of layout 0) r) None None)
    → ((r s : Row) → eval_all project (params ∷ r ∷ s ∷ [] ∷ []) ≡ show (columns_of (table_of layout 0) r) (Some (columns_of (table_of other 0) s)) None)
    → ((r t : Row) → eval_all project (params ∷ r ∷ [] ∷ t ∷ []) ≡ show (columns_of (table_of layout 0) r) None (Some (columns_of (table_of other 0) t)))
    → ((r s t : Row) → eval_all project (params ∷ r ∷ s ∷ t ∷ []) ≡ show (columns_of (table_of layout 0) r) (Some (columns_of (table_of other 0) s)) (Some (columns_of (table_of other 0) t)))
    → HasOneAnswer db text params (twice_joined show c1 more (rows_of more other.name db) c2 more (rows_of more other.name db) (rows_of keys layout.name db))
rows_joined_with_one {keys} {more} {layout} {other} {places} {other_places} key other_key {db} was with_ {text}
    {params} c1 c2 project show is many1 many2 same1 same2 shows_none shows_first shows_second shows_both =
    let it = self_joins_mean (join_tests other_places (places_of layout c1)) (third_tests other_places (places_of layout c2)) (by_columns places) project layout other text is db.schema was.at was.tree with_.at with_.tree was.has with_.has in
    two_joins_answer keys layout more other more other db was with_ with_ text params places other_places (places_of layout c1) c1 other_places
    (places_of layout c2) c2 project it.0 it.1 key.first other_key.first other_key.first many1 many2 same1 same2 show shows_none shows_first shows_second shows_both
