-- A name means the same under two schemas in which the tables stand at different places: a column's term, its heading, its affinity, and whether it is an alias or unknown.
use Rattle.std.proofs.Common.{◌≡◌, ℕ, zero, suc, ◌+◌, ◌^◌, ◌==◌, nat_lt, Bool, true, false, not, ◌&&◌, ◌||◌, cond, if◌then◌else◌, List, [], ◌∷◌, map, slice_get, Option, Some, None, Ok, Err}
use Rattle.std.proofs.Common.{option_map, option_and_then, is_some, unwrap_or, refl, sym, ap, ◌∙◌}
use Rattle.std.proofs.Common.{find as first_such}
use Rattle.std.proofs.Math.Path.{fun_ext}
use Rattle.std.proofs.lemmas.Option.{slice_get-map}
use Rattle.sqlite_sql.specs.Term.{Term, lit, col, op1, op2, case}
use Rattle.sqlite_schema.specs.declared.schema.Schema.{Schema}
use Rattle.sqlite_schema.specs.declared.schema.Table.{Table}
use Rattle.sqlite_schema.specs.Names.{column_named}
use Rattle.sqlite_resolve.specs.declared.error.CompileError.TheVariants.{NoSuchColumn, Unsupported}
use Rattle.sqlite_resolve.specs.declared.compare.Affinity.TheVariants as affinity
use Rattle.sqlite_resolve.specs.declared.scope.Bound.{Bound}
use Rattle.sqlite_resolve.specs.declared.scope.Level.{Level}
use Rattle.sqlite_resolve.specs.declared.scope.Found.{Found}
use Rattle.sqlite_resolve.specs.declared.scope.Found.TheVariants.{Column, Rowid, Alias}
use Rattle.sqlite_resolve.specs.Lowering.{Checked, and_then, or_else, ◌>>=◌, ◌>>◌, lift, fail, pure, carry}
use Rattle.sqlite_resolve.specs.Scope.{Name, Context, is_meant, is_hidden, hit, rowid_in, column_in, only, only_from, at_most_one, in_level, is_rowid, alias_of, find_from, found_or, find, term_of}
use Rattle.sqlite_resolve.specs.Scope.{column_at, column, is_free, is_missing, shown_again}
use Rattle.sqlite_resolve.specs.Body.{found_name, declared}
use Rattle.sqlite_resolve.specs.Expr.{is_alias}
use Rattle.sqlite_resolve.specs.Compare as compare
use Rattle.sqlite_resolve.specs.Compare.{of_column, affinity_of}
use Rattle.bike_sql.proofs.Relocation.{Relocates, bound_at, level_at, found_at, scope, checked_map, map_twice, map_if}

-- The two contexts read each name alike.
pub record Alike (cx cx0 : Context) : Type 0 where
  pub columns : (table : Option Name) (name : Name) → column cx table name ≡ column cx0 table name
  pub free : (name : Name) → is_free cx name ≡ is_free cx0 name
  pub aliases : (table : Option Name) (name : Name) → is_alias (find cx table name) ≡ is_alias (find cx0 table name)
  pub headings : (text : Name) (table : Option Name) (name : Name) → found_name cx.schema text (find cx table name) ≡ found_name cx0.schema text (find cx0 table name)
  pub affinities : affinity_of cx ≡ affinity_of cx0
  pub aggregates : cx.may_aggregate ≡ cx0.may_aggregate

module _ {s s0 : Schema} {f : ℕ → ℕ} (r : Relocates s s0 f) where
  -- ---- a name in one table

  pub column_in_over : (name : Name) (b : Bound) → column_in s name (bound_at f b) ≡ option_map (found_at f) (column_in s0 name b)
  unfolding column_in
  column_in_over name b = let there = r.tables b.table in rw (there, map_twice (found_at f) (Column b.slot b.table) (option_and_then (λ t. column_named t name) (slice_get s0.tables b.table))) refl

  stored_over : (b : Bound) (o : Option Table)
      → option_and_then (λ t. if nat_lt t.tree (2 ^ 31) then Some (Rowid b.slot (f b.table)) else None) o
      ≡ option_map (found_at f) (option_and_then (λ t. if nat_lt t.tree (2 ^ 31) then Some (Rowid b.slot b.table) else None) o)
  stored_over b None = refl
  stored_over b (Some t) = let e = map_if (found_at f) (nat_lt t.tree (2 ^ 31)) (Some (Rowid b.slot b.table)) None in sym e

  rowid_in_over : (b : Bound) → rowid_in s (bound_at f b) ≡ option_map (found_at f) (rowid_in s0 b)
  unfolding rowid_in
  rowid_in_over b = ap (option_and_then (λ t. if nat_lt t.tree (2 ^ 31) then Some (Rowid b.slot (f b.table)) else None)) (r.tables b.table) ∙ stored_over b (slice_get s0.tables b.table)

  hit_by : (meant by_rowid : Bool) (name : Name) (b : Bound)
      → (if meant then (if by_rowid then rowid_in s (bound_at f b) else column_in s name (bound_at f b)) else None)
      ≡ option_map (found_at f) (if meant then (if by_rowid then rowid_in s0 b else column_in s0 name b) else None)
  hit_by false by_rowid name b = refl
  hit_by true true name b = rowid_in_over b
  hit_by true false name b = column_in_over name b

  hit_over : (table : Option Name) (name : Name) (by_rowid : Bool) (b : Bound) → hit s table name by_rowid (bound_at f b) ≡ option_map (found_at f) (hit s0 table name by_rowid b)
  unfolding hit
  hit_over None name by_rowid b = hit_by (is_meant None b && not (is_hidden None name b)) by_rowid name b
  hit_over (Some t) name by_rowid b = hit_by (is_meant (Some t) b && not (is_hidden (Some t) name b)) by_rowid name b

  -- ---- a name in one level of FROM

  abbrev over : Checked (Option Found) → Checked (Option Found)
  over = checked_map (option_map (found_at f))

  one_over : (a b : Option Found) → at_most_one (option_map (found_at f) a) (option_map (found_at f) b) ≡ over (at_most_one a b)
  one_over None None = refl
  one_over None (Some x) = refl
  one_over (Some x) None = refl
  one_over (Some x) (Some y) = refl

  only_from_over : (table : Option Name) (name : Name) (by_rowid : Bool) (found : Option Found) (bs : List Bound)
      → only_from (hit s table name by_rowid) (option_map (found_at f) found) (map (bound_at f) bs) ≡ over (only_from (hit s0 table name by_rowid) found bs)
  only_from_over table name by_rowid found [] = refl
  only_from_over table name by_rowid found (b ∷ bs) =
      rw (hit_over table name by_rowid b, one_over found (hit s0 table name by_rowid b)) (go (at_most_one found (hit s0 table name by_rowid b)) (λ x. only_from_over table name by_rowid x bs))
    where
      go : (o : Checked (Option Found)) → ((x : Option Found) → only_from (hit s table name by_rowid) (option_map (found_at f) x) (map (bound_at f) bs)
          ≡ over (only_from (hit s0 table name by_rowid) x bs))
          → and_then (over o) (λ x. only_from (hit s table name by_rowid) x (map (bound_at f) bs)) ≡ over (and_then o (λ x. only_from (hit s0 table name by_rowid) x bs))
      go (Ok x) later = later x
      go (Err e) later = refl

  only_over : (table : Option Name) (name : Name) (by_rowid : Bool) (bs : List Bound) → only s table name by_rowid (map (bound_at f) bs) ≡ over (only s0 table name by_rowid bs)
  unfolding only
  only_over table name by_rowid bs = only_from_over table name by_rowid None bs

  -- a column, or else the rowid, or else an alias
  choice_over : (depth : ℕ) (columns rowids : Checked (Option Found)) (is_rowid has_table : Bool) (alias : Option ℕ)
      → and_then (over columns) (λ x. if is_some x then Ok x else and_then (if is_rowid then over rowids else Ok None)
      (λ y. if is_some y || has_table then Ok y else Ok (option_map (Alias depth) alias)))
      ≡ over (and_then columns (λ x. if is_some x then Ok x else and_then (if is_rowid then rowids else Ok None) (λ y. if is_some y || has_table then Ok y else Ok (option_map (Alias depth) alias))))
  choice_over depth (Err e) rowids is_rowid has_table alias = refl
  choice_over depth (Ok (Some x)) rowids is_rowid has_table alias = refl
  choice_over depth (Ok None) (Err e) true has_table alias = refl
  choice_over depth (Ok None) (Ok (Some x)) true has_table alias = refl
  choice_over depth (Ok None) (Ok None) true true alias = refl
  choice_over depth (Ok None) (Ok None) true false None = refl
  choice_over depth (Ok None) (Ok None) true false (Some k) = refl
  choice_over depth (Ok None) rowids false true alias = refl
  choice_over depth (Ok None) rowids false false None = refl
  choice_over depth (Ok None) rowids false false (Some k) = refl

  in_level_over : (table : Option Name) (name : Name) (depth : ℕ) (l : Level) → in_level s table name depth (level_at f l) ≡ over (in_level s0 table name depth l)
  unfolding in_level
  in_level_over table name depth l =
      rw (only_over table name false l.tables, only_over table name true l.tables)
      (choice_over depth (only s0 table name false l.tables) (only s0 table name true l.tables) (is_rowid name) (is_some table) (alias_of name l.shown))

  -- ---- a name in all of them

  find_from_over : (table : Option Name) (name : Name) (depth : ℕ) (ls : List Level) → find_from s table name depth (map (level_at f) ls) ≡ checked_map (found_at f) (find_from s0 table name depth ls)
  find_from_over table name depth [] = refl
  find_from_over table name depth (l ∷ ls) = rw (in_level_over table name depth l, find_from_over table name (depth + 1) ls) (go (in_level s0 table name depth l))
    where
      go : (o : Checked (Option Found)) → and_then (over o) (found_or (checked_map (found_at f) (find_from s0 table name (depth + 1) ls)))
          ≡ checked_map (found_at f) (and_then o (found_or (find_from s0 table name (depth + 1) ls)))
      go (Ok None) = refl
      go (Ok (Some x)) = refl
      go (Err e) = refl

  find_over : (table : Option Name) (name : Name) (ls : List Level) (a b : Bool) → find (scope s (map (level_at f) ls) a b) table name ≡ checked_map (found_at f) (find (scope s0 ls a b) table name)
  unfolding find
  find_over table name ls a b = find_from_over table name 0 ls

  -- ---- what the name stands for

  column_at_same : (slot table at : ℕ) → column_at s slot (f table) at ≡ column_at s0 slot table at
  unfolding column_at
  column_at_same slot table at = rw (r.tables table)

  alias_same : (a b : Bool) (depth at : ℕ) (o : Option Level)
      → (if not b then fail {A = Term} Unsupported else lift (or_else (option_map (level_at f) o) NoSuchColumn) >>= (λ l. shown_again (a && depth == 0) l.shown at))
      ≡ (if not b then fail {A = Term} Unsupported else lift (or_else o NoSuchColumn) >>= (λ l. shown_again (a && depth == 0) l.shown at))
  alias_same a b depth at None = refl
  alias_same a b depth at (Some l) = refl

  pub term_same : (ls : List Level) (a b : Bool) (x : Found) → term_of (scope s (map (level_at f) ls) a b) (found_at f x) ≡ term_of (scope s0 ls a b) x
  unfolding term_of
  term_same ls a b (Column slot table at) = ap (λ found. lift found >>= (λ t. carry t.1 >> pure t.0)) (column_at_same slot table at)
  term_same ls a b (Rowid slot table) = refl
  term_same ls a b (Alias depth at) =
      ap (λ o. if not b then fail {A = Term} Unsupported else lift (or_else o NoSuchColumn) >>= (λ l. shown_again (a && depth == 0) l.shown at)) (slice_get-map (level_at f) ls depth)
      ∙ alias_same a b depth at (slice_get ls depth)

  column_same : (ls : List Level) (a b : Bool) (table : Option Name) (name : Name) → column (scope s (map (level_at f) ls) a b) table name ≡ column (scope s0 ls a b) table name
  unfolding column
  column_same ls a b table name = ap (λ found. lift found >>= term_of (scope s (map (level_at f) ls) a b)) (find_over table name ls a b) ∙ go (find (scope s0 ls a b) table name)
    where
      go : (o : Checked Found) → (lift (checked_map (found_at f) o) >>= term_of (scope s (map (level_at f) ls) a b)) ≡ (lift o >>= term_of (scope s0 ls a b))
      go (Ok x) = term_same ls a b x
      go (Err e) = refl

  free_same : (ls : List Level) (a b : Bool) (name : Name) → is_free (scope s (map (level_at f) ls) a b) name ≡ is_free (scope s0 ls a b) name
  unfolding is_free
  free_same ls a b name = ap is_missing (find_over None name ls a b) ∙ go (find (scope s0 ls a b) None name)
    where
      go : (o : Checked Found) → is_missing (checked_map (found_at f) o) ≡ is_missing o
      go (Ok x) = refl
      go (Err NoSuchColumn) = refl
      go (Err e) = refl

  aliases_same : (ls : List Level) (a b : Bool) (table : Option Name) (name : Name) → is_alias (find (scope s (map (level_at f) ls) a b) table name) ≡ is_alias (find (scope s0 ls a b) table name)
  aliases_same ls a b table name = ap is_alias (find_over table name ls a b) ∙ go (find (scope s0 ls a b) table name)
    where
      go : (o : Checked Found) → is_alias (checked_map (found_at f) o) ≡ is_alias o
      go (Ok (Column slot t at)) = refl
      go (Ok (Rowid slot t)) = refl
      go (Ok (Alias depth at)) = refl
      go (Err e) = refl

  headings_same : (ls : List Level) (a b : Bool) (text : Name) (table : Option Name) (name : Name)
      → found_name s text (find (scope s (map (level_at f) ls) a b) table name) ≡ found_name s0 text (find (scope s0 ls a b) table name)
  unfolding declared
  headings_same ls a b text table name = ap (found_name s text) (find_over table name ls a b) ∙ go (find (scope s0 ls a b) table name)
    where
      go : (o : Checked Found) → found_name s text (checked_map (found_at f) o) ≡ found_name s0 text o
      go (Ok (Column slot t at)) = rw (r.tables t)
      go (Ok (Rowid slot t)) = rw (r.tables t)
      go (Ok (Alias depth at)) = refl
      go (Err e) = refl

  -- ---- the affinity of a term

  slot_over : (slot : ℕ) (bs : List Bound) → option_map (λ b. b.table) (first_such (λ b. b.slot == slot) (map (bound_at f) bs))
      ≡ option_map f (option_map (λ b. b.table) (first_such (λ b. b.slot == slot) bs))
  slot_over slot [] = refl
  slot_over slot (b ∷ bs) =
      elim (b.slot == slot) as (λ c. option_map (λ b. b.table) (cond c (Some (bound_at f b)) (first_such (λ b. b.slot == slot) (map (bound_at f) bs)))
      ≡ option_map f (option_map (λ b. b.table) (cond c (Some b) (first_such (λ b. b.slot == slot) bs))))
      [ true ↦ refl | false ↦ slot_over slot bs ]

  or_over : (a b : Option ℕ) → compare.or_else (option_map f a) (option_map f b) ≡ option_map f (compare.or_else a b)
  or_over (Some x) b = refl
  or_over None b = refl

  table_in_over : (slot : ℕ) (ls : List Level) → compare.table_in slot (map (level_at f) ls) ≡ option_map f (compare.table_in slot ls)
  table_in_over slot [] = refl
  table_in_over slot (l ∷ ls) = rw (slot_over slot l.tables, table_in_over slot ls) (or_over (option_map (λ b. b.table) (first_such (λ b. b.slot == slot) l.tables)) (compare.table_in slot ls))

  place_same : (table at : ℕ) → compare.at_place s (f table) at ≡ compare.at_place s0 table at
  place_same table zero = refl
  place_same table (suc at) = rw (r.tables table)

  of_column_same : (ls : List Level) (a b : Bool) (slot at : ℕ) → of_column (scope s (map (level_at f) ls) a b) slot at ≡ of_column (scope s0 ls a b) slot at
  unfolding of_column
  of_column_same ls a b slot at =
      ap (λ o. if slot == 0 && at == 0 then affinity.None else unwrap_or (option_map (λ table. compare.at_place s table at) o) affinity.None) (table_in_over slot ls)
      ∙ ap (λ y. if slot == 0 && at == 0 then affinity.None else unwrap_or y affinity.None) (go (compare.table_in slot ls))
    where
      go : (o : Option ℕ) → option_map (λ table. compare.at_place s table at) (option_map f o) ≡ option_map (λ table. compare.at_place s0 table at) o
      go None = refl
      go (Some t) = ap Some (place_same t at)

  affinity_same : (ls : List Level) (a b : Bool) (t : Term) → affinity_of (scope s (map (level_at f) ls) a b) t ≡ affinity_of (scope s0 ls a b) t
  unfolding affinity_of
  affinity_same ls a b (lit v) = refl
  affinity_same ls a b (col slot at) = of_column_same ls a b slot at
  affinity_same ls a b (op1 op x) = refl
  affinity_same ls a b (op2 op x y) = refl
  affinity_same ls a b (case t x y) = refl

  pub alike : (ls : List Level) (a b : Bool) → Alike (scope s (map (level_at f) ls) a b) (scope s0 ls a b)
  alike ls a b = record {
    columns = column_same ls a b;
    free = free_same ls a b;
    aliases = aliases_same ls a b;
    headings = headings_same ls a b;
    affinities = fun_ext (affinity_same ls a b);
    aggregates = refl;
  }
