-- Queries over the example tables, in any schema that has these, at any places and with any trees.
use Rattle.std.proofs.Common.{ℕ, List, [], ◌∷◌, codes, pos, Some, None, refl, false}
use Rattle.sqlite_value.specs.declared.value.Value.TheVariants.{Null, Int}
use Rattle.sqlite_value.specs.declared.keys.Collation.TheVariants.{Binary}
use Rattle.sqlite_sql.specs.Term.{Term, lit, col, op1, op2}
use Rattle.sqlite_sql.specs.Query.{Query, inner, left, counted, end}
use Rattle.sqlite_sql.specs.declared.ops.UnaryOp.TheVariants.{Not}
use Rattle.sqlite_sql.specs.declared.aggregate.AggregateOp.TheVariants.{CountRows, Max}
use Rattle.sqlite_sql.specs.declared.ops.BinaryOp.TheVariants.{Compare}
use Rattle.sqlite_sql.specs.declared.ops.CompareOp.TheVariants.{Eq, Ge, Lt}
use Rattle.sqlite_schema.specs.declared.schema.Schema.{Schema}
use Rattle.sqlite_schema.specs.declared.command.Command.TheVariants.{Select}
use Rattle.sqlite_resolve.specs.Scope.{Name}
use Rattle.sqlite_tied.specs.Compute.{everything}
use Rattle.bike_sql.specs.Has.{HasTable, of_tables}
use Rattle.bike_sql.specs.Reads.{draft_of, IsDraft}
use Rattle.bike_sql.specs.Laws.{Reads}
use Rattle.bike_sql.specs.Scans.{scan, no_limit, test, equals, ascending, descending}
use Rattle.bike_sql.proofs.ReadLaws.{select_is}
use Rattle.bike_sql.proofs.ExampleTables.{members, lockers}

abbrev member_names : List Name
member_names = codes "member" ∷ codes "credit" ∷ []

abbrev member_row : List Term
member_row = col 1 0 ∷ col 1 2 ∷ []

module _ (s : Schema) (at tree : ℕ) (h : HasTable s at (members tree)) where
  -- ---- by key

  abbrev point_text : List ℕ
  point_text = codes "SELECT * FROM members WHERE member = ?1"

  abbrev point_query : Query
  point_query = scan tree (equals 0 0 ∷ []) [] member_row no_limit

  point_draft : IsDraft (draft_of (of_tables (members tree ∷ [])) point_text) point_query member_names
  unfolding everything
  point_draft = (refl, refl)

  pub point : Reads s point_text (Select (record { lets = []; body = point_query }) member_names)
  point = select_is s (at ∷ []) (members tree ∷ []) (h, tt) point_text point_query member_names point_draft (rw (h.stored, h.by_tree))

  -- ---- in order

  abbrev walk_text : List ℕ
  walk_text = codes "SELECT * FROM members ORDER BY member"

  abbrev walk_query : Query
  walk_query = scan tree [] (ascending 0 ∷ []) member_row no_limit

  walk_draft : IsDraft (draft_of (of_tables (members tree ∷ [])) walk_text) walk_query member_names
  unfolding everything
  walk_draft = (refl, refl)

  pub walk : Reads s walk_text (Select (record { lets = []; body = walk_query }) member_names)
  walk = select_is s (at ∷ []) (members tree ∷ []) (h, tt) walk_text walk_query member_names walk_draft (rw (h.stored, h.by_tree))

  -- ---- a range

  abbrev range_text : List ℕ
  range_text = codes "SELECT * FROM members WHERE member >= ?1 AND member < ?2 ORDER BY member"

  abbrev range_query : Query
  range_query = scan tree (test Ge 0 0 ∷ test Lt 0 1 ∷ []) (ascending 0 ∷ []) member_row no_limit

  range_draft : IsDraft (draft_of (of_tables (members tree ∷ [])) range_text) range_query member_names
  unfolding everything
  range_draft = (refl, refl)

  pub range : Reads s range_text (Select (record { lets = []; body = range_query }) member_names)
  range = select_is s (at ∷ []) (members tree ∷ []) (h, tt) range_text range_query member_names range_draft (rw (h.stored, h.by_tree))

  -- ---- the last row

  abbrev last_text : List ℕ
  last_text = codes "SELECT * FROM members ORDER BY member DESC LIMIT 1"

  abbrev last_query : Query
  last_query = scan tree [] (descending 0 ∷ []) member_row (lit (Int (pos 1)))

  last_draft : IsDraft (draft_of (of_tables (members tree ∷ [])) last_text) last_query member_names
  unfolding everything
  last_draft = (refl, refl)

  pub last : Reads s last_text (Select (record { lets = []; body = last_query }) member_names)
  last = select_is s (at ∷ []) (members tree ∷ []) (h, tt) last_text last_query member_names last_draft (rw (h.stored, h.by_tree))

-- ---- over the second table, and over both

module _ (s : Schema) (at tree : ℕ) (h : HasTable s at (lockers tree)) where
  -- by a composite key
  abbrev pair_text : List ℕ
  pair_text = codes "SELECT * FROM lockers WHERE site = ?1 AND label = ?2"

  abbrev pair_query : Query
  pair_query = scan tree (equals 1 0 ∷ equals 2 1 ∷ []) [] (col 1 1 ∷ col 1 2 ∷ col 1 3 ∷ []) no_limit

  pair_draft : IsDraft (draft_of (of_tables (lockers tree ∷ [])) pair_text) pair_query (codes "site" ∷ codes "label" ∷ codes "member" ∷ [])
  unfolding everything
  pair_draft = (refl, refl)

  pub pair : Reads s pair_text (Select (record { lets = []; body = pair_query }) (codes "site" ∷ codes "label" ∷ codes "member" ∷ []))
  pair = select_is s (at ∷ []) (lockers tree ∷ []) (h, tt) pair_text pair_query (codes "site" ∷ codes "label" ∷ codes "member" ∷ []) pair_draft (rw (h.stored, h.by_tree))

  -- how many rows pass
  abbrev count_text : List ℕ
  count_text = codes "SELECT count(*) FROM lockers WHERE member = ?1"

  abbrev count_query : Query
  count_query = record {
    from = inner tree end;
    filter = equals 3 0 ∷ [];
    group = Some (record { keys = []; collations = []; aggregates = record { op = CountRows; distinct = false; collation = Binary; argument = lit Null } ∷ []; having = [] });
    project = col 1 0 ∷ [];
    distinct = false;
    collations = [];
    order = [];
    limit = no_limit;
    offset = lit (Int (pos 0));
  }

  count_draft : IsDraft (draft_of (of_tables (lockers tree ∷ [])) count_text) count_query (codes "count(*)" ∷ [])
  unfolding everything
  count_draft = (refl, refl)

  pub count : Reads s count_text (Select (record { lets = []; body = count_query }) (codes "count(*)" ∷ []))
  count = select_is s (at ∷ []) (lockers tree ∷ []) (h, tt) count_text count_query (codes "count(*)" ∷ []) count_draft (rw (h.stored, h.by_tree))

  -- the rows of each site, counted, and the greatest label there
  abbrev sites_text : List ℕ
  sites_text = codes "SELECT site, count(*), max(label) FROM lockers GROUP BY site ORDER BY site"

  abbrev sites_query : Query
  sites_query = record {
    from = inner tree end;
    filter = [];
    group = Some (record {
      keys = col 1 1 ∷ [];
      collations = Binary ∷ [];
      aggregates = record { op = CountRows; distinct = false; collation = Binary; argument = lit Null } ∷ record { op = Max; distinct = false; collation = Binary; argument = col 1 2 } ∷ [];
      having = [];
    });
    project = col 1 0 ∷ col 1 1 ∷ col 1 2 ∷ [];
    distinct = false;
    collations = [];
    order = ascending 0 ∷ [];
    limit = no_limit;
    offset = lit (Int (pos 0));
  }

  sites_draft : IsDraft (draft_of (of_tables (lockers tree ∷ [])) sites_text) sites_query (codes "site" ∷ codes "count(*)" ∷ codes "max(label)" ∷ [])
  unfolding everything
  sites_draft = (refl, refl)

  pub sites : Reads s sites_text (Select (record { lets = []; body = sites_query }) (codes "site" ∷ codes "count(*)" ∷ codes "max(label)" ∷ []))
  sites = select_is s (at ∷ []) (lockers tree ∷ []) (h, tt) sites_text sites_query (codes "site" ∷ codes "count(*)" ∷ codes "max(label)" ∷ []) sites_draft (rw (h.stored, h.by_tree))

module _ (s : Schema) (at tree bt tree2 : ℕ) (h : HasTable s at (lockers tree)) (k : HasTable s bt (members tree2)) where
  -- each locker with its member's credit, or NULL
  abbrev join_text : List ℕ
  join_text = codes "SELECT lockers.site, lockers.label, members.credit FROM lockers LEFT JOIN members ON members.member = lockers.member ORDER BY lockers.site, lockers.label"

  abbrev join_query : Query
  join_query = record {
    from = inner tree (left tree2 (op2 (Compare Eq Binary) (col 2 0) (col 1 3) ∷ []) end);
    filter = [];
    group = None;
    project = col 1 1 ∷ col 1 2 ∷ col 2 2 ∷ [];
    distinct = false;
    collations = [];
    order = ascending 1 ∷ ascending 2 ∷ [];
    limit = no_limit;
    offset = lit (Int (pos 0));
  }

  join_draft : IsDraft (draft_of (of_tables (lockers tree ∷ members tree2 ∷ [])) join_text) join_query (codes "site" ∷ codes "label" ∷ codes "credit" ∷ [])
  unfolding everything
  join_draft = (refl, refl)

  pub join : Reads s join_text (Select (record { lets = []; body = join_query }) (codes "site" ∷ codes "label" ∷ codes "credit" ∷ []))
  join =
      select_is s (at ∷ bt ∷ []) (lockers tree ∷ members tree2 ∷ []) (h, (k, tt)) join_text join_query (codes "site" ∷ codes "label" ∷ codes "credit" ∷ []) join_draft
      (rw (h.stored, h.by_tree, k.stored, k.by_tree))

  -- the members with no locker
  abbrev absent_text : List ℕ
  absent_text = codes "SELECT member FROM members WHERE NOT EXISTS (SELECT 1 FROM lockers WHERE lockers.member = members.member) ORDER BY member"

  abbrev absent_query : Query
  absent_query = record {
    from = inner tree2 (counted 1 (inner tree end) (op2 (Compare Eq Binary) (col 2 3) (col 1 0) ∷ []) end);
    filter = op1 Not (col 2 0) ∷ [];
    group = None;
    project = col 1 0 ∷ [];
    distinct = false;
    collations = [];
    order = ascending 0 ∷ [];
    limit = no_limit;
    offset = lit (Int (pos 0));
  }

  absent_draft : IsDraft (draft_of (of_tables (lockers tree ∷ members tree2 ∷ [])) absent_text) absent_query (codes "member" ∷ [])
  unfolding everything
  absent_draft = (refl, refl)

  pub absent : Reads s absent_text (Select (record { lets = []; body = absent_query }) (codes "member" ∷ []))
  absent = select_is s (at ∷ bt ∷ []) (lockers tree ∷ members tree2 ∷ []) (h, (k, tt)) absent_text absent_query (codes "member" ∷ []) absent_draft (rw (h.stored, h.by_tree, k.stored, k.by_tree))
