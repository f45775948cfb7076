-- Statements that change the example tables, in any schema that has these, and those that make them.
use Rattle.std.proofs.Common.{ℕ, List, [], ◌∷◌, codes, refl, true, false}
use Rattle.sqlite_value.specs.declared.value.Value.TheVariants.{Null}
use Rattle.sqlite_value.specs.Keys.{plain}
use Rattle.sqlite_sql.specs.Term.{lit, col}
use Rattle.sqlite_sql.specs.Query.{Query}
use Rattle.sqlite_schema.specs.declared.schema.Schema.{Schema}
use Rattle.sqlite_schema.specs.declared.schema.Index.{Index}
use Rattle.sqlite_schema.specs.declared.command.Command.TheVariants.{Update, Delete, Insert, CreateTable, CreateIndex}
use Rattle.sqlite_schema.specs.declared.command.Source.{Source}
use Rattle.sqlite_schema.specs.declared.command.Source.TheVariants.{Values}
use Rattle.sqlite_resolve.specs.Compile.{first}
use Rattle.sqlite_tied.specs.Compute.{everything}
use Rattle.bike_sql.specs.Has.{HasTable, of_tables}
use Rattle.bike_sql.specs.Changes.{change_of, IsChange}
use Rattle.bike_sql.specs.Inserts.{IsInsert}
use Rattle.bike_sql.specs.Makes.{IsFree, IsCreate, IsIndex}
use Rattle.bike_sql.specs.Laws.{Means}
use Rattle.bike_sql.specs.Scans.{scan, no_limit, equals}
use Rattle.bike_sql.proofs.ChangeLaws.{change_is}
use Rattle.bike_sql.proofs.InsertLaws.{insert_is}
use Rattle.bike_sql.proofs.MakeLaws.{create_is, index_is}
use Rattle.bike_sql.proofs.ExampleTables.{members, lockers}

module _ (s : Schema) (at tree : ℕ) (h : HasTable s at (members tree)) where
  -- ---- INSERT

  abbrev insert_text : List ℕ
  insert_text = codes "INSERT INTO members VALUES (?1, ?2)"

  abbrev insert_rows : Source
  insert_rows = Values (col 0 0 ∷ lit Null ∷ col 0 1 ∷ []) 3

  insert_reads : IsInsert s (members tree) (first insert_text) insert_rows
  unfolding everything
  insert_reads = (refl, refl, refl, λ base. refl)

  pub insert : Means s insert_text (Insert at insert_rows)
  insert = insert_is s at (members tree) h insert_text insert_rows insert_reads

  -- ---- UPDATE

  abbrev update_text : List ℕ
  update_text = codes "UPDATE members SET credit = ?2 WHERE member = ?1"

  abbrev update_query : Query
  update_query = scan tree (equals 0 0 ∷ []) [] (col 1 0 ∷ col 1 0 ∷ lit Null ∷ col 0 1 ∷ []) no_limit

  update_change : IsChange (change_of (of_tables (members tree ∷ [])) update_text) 0 update_query true
  unfolding everything
  update_change = (refl, refl, refl)

  pub update : Means s update_text (Update at (record { lets = []; body = update_query }))
  update = change_is s (at ∷ []) (members tree ∷ []) (h, tt) update_text 0 update_query true update_change (rw (h.stored, h.by_tree))

module _ (s : Schema) (at tree : ℕ) (h : HasTable s at (lockers tree)) where
  -- ---- by a composite key

  abbrev release_text : List ℕ
  release_text = codes "UPDATE lockers SET member = NULL WHERE site = ?1 AND label = ?2"

  abbrev release_query : Query
  release_query = scan tree (equals 1 0 ∷ equals 2 1 ∷ []) [] (col 1 0 ∷ col 1 0 ∷ col 1 1 ∷ col 1 2 ∷ lit Null ∷ []) no_limit

  release_change : IsChange (change_of (of_tables (lockers tree ∷ [])) release_text) 0 release_query true
  unfolding everything
  release_change = (refl, refl, refl)

  pub release : Means s release_text (Update at (record { lets = []; body = release_query }))
  release = change_is s (at ∷ []) (lockers tree ∷ []) (h, tt) release_text 0 release_query true release_change (rw (h.stored, h.by_tree))

  -- ---- DELETE

  abbrev delete_text : List ℕ
  delete_text = codes "DELETE FROM lockers WHERE site = ?1 AND label = ?2"

  abbrev delete_query : Query
  delete_query = scan tree (equals 1 0 ∷ equals 2 1 ∷ []) [] (col 1 0 ∷ []) no_limit

  delete_change : IsChange (change_of (of_tables (lockers tree ∷ [])) delete_text) 0 delete_query false
  unfolding everything
  delete_change = (refl, refl, refl)

  pub delete : Means s delete_text (Delete at (record { lets = []; body = delete_query }))
  delete = change_is s (at ∷ []) (lockers tree ∷ []) (h, tt) delete_text 0 delete_query false delete_change (rw (h.stored, h.by_tree))

  -- ---- CREATE INDEX

  abbrev index_text : List ℕ
  index_text = codes "CREATE INDEX lockers_by_member ON lockers (member)"

  abbrev index_made : Index
  index_made = record { name = codes "lockers_by_member"; tree = 0; table = tree; columns = 3 ∷ []; order = plain; is_unique = false }

  index_reads : IsIndex (first index_text) (lockers tree) (codes "lockers_by_member") index_made
  unfolding everything
  index_reads = (refl, refl, refl, refl, refl, refl)

  pub index : IsFree s (codes "lockers_by_member") → Means s index_text (CreateIndex at)
  index free = index_is s at (lockers tree) h index_text (codes "lockers_by_member") index_made free index_reads

-- ---- CREATE TABLE

abbrev create_members : List ℕ
create_members = codes "CREATE TABLE members (member INTEGER PRIMARY KEY, credit INTEGER NOT NULL) STRICT"

abbrev create_lockers : List ℕ
create_lockers = codes "CREATE TABLE lockers (site TEXT NOT NULL, label TEXT NOT NULL, member INTEGER, PRIMARY KEY (site, label)) STRICT"

members_made : IsCreate (first create_members) (codes "members") (members 0)
unfolding everything
members_made = (refl, refl, refl, refl)

lockers_made : IsCreate (first create_lockers) (codes "lockers") (lockers 0)
unfolding everything
lockers_made = (refl, refl, refl, refl)

pub makes_members : (s : Schema) → IsFree s (codes "members") → Means s create_members CreateTable
makes_members s free = create_is s create_members (codes "members") (members 0) free members_made

pub makes_lockers : (s : Schema) → IsFree s (codes "lockers") → Means s create_lockers CreateTable
makes_lockers s free = create_is s create_lockers (codes "lockers") (lockers 0) free lockers_made
