-- What the text of an UPDATE or a DELETE means in any schema that has its tables.
use Rattle.std.proofs.Common.{◌≡◌, ℕ, Bool, true, false, ◌&&◌, if◌then◌else◌, List, [], ◌∷◌, ◌++◌, map, slice_get, Option, Some, None, is_some, option_map, Ok, Err, refl, ap, ap₂, ◌∙◌}
use Rattle.std.proofs.Math.Path.{fun_ext}
use Rattle.sqlite_ast.specs.declared.Expr.{Expr}
use Rattle.sqlite_ast.specs.declared.Shown.{Shown}
use Rattle.sqlite_ast.specs.declared.Statement.{Statement}
use Rattle.sqlite_ast.specs.declared.Statement.TheVariants as written
use Rattle.sqlite_syntax.specs.declared.statement.Parsed.{Parsed}
use Rattle.sqlite_sql.specs.Term.{Term}
use Rattle.sqlite_sql.specs.Query.{Query}
use Rattle.sqlite_schema.specs.declared.schema.Schema.{Schema}
use Rattle.sqlite_schema.specs.declared.schema.Table.{Table}
use Rattle.sqlite_schema.specs.declared.command.Command.{Command}
use Rattle.sqlite_schema.specs.Names.{table_named}
use Rattle.sqlite_draft.specs.declared.query.Draft.{Draft}
use Rattle.sqlite_draft.specs.Query.{query_of}
use Rattle.sqlite_typing.specs.Types.{accepts_program}
use Rattle.sqlite_resolve.specs.declared.error.CompileError.TheVariants.{Misuse, NoSuchTable}
use Rattle.sqlite_resolve.specs.declared.scope.Level.{Level}
use Rattle.sqlite_resolve.specs.Scope.{Name}
use Rattle.sqlite_resolve.specs.Lowering.{Checked, and_then, or_else}
use Rattle.sqlite_resolve.specs.Expr.{lower}
use Rattle.sqlite_resolve.specs.Body.{table_at}
use Rattle.sqlite_resolve.specs.Program.{program}
use Rattle.sqlite_resolve.specs.Write.{sets_from, sets, assigned, picked, updated_in, updated, deleted, level_of, with_place}
use Rattle.sqlite_resolve.specs.Compile.{first, planned, meaning, returning, shows, command, timed, compiled, update, delete}
use Rattle.sqlite.specs.Listing.{understood}
use Rattle.bike_sql.specs.Fragment.{is_nil, covers, covers_option, covers_sets}
use Rattle.bike_sql.specs.Changes.{change_on, change_at, IsChange, changes}
use Rattle.bike_sql.specs.Laws.{Means, ChangeLaw}
use Rattle.bike_sql.proofs.Relocation.{Relocates, level_at, scope, both}
use Rattle.bike_sql.proofs.CoverLemmas.{both3, both4}
use Rattle.bike_sql.proofs.ClauseLemmas.{tests_same}
use Rattle.bike_sql.proofs.CoreLemmas.{lower_same}
use Rattle.bike_sql.proofs.PlaceLemmas.{relocates}
use Rattle.bike_sql.proofs.QueryLemmas.{none_of}

-- ---- the new rows are the same

module _ {s s0 : Schema} {f : ℕ → ℕ} (r : Relocates s s0 f) where
  sets_from_same : (ls : List Level) (table : Table) (done : List ℕ × List Term) (xs : List (Name × Expr)) → covers_sets s0 xs ≡ true
      → sets_from (scope s (map (level_at f) ls) false true) table done xs ≡ sets_from (scope s0 ls false true) table done xs
  sets_from_same ls table done [] k = refl
  sets_from_same ls table done (x ∷ more) k =
      let p = both (covers s0 x.1) (covers_sets s0 more) k in
      let later : (λ d. sets_from (scope s (map (level_at f) ls) false true) table d more) ≡ (λ d. sets_from (scope s0 ls false true) table d more) = fun_ext (λ d. sets_from_same ls table d more p.1) in
      ap₂ (λ value next. λ st. and_then (with_place table done.0 x.0) (λ at. and_then (value st) (λ v. next (at, done.1 ++ v.0 ∷ []) v.1))) (lower_same r x.1 p.0 ls false true) later

  updated_same : (at : ℕ) (table : Table) (xs : List (Name × Expr)) (test : Option Expr) → covers_sets s0 xs ≡ true → covers_option (covers s0) test ≡ true
      → updated s (f at) table xs test ≡ updated s0 at table xs test
  unfolding updated updated_in assigned sets picked
  updated_same at table xs test k1 k2 =
      let l = level_of at table.name in
      let new = sets_from_same (l ∷ []) table ([], []) xs k1 in
      let kept = tests_same r lower (covers s0) (lower_same r) (l ∷ []) false true [] test k2 in
      rw (new, kept)

  deleted_same : (at : ℕ) (table : Table) (test : Option Expr) → covers_option (covers s0) test ≡ true → deleted s (f at) table test ≡ deleted s0 at table test
  unfolding deleted picked
  deleted_same at table test k = let kept = tests_same r lower (covers s0) (lower_same r) (level_of at table.name ∷ []) false true [] test k in rw kept

  -- ---- and so is the command

  command_is : (text : List ℕ) (c : Command) (p : Parsed) → compiled s text ≡ Ok (record { command = c; returning = None; names = p.names; formats = []; start = p.start; end = p.end; tail = p.tail })
      → Means s text c
  unfolding understood
  command_is text c p is = (rw is, rw is (refl, refl))

  name_is : (name : Name) (k : ℕ) → table_named s0 name ≡ Some k → table_named s name ≡ Some (f k)
  name_is name k is = r.names name (ap is_some is) ∙ ap (option_map f) is

  update_is : (text : List ℕ) (p : Parsed) (name : Name) (xs : List (Name × Expr)) (test : Option Expr) (k : ℕ) (table : Table) (d : Draft)
      → first text ≡ Ok p → p.formats ≡ [] → p.statement ≡ written.Update name xs test [] → covers_sets s0 xs ≡ true → covers_option (covers s0) test ≡ true
      → table_named s0 name ≡ Some k → slice_get s0.tables k ≡ Some table → updated s0 k table xs test ≡ Ok d → accepts_program s [] (query_of d) [] ≡ true
      → compiled s text ≡ Ok (record { command = changes true (f k) (query_of d); returning = None; names = p.names; formats = []; start = p.start; end = p.end; tail = p.tail })
  unfolding compiled planned meaning returning shows command timed update program
  update_is text p name xs test k table d parsed formats statement k1 k2 found there is typed =
      let n = name_is name k found in
      let t : slice_get s.tables (f k) ≡ Some table = r.tables k ∙ there in
      let u : updated s (f k) table xs test ≡ Ok d = updated_same k table xs test k1 k2 ∙ is in
      rw (parsed, statement, formats, n, t, u, typed)

  delete_is : (text : List ℕ) (p : Parsed) (name : Name) (test : Option Expr) (k : ℕ) (table : Table) (d : Draft)
      → first text ≡ Ok p → p.formats ≡ [] → p.statement ≡ written.Delete name test [] → covers_option (covers s0) test ≡ true
      → table_named s0 name ≡ Some k → slice_get s0.tables k ≡ Some table → deleted s0 k table test ≡ Ok d → accepts_program s [] (query_of d) [] ≡ true
      → compiled s text ≡ Ok (record { command = changes false (f k) (query_of d); returning = None; names = p.names; formats = []; start = p.start; end = p.end; tail = p.tail })
  unfolding compiled planned meaning returning shows command timed delete program
  delete_is text p name test k table d parsed formats statement k2 found there is typed =
      let n = name_is name k found in
      let t : slice_get s.tables (f k) ≡ Some table = r.tables k ∙ there in
      let u : deleted s (f k) table test ≡ Ok d = deleted_same k table test k2 ∙ is in
      rw (parsed, statement, formats, n, t, u, typed)

-- ---- what a change that was read is made of

record IsMade (s0 : Schema) (name : Name) (change : ℕ → Table → Checked Draft) (is_update : Bool) (k : ℕ) (q : Query) (wanted : Bool) : Type 0 where
  pub table : Table
  pub draft : Draft
  pub found : table_named s0 name ≡ Some k
  pub there : slice_get s0.tables k ≡ Some table
  pub is_draft : change k table ≡ Ok draft
  pub is_query : query_of draft ≡ q
  pub is_way : is_update ≡ wanted

made_of : (s0 : Schema) (name : Name) (change : ℕ → Table → Checked Draft) (is_update : Bool) (k : ℕ) (q : Query) (wanted : Bool) → IsChange (change_on s0 name change is_update) k q wanted
    → IsMade s0 name change is_update k q wanted
made_of s0 name change is_update k q wanted h = at_name (table_named s0 name) refl h
  where
    at_draft : (j : ℕ) (table : Table) (r : Checked Draft) → change j table ≡ r → table_named s0 name ≡ Some j → slice_get s0.tables j ≡ Some table
        → IsChange (and_then r (λ d. Ok (j, d, is_update))) k q wanted → IsMade s0 name change is_update k q wanted
    at_draft j table (Err e) c n t it = elim it [ ]
    at_draft j table (Ok d) c n t it = record { table = table; draft = d; found = n ∙ ap Some it.0; there = rw it.0 at t; is_draft = rw it.0 at c; is_query = it.1; is_way = it.2 }

    at_table : (j : ℕ) (o : Option Table) → slice_get s0.tables j ≡ o → table_named s0 name ≡ Some j
        → IsChange (and_then (or_else o NoSuchTable) (λ table. and_then (change j table) (λ d. Ok (j, d, is_update)))) k q wanted → IsMade s0 name change is_update k q wanted
    at_table j None t n it = elim it [ ]
    at_table j (Some table) t n it = at_draft j table (change j table) refl n t it

    at_name : (o : Option ℕ) → table_named s0 name ≡ o → IsChange (and_then (or_else o NoSuchTable)
        (λ j. and_then (table_at s0 j) (λ table. and_then (change j table) (λ d. Ok (j, d, is_update))))) k q wanted → IsMade s0 name change is_update k q wanted
    at_name None n it = elim it [ ]
    at_name (Some j) n it = at_table j (slice_get s0.tables j) refl n it

module _ {s s0 : Schema} {f : ℕ → ℕ} (r : Relocates s s0 f) (text : List ℕ) (k : ℕ) (q : Query) (is_update : Bool) (typed : accepts_program s [] q [] ≡ true) where
  from_update : (p : Parsed) (name : Name) (xs : List (Name × Expr)) (test : Option Expr) (shown : List Shown) (b : Bool)
      → (is_nil p.formats && (is_nil shown && (covers_sets s0 xs && covers_option (covers s0) test))) ≡ b → first text ≡ Ok p → p.statement ≡ written.Update name xs test shown
      → IsChange (if b then change_on s0 name (λ k table. updated s0 k table xs test) true else Err Misuse) k q is_update → Means s text (changes is_update (f k) q)
  from_update p name xs test shown false covered parsed statement h = elim h [ ]
  from_update p name xs test shown true covered parsed statement h =
      let c = both4 (is_nil p.formats) (is_nil shown) (covers_sets s0 xs) (covers_option (covers s0) test) covered in
      let it = made_of s0 name (λ k table. updated s0 k table xs test) true k q is_update h in
      let plain = statement ∙ ap (written.Update name xs test) (none_of shown c.1) in
      let accepted : accepts_program s [] (query_of it.draft) [] ≡ true = ap (λ x. accepts_program s [] x []) it.is_query ∙ typed in
      let m = command_is r text (changes true (f k) (query_of it.draft)) p (update_is r text p name xs test k it.table it.draft parsed (none_of p.formats c.0) plain c.2 c.3 it.found it.there it.is_draft accepted) in
      (m.0 ∙ ap₂ (λ x y. changes x (f k) y) it.is_way it.is_query, m.1)

  from_delete : (p : Parsed) (name : Name) (test : Option Expr) (shown : List Shown) (b : Bool)
      → (is_nil p.formats && (is_nil shown && covers_option (covers s0) test)) ≡ b → first text ≡ Ok p → p.statement ≡ written.Delete name test shown
      → IsChange (if b then change_on s0 name (λ k table. deleted s0 k table test) false else Err Misuse) k q is_update → Means s text (changes is_update (f k) q)
  from_delete p name test shown false covered parsed statement h = elim h [ ]
  from_delete p name test shown true covered parsed statement h =
      let c = both3 (is_nil p.formats) (is_nil shown) (covers_option (covers s0) test) covered in
      let it = made_of s0 name (λ k table. deleted s0 k table test) false k q is_update h in
      let plain = statement ∙ ap (written.Delete name test) (none_of shown c.1) in
      let accepted : accepts_program s [] (query_of it.draft) [] ≡ true = ap (λ x. accepts_program s [] x []) it.is_query ∙ typed in
      let m = command_is r text (changes false (f k) (query_of it.draft)) p (delete_is r text p name test k it.table it.draft parsed (none_of p.formats c.0) plain c.2 it.found it.there it.is_draft accepted) in
      (m.0 ∙ ap₂ (λ x y. changes x (f k) y) it.is_way it.is_query, m.1)

  from_statement : (p : Parsed) → first text ≡ Ok p → (st : Statement) → p.statement ≡ st → IsChange (change_at s0 p.formats st) k q is_update → Means s text (changes is_update (f k) q)
  from_statement p parsed (written.Update name xs test shown) statement h =
      from_update p name xs test shown (is_nil p.formats && (is_nil shown && (covers_sets s0 xs && covers_option (covers s0) test))) refl parsed statement h
  from_statement p parsed (written.Delete name test shown) statement h = from_delete p name test shown (is_nil p.formats && (is_nil shown && covers_option (covers s0) test)) refl parsed statement h
  from_statement p parsed _ statement h = elim h [ ]

  from_text : (o : Checked Parsed) → first text ≡ o → IsChange (and_then o (λ p. change_at s0 p.formats p.statement)) k q is_update → Means s text (changes is_update (f k) q)
  from_text (Err e) parsed h = elim h [ ]
  from_text (Ok p) parsed h = from_statement p parsed p.statement refl h

pub change_is : ChangeLaw
change_is s ats ts h text k q is_update is typed = from_text (relocates s ats ts h) text k q is_update typed (first text) refl is
