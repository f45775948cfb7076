-- What the text of a query means in any schema that has its tables.
use Rattle.std.proofs.Common.{◌≡◌, ℕ, Bool, true, false, if◌then◌else◌, List, [], map, None, Ok, Err, refl, ap, ap₂, ◌∙◌}
use Rattle.sqlite_ast.specs.declared.Select.{Select, out-Select}
use Rattle.sqlite_ast.specs.declared.Statement.{Statement}
use Rattle.sqlite_ast.specs.declared.Statement.TheVariants as written
use Rattle.sqlite_syntax.specs.declared.statement.Parsed.{Parsed}
use Rattle.sqlite_schema.specs.declared.schema.Schema.{Schema}
use Rattle.sqlite_schema.specs.declared.program.Table.{Table as Let}
use Rattle.sqlite_schema.specs.declared.command.Command.TheVariants.{Select as Selects}
use Rattle.sqlite_schema.specs.Program.{let_in}
use Rattle.sqlite_draft.specs.Query.{query_of}
use Rattle.sqlite_typing.specs.Types.{accepts_program}
use Rattle.sqlite_resolve.specs.declared.error.CompileError.TheVariants.{Misuse}
use Rattle.sqlite_resolve.specs.Lowering.{Checked, and_then}
use Rattle.sqlite_resolve.specs.Select.{named, paging}
use Rattle.sqlite_resolve.specs.Program.{Shown, query, program}
use Rattle.sqlite_resolve.specs.Compile.{first, planned, meaning, returning, command, timed, compiled, read}
use Rattle.sqlite.specs.Listing.{understood}
use Rattle.bike_sql.specs.Has.{of_tables}
use Rattle.bike_sql.specs.Fragment.{is_nil, covers_select}
use Rattle.bike_sql.specs.Reads.{of_query, one_select, draft_of, IsDraft, covers_union, one_union, union_of, IsUnion}
use Rattle.bike_sql.specs.Laws.{Reads, SelectLaw, UnionLaw}
use Rattle.bike_sql.proofs.PlaceLemmas.{relocates}
use Rattle.bike_sql.proofs.QueryLemmas.{none_of, select_query, union_query}

-- ---- from the draft of a text's query to its command

module _ (s : Schema) (text : List ℕ) where
  compiled_is : (p : Parsed) (x : Select) (shown : Shown) (lets : List Let) → first text ≡ Ok p → p.formats ≡ [] → p.statement ≡ written.Select x → query s x ≡ Ok (shown, lets)
      → accepts_program s (map let_in lets) (query_of shown.0) [] ≡ true
      → compiled s text ≡ Ok (record {
        command = Selects (record { lets = lets; body = query_of shown.0 }) shown.1;
        returning = None;
        names = p.names;
        formats = [];
        start = p.start;
        end = p.end;
        tail = p.tail;
      })
  unfolding compiled planned meaning returning command timed read program
  compiled_is p x shown lets parsed none is drafted typed = rw (parsed, is, none, drafted, typed)

  query_reads : (p : Parsed) (x : Select) (shown : Shown) (lets : List Let) → first text ≡ Ok p → p.formats ≡ [] → p.statement ≡ written.Select x → query s x ≡ Ok (shown, lets)
      → accepts_program s (map let_in lets) (query_of shown.0) [] ≡ true
      → Reads s text (Selects (record { lets = lets; body = query_of shown.0 }) shown.1)
  unfolding understood
  query_reads p x shown lets parsed none is drafted typed = let c = compiled_is p x shown lets parsed none is drafted typed in (rw c, rw c (refl, refl), rw c)

-- ---- what a reading of a text found

-- the text is a query, and the reading gives this of it
pub record IsReadAs {A : Type 0} (text : List ℕ) (reading : Select → Checked A) (a : A) : Type 0 where
  pub parsed : Parsed
  pub select : Select
  pub is_first : first text ≡ Ok parsed
  pub reads_no_clock : parsed.formats ≡ []
  pub is_select : parsed.statement ≡ written.Select select
  pub gives : reading select ≡ Ok a

read_as : {A : Type 0} (text : List ℕ) (reading : Select → Checked A) (a : A) → and_then (first text) (λ p. of_query reading p.formats p.statement) ≡ Ok a → IsReadAs text reading a
read_as {A} text reading a is = go (first text) refl is
  where
    at_formats : (p : Parsed) (x : Select) (b : Bool) → is_nil p.formats ≡ b → (if b then reading x else Err Misuse) ≡ Ok a → first text ≡ Ok p → p.statement ≡ written.Select x
        → IsReadAs text reading a
    at_formats p x false none h is_first is_select = absurd (cc)
    at_formats p x true none h is_first is_select = record { parsed = p; select = x; is_first = is_first; reads_no_clock = none_of p.formats none; is_select = is_select; gives = h }

    at_statement : (p : Parsed) (st : Statement) → first text ≡ Ok p → p.statement ≡ st → of_query reading p.formats st ≡ Ok a → IsReadAs text reading a
    at_statement p (written.Select x) is_first is_select h = at_formats p x (is_nil p.formats) refl h is_first is_select
    at_statement p _ is_first is_select h = absurd (cc)

    go : (r : Checked Parsed) → first text ≡ r → and_then r (λ p. of_query reading p.formats p.statement) ≡ Ok a → IsReadAs text reading a
    go (Err e) is_first h = absurd (cc)
    go (Ok p) is_first h = at_statement p p.statement is_first refl h

-- a reading of covered queries alone
if_covered : {A : Type 0} (covered : Bool) (r : Checked A) (a : A) → (if covered then r else Err Misuse) ≡ Ok a → (covered ≡ true) × (r ≡ Ok a)
if_covered true r a h = (refl, h)
if_covered false r a h = absurd (cc)

-- ---- the laws

pub select_is : SelectLaw
select_is s ats ts h text q names is typed = go (draft_of (of_tables ts) text) refl is
  where
    go : (r : Checked Shown) → draft_of (of_tables ts) text ≡ r → IsDraft r q names → Reads s text (Selects (record { lets = []; body = q }) names)
    go (Err e) known it = elim it [ ]
    go (Ok shown) known it =
        let x = read_as text (one_select (of_tables ts)) shown known in
        let c = if_covered (covers_select (of_tables ts) x.select) (and_then (paging (of_tables ts) x.select) (λ page. named (of_tables ts) (out-Select x.select).first (out-Select x.select).order page)) shown x.gives in
        let drafted = select_query (relocates s ats ts h) x.select shown c.0 c.1 in
        let m = query_reads s text x.parsed x.select shown [] x.is_first x.reads_no_clock x.is_select drafted (ap (λ y. accepts_program s [] y []) it.0 ∙ typed) in
        (m.0 ∙ ap₂ (λ x y. Selects (record { lets = []; body = x }) y) it.0 it.1, m.1, m.2)

pub union_is : UnionLaw
union_is s ats ts h text lets q names is typed = go (union_of (of_tables ts) text) refl is
  where
    go : (r : Checked (Shown × List Let)) → union_of (of_tables ts) text ≡ r → IsUnion r lets q names → Reads s text (Selects (record { lets = lets; body = q }) names)
    go (Err e) known it = elim it [ ]
    go (Ok r) known it =
        let x = read_as text (one_union (of_tables ts)) r known in
        let c = if_covered (covers_union (of_tables ts) x.select) (query (of_tables ts) x.select) r x.gives in
        let drafted = union_query (relocates s ats ts h) x.select c.0 ∙ c.1 in
        let accepted : accepts_program s (map let_in r.1) (query_of r.0.0) [] ≡ true = ap₂ (λ l y. accepts_program s (map let_in l) y []) it.0 it.1 ∙ typed in
        let m = query_reads s text x.parsed x.select r.0 r.1 x.is_first x.reads_no_clock x.is_select drafted accepted in
        (m.0 ∙ ap₂ (λ l y. Selects (record { lets = l; body = y }) r.0.1) it.0 it.1 ∙ ap (λ y. Selects (record { lets = lets; body = q }) y) it.2, m.1, m.2)
