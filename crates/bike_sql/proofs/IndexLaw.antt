-- A CREATE INDEX that is done leaves each table as it was, in any schema. It needs no premise on names: where its name is taken or its table is missing it is refused.
use Rattle.std.proofs.Common.{◌≡◌, ◌⊎◌, inl, inr, ℕ, ◌+◌, Bool, true, false, List, [], is_some, slice_get, Option, Some, None, Ok, Err, Result, OnOk, refl, sym, ap, subst, ◌∙◌, if◌then◌else◌}
use Rattle.std.specs.Option.{option_or}
use Rattle.std.specs.List.{list_any}
use Rattle.sqlite_ast.specs.declared.Statement.{Statement}
use Rattle.sqlite_ast.specs.declared.Statement.TheVariants as written
use Rattle.sqlite_ast.specs.declared.CreateIndex.{CreateIndex as IndexText}
use Rattle.sqlite_syntax.specs.declared.statement.Parsed.{Parsed}
use Rattle.sqlite_schema.specs.declared.schema.Table.{Table}
use Rattle.sqlite_schema.specs.declared.schema.Schema.{Schema}
use Rattle.sqlite_schema.specs.declared.command.Returning.{Returning}
use Rattle.sqlite_schema.specs.declared.command.Command.{Command}
use Rattle.sqlite_schema.specs.declared.command.Command.TheVariants.{CreateIndex, Nothing}
use Rattle.sqlite_schema.specs.Names.{table_named, index_named, view_named}
use Rattle.sqlite_resolve.specs.Define as define
use Rattle.sqlite_resolve.specs.Scope.{Name}
use Rattle.sqlite_resolve.specs.Body.{table_at}
use Rattle.sqlite_resolve.specs.Lowering.{Checked, and_then}
use Rattle.sqlite_resolve.specs.declared.error.CompileError.{CompileError}
use Rattle.sqlite_resolve.specs.declared.error.CompileError.TheVariants.{NoSuchTable, Exists, Misuse}
use Rattle.sqlite_resolve.specs.declared.compiled.Compiled.{Compiled}
use Rattle.sqlite_resolve.specs.Compile.{first, planned, meaning, returning, command, timed, compiled, create_index, creates, target, with_command, is_reserved, small}
use Rattle.sqlite_catalog.specs.Change.{KeepsRows}
use Rattle.sqlite.specs.Effect.{Database}
use Rattle.sqlite.specs.Does.{Tally, AtPlace, Defines, MakesIndex}
use Rattle.sqlite.specs.Given.{IsPlain}
use Rattle.sqlite.specs.Listing.{understood, reads_listing, listing_schema, if_select, is_select}
use Rattle.sqlite.specs.declared.error.Error.{Error}
use Rattle.sqlite.specs.State.{State, Shows, Writes, Executes, ExecutesIn, ExecutesInside, mode_of}
use Rattle.sqlite.proofs.Callers.{command_of, statement_of, runs_as}
use Rattle.bike_sql.proofs.GrowLemmas.{same_has}
use Rattle.bike_sql.specs.Layout.{Layout, table_of}
use Rattle.bike_sql.specs.View.{IsKeyed}
use Rattle.bike_sql.specs.Stands.{refers_to, Stands, Stays, Indexes}
use Rattle.bike_sql.proofs.CrashLemmas.{done_inside}
use Rattle.bike_sql.proofs.FrameLemmas.{rows_of_is}
use Rattle.bike_sql.proofs.RowListLemmas.{all_at}

-- ---- a compilation that succeeds

same_ok : {A : Type 0} {a b : A} → ◌≡◌ {A = Checked A} (Ok a) (Ok b) → a ≡ b
same_ok e = cc

not_refused : {A : Type 0} (b : Bool) (e : CompileError) (r : Checked A) (k : A) → (if b then Err e else r) ≡ Ok k → r ≡ Ok k
not_refused true e r k is = absurd (cc)
not_refused false e r k is = is

then_ok : {A B : Type 0} (r : Checked A) (f : A → Checked B) (k : B) → and_then r f ≡ Ok k → (a : A) × (r ≡ Ok a) × (f a ≡ Ok k)
then_ok (Ok a) f k is = (a, refl, is)
then_ok (Err e) f k is = absurd (cc)

is_new : (name : Name) (same other : Option ℕ) (b : Bool) → creates false name same other ≡ Ok b → b ≡ true
unfolding creates
is_new name same other b is =
    let unused : (if is_some other then Err Exists else (if is_some same then Err Exists else Ok true)) ≡ Ok b = not_refused (is_reserved name) Misuse _ b is in
    let alone : (if is_some same then Err Exists else Ok true) ≡ Ok b = not_refused (is_some other) Exists _ b unused in
    sym (same_ok (not_refused (is_some same) Exists (Ok true) b alone))

abbrev is_free : Schema → IndexText → Bool → Checked Bool
is_free s def if_missing = creates if_missing def.name (index_named s def.name) (option_or (table_named s def.name) (view_named s def.name))

abbrev once_free : IndexText → ℕ → Table → Bool → Checked Command
once_free def at table is_new = if is_new then and_then (define.index table def) (λ _. Ok (CreateIndex at)) else Ok Nothing

abbrev pub IsIndexing : Command → Type 0
IsIndexing k = (at : ℕ) × (k ≡ CreateIndex at)

makes_index : (s : Schema) (def : IndexText) → def.if_missing ≡ false → (k : Command) → create_index s def ≡ Ok k → IsIndexing k
unfolding create_index
makes_index s def once k is =
    let a = not_refused (is_reserved def.table) Misuse _ k is in
    let b = then_ok (target s def.table) (λ at. and_then (table_at s at) (λ table. and_then (is_free s def def.if_missing) (once_free def at table))) k a in
    let c = then_ok (table_at s b.0) (λ table. and_then (is_free s def def.if_missing) (once_free def b.0 table)) k b.2 in
    let d = then_ok (is_free s def def.if_missing) (once_free def b.0 c.0) k c.2 in
    let new : d.0 ≡ true = is_new def.name (index_named s def.name) (option_or (table_named s def.name) (view_named s def.name)) d.0 (subst (λ x. is_free s def x ≡ Ok d.0) once d.1) in
    let e : and_then (define.index c.0 def) (λ _. Ok (CreateIndex b.0)) ≡ Ok k = subst (λ x. once_free def b.0 c.0 x ≡ Ok k) new d.2 in
    let f = then_ok (define.index c.0 def) (λ _. Ok (CreateIndex b.0)) k e in
    (b.0, sym (same_ok f.2))

-- ---- the text

-- a CREATE INDEX without IF NOT EXISTS
abbrev IsBare : Statement → Type 0
IsBare (written.CreateIndex def) = def.if_missing ≡ false
IsBare _ = ⊥

-- the text is that one statement, and reads no clock
abbrev pub IsOnlyIndex : Checked Parsed → Type 0
IsOnlyIndex (Ok p) = IsBare p.statement × (p.formats ≡ [])
IsOnlyIndex (Err e) = ⊥

-- it makes an index, and has neither RETURNING nor a clock
pub record Makes (c : Compiled) : Type 0 where
  pub makes : IsIndexing c.command
  pub shows : c.returning ≡ None
  pub timeless : c.formats ≡ []

module _ (text : List ℕ) (p : Parsed) (parsed : first text ≡ Ok p) (def : IndexText) (statement : p.statement ≡ written.CreateIndex def) (once : def.if_missing ≡ false)
    (timeless : p.formats ≡ []) where
  compiled_makes : (s : Schema) (c : Compiled) → compiled s text ≡ Ok c → Makes c
  unfolding compiled planned meaning returning command timed
  compiled_makes s c is =
      let base = small p.names + small (timed s p.formats p.statement) in
      let parts : and_then (planned s p) (λ plan. Ok (with_command p plan)) ≡ Ok c = subst (λ o. and_then o (λ q. and_then (planned s q) (λ plan. Ok (with_command q plan))) ≡ Ok c) parsed is in
      let a = then_ok (planned s p) (λ plan. Ok (with_command p plan)) c parts in
      let written : and_then (and_then (create_index s def) (λ k. Ok (k, None))) (λ found. Ok (p.formats, found)) ≡ Ok a.0 =
      subst (λ st. and_then (and_then (returning s base st) (λ shown. and_then (command s p.formats base st) (λ k. Ok (k, shown)))) (λ found. Ok (timed s p.formats st, found))
      ≡ Ok a.0) statement a.1 in
      let meant : and_then (and_then (create_index s def) (λ k. Ok (k, None))) (λ found. Ok ([], found)) ≡ Ok a.0 = subst (λ formats. and_then (and_then (create_index s def) (λ k. Ok (k, None))) (λ found. Ok (formats, found)) ≡ Ok a.0) timeless written in
      let b = then_ok (and_then (create_index s def) (λ k. Ok (k, None))) (λ found. Ok ([], found)) a.0 meant in
      let d = then_ok (create_index s def) (λ k. Ok (k, None)) b.0 b.1 in
      let made = makes_index s def once d.0 d.1 in
      let found : ◌≡◌ {A = Command × Option Returning} (d.0, None) b.0 = same_ok d.2 in
      let plan : ◌≡◌ {A = List Name × (Command × Option Returning)} ([], b.0) a.0 = same_ok b.2 in
      let plan_is : ◌≡◌ {A = List Name × (Command × Option Returning)} ([], (CreateIndex made.0, None)) a.0 = ap (λ (k : Command). ([], (k, None))) (sym made.1) ∙ ap (λ (f : Command × Option Returning). ([], f)) found ∙ plan in
      let c_is : with_command p ([], (CreateIndex made.0, None)) ≡ c = ap (with_command p) plan_is ∙ same_ok a.2 in
      subst Makes c_is (record { makes = (made.0, refl); shows = refl; timeless = refl })

  understood_makes : (s : Schema) (c : Compiled) → understood s text ≡ Ok c → Makes c
  unfolding understood
  understood_makes s c is = by (reads_listing s text) is
    where
      listed : (o : Checked Compiled) → compiled listing_schema text ≡ o → if_select o ≡ Ok c → Makes c
      listed (Err e) was h = absurd (cc)
      listed (Ok other) was h =
          absurd (let k = (compiled_makes listing_schema other was).makes.1 in let e : if_select (Ok other) ≡ Err NoSuchTable = ap (λ x. if is_select x then Ok other else Err NoSuchTable) k in let f = sym e ∙ h in cc)

      by : (b : Bool) → (if b then if_select (compiled listing_schema text) else compiled s text) ≡ Ok c → Makes c
      by true h = listed (compiled listing_schema text) refl h
      by false h = compiled_makes s c h

pub understood_as : (text : List ℕ) → IsOnlyIndex (first text) → (s : Schema) (c : Compiled) → understood s text ≡ Ok c → Makes c
understood_as text only = parse (first text) refl only
  where
    parse : (o : Checked Parsed) → first text ≡ o → IsOnlyIndex o → (s : Schema) (c : Compiled) → understood s text ≡ Ok c → Makes c
    parse (Err e) parsed it = absurd it
    parse (Ok p) parsed it = state p.statement refl it.0
      where
        state : (st : Statement) → p.statement ≡ st → IsBare st → (s : Schema) (c : Compiled) → understood s text ≡ Ok c → Makes c
        state (written.CreateIndex def) statement once = understood_makes text p parsed def statement once it.1
        state _ statement once = absurd once

-- ---- what it does

went : {B E R : Type 0} {b : B} {Stops : E → Type 0} → ((stop : E) × Stops stop × (Ok b ≡ Err stop)) ⊎ R → R
went (inl stopped) = absurd (let e = stopped.2 in cc)
went (inr on) = on

same_value : {B E : Type 0} {a b : B} → ◌≡◌ {A = Result B E} (Ok a) (Ok b) → a ≡ b
same_value e = cc

-- each table is there with its rows
record Same (old new : Database) : Type 0 where
  tables : new.schema.tables ≡ old.schema.tables
  rows : KeepsRows old.schema.tables old.trees new.trees

module _ (text : List ℕ) (at : ℕ) (old new : State) (count : ℕ) (w : Writes old new None (CreateIndex at) text [] count) where
  same_tables : Same old.now new.now
  same_tables = by (slice_get old.now.schema.tables at) w.changed
    where
      by : (o : Option Table) → AtPlace (λ table. Defines (mode_of old) (MakesIndex text old.now table)) o (Ok (w.tally, new.now)) → Same old.now new.now
      by None h = absurd (cc)
      by (Some table) h =
          let done = went h in
          let made = done.1 in
          let now : done.0 ≡ new.now = sym (ap (λ (p : Tally × Database). p.1) (same_value done.2)) in
          subst (Same old.now) now (record { tables = ap (λ (s : Schema). s.tables) made.is; rows = made.rows })

-- and so it stands, with the rows that it showed
stays_as : (old new : Database) → Same old new → (keys : ℕ) (layout : Layout) → Stands old keys layout → Stays old new keys layout
stays_as old new same keys layout was =
    let table = table_of layout was.tree in
    let tree : new.trees was.tree ≡ old.trees was.tree = all_at (λ (t : Table). new.trees t.tree ≡ old.trees t.tree) old.schema.tables was.at table same.rows was.has.there in
    let it : Stands new keys layout = record {
      at = was.at;
      tree = was.tree;
      has = same_has old.schema new.schema was.at table same.tables was.has;
      keyed = subst (IsKeyed keys table) (sym tree) was.keyed;
      unreferred = ap (λ ts. list_any (λ t. list_any (refers_to ts was.tree) t.references) ts) same.tables ∙ was.unreferred;
    } in
    record { stands = it; rows = rows_of_is new keys layout it ∙ (rw tree) ∙ sym (rows_of_is old keys layout was) }

-- CREATE INDEX name ON a table (columns): each table stands as it did, with its rows
pub index_made : (text : List ℕ) → IsOnlyIndex (first text) → (old new : State) (count : ℕ) → Executes text [] old new (Ok count) → Indexes old.now new.now
unfolding ExecutesIn
index_made text only old new count h =
    let bare = understood_as text only old.now.schema h.0 h.1.is in
    let is : command_of (understood old.now.schema text) ≡ CreateIndex bare.makes.0 = ap command_of h.1.is ∙ bare.makes.1 in
    let plain : IsPlain (understood old.now.schema text) = subst IsPlain (sym h.1.is) (bare.shows, bare.timeless) in
    let w = runs_as text [] old new old.now.schema refl (CreateIndex bare.makes.0) is plain count h in
    let same = same_tables (statement_of text (understood old.now.schema text)) bare.makes.0 old new count w in
    record { tables = same.tables; sound = w.sound; stays = stays_as old.now new.now same }

-- Inside a transaction, what is committed is as it was.
pub index_inside : (text : List ℕ) → IsOnlyIndex (first text) → (old new : State) (r : Result ℕ Error) → ExecutesInside 0 text [] old new r
    → OnOk r (Shows old new new.now old.committed true × Indexes old.now new.now)
index_inside text only old new r = done_inside 0 text [] old new r (λ count shown executes. (shown, index_made text only old new count executes))
