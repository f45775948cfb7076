-- A CREATE INDEX that is done makes the index that its text tells of the table that it names, and nothing else.
use Rattle.std.proofs.Common.{◌≡◌, ◌⊎◌, inl, inr, ℕ, ◌+◌, Bool, true, false, List, [], ◌∷◌, ◌++◌, map, is_some, slice_get, slice_range, Option, Some, None, Ok, Err, Result, refl, sym, ap, subst, ◌∙◌}
use Rattle.std.proofs.Common.{if◌then◌else◌}
use Rattle.std.specs.List.{AllByRecursion, AllZip}
use Rattle.std.specs.Option.{option_or}
use Rattle.sqlite_value.specs.Keys.{plain}
use Rattle.sqlite_trees.specs.declared.store.Store.{Ghosts}
use Rattle.sqlite_rules.specs.Lists.{Has}
use Rattle.sqlite_ast.specs.declared.Statement.{Statement}
use Rattle.sqlite_ast.specs.declared.Statement.TheVariants as written
use Rattle.sqlite_ast.specs.declared.CreateIndex.{CreateIndex as IndexText}
use Rattle.sqlite_syntax.specs.declared.statement.Parsed.{Parsed}
use Rattle.sqlite_schema.specs.declared.schema.Table.{Table}
use Rattle.sqlite_schema.specs.declared.schema.Index.{Index}
use Rattle.sqlite_schema.specs.declared.schema.Schema.{Schema}
use Rattle.sqlite_schema.specs.declared.command.Returning.{Returning}
use Rattle.sqlite_schema.specs.declared.command.Command.{Command}
use Rattle.sqlite_schema.specs.declared.command.Command.TheVariants.{CreateIndex, Nothing}
use Rattle.sqlite_schema.specs.Names.{table_named, index_named, view_named}
use Rattle.sqlite_resolve.specs.Define as define
use Rattle.sqlite_resolve.specs.Scope.{Name}
use Rattle.sqlite_resolve.specs.Body.{table_at}
use Rattle.sqlite_resolve.specs.Lowering.{Checked, and_then, or_else}
use Rattle.sqlite_resolve.specs.declared.error.CompileError.{CompileError}
use Rattle.sqlite_resolve.specs.declared.error.CompileError.TheVariants.{NoSuchTable, Exists, Misuse}
use Rattle.sqlite_resolve.specs.declared.compiled.Compiled.{Compiled}
use Rattle.sqlite_resolve.specs.Compile.{first, planned, meaning, returning, command, timed, compiled, create_index, creates, target, with_command, is_reserved, small, index_defined_by}
use Rattle.sqlite_catalog.specs.Change.{indexed, next_tree, KeepsRows}
use Rattle.sqlite.specs.Effect.{Database}
use Rattle.sqlite.specs.Does.{Tally, AtPlace, Defines, MakesIndex}
use Rattle.sqlite.specs.Given.{IsPlain}
use Rattle.sqlite.specs.Listing.{understood, reads_listing, listing_schema, if_select, is_select}
use Rattle.sqlite.specs.State.{State, Writes, Executes, ExecutesIn, mode_of, text_of}
use Rattle.sqlite.specs.Held.{Held, state}
use Rattle.sqlite.proofs.Callers.{command_of, statement_of, runs_as}
use Rattle.bike_sql.specs.Has.{HasTable}
use Rattle.bike_sql.proofs.GrowLemmas.{same_has}
use Rattle.bike_sql.specs.Layout.{table_of}
use Rattle.bike_sql.proofs.RowListLemmas.{same_some}
use Rattle.bike_book.specs.Tables.{TableName}
use Rattle.bike_schema.specs.Layouts.{layout_of, name_of}
use Rattle.bike_schema.specs.Creates.{RanAll}
use Rattle.bike_schema.specs.Indexes.{TableIndex, HasIndex, places_in}

-- ---- a compilation that succeeds

same_ok : {A : Type 0} {a b : A} → ◌≡◌ {A = Checked A} (Ok a) (Ok b) → a ≡ b
same_ok e = cc

not_refused : {A : Type 0} (b : Bool) (e : CompileError) (r : Checked A) (k : A) → (if b then Err e else r) ≡ Ok k → r ≡ Ok k
not_refused true e r k is = absurd (cc)
not_refused false e r k is = is

then_ok : {A B : Type 0} (r : Checked A) (f : A → Checked B) (k : B) → and_then r f ≡ Ok k → (a : A) × (r ≡ Ok a) × (f a ≡ Ok k)
then_ok (Ok a) f k is = (a, refl, is)
then_ok (Err e) f k is = absurd (cc)

is_new : (name : Name) (same other : Option ℕ) (b : Bool) → creates false name same other ≡ Ok b → b ≡ true
unfolding creates
is_new name same other b is =
    let unused : (if is_some other then Err Exists else (if is_some same then Err Exists else Ok true)) ≡ Ok b = not_refused (is_reserved name) Misuse _ b is in
    let alone : (if is_some same then Err Exists else Ok true) ≡ Ok b = not_refused (is_some other) Exists _ b unused in
    sym (same_ok (not_refused (is_some same) Exists (Ok true) b alone))

abbrev is_free : Schema → IndexText → Bool → Checked Bool
is_free s def if_missing = creates if_missing def.name (index_named s def.name) (option_or (table_named s def.name) (view_named s def.name))

abbrev once_free : IndexText → ℕ → Table → Bool → Checked Command
once_free def at table is_new = if is_new then and_then (define.index table def) (λ _. Ok (CreateIndex at)) else Ok Nothing

found_at : (o : Option ℕ) (at : ℕ) → or_else o NoSuchTable ≡ Ok at → o ≡ Some at
found_at None at is = absurd (cc)
found_at (Some n) at is = ap Some (same_ok is)

-- the command is that of an index of the table of this name
record Indexes (s : Schema) (table : Name) (k : Command) : Type 0 where
  at : ℕ
  found : table_named s table ≡ Some at
  is : k ≡ CreateIndex at

makes_index : (s : Schema) (def : IndexText) → def.if_missing ≡ false → (k : Command) → create_index s def ≡ Ok k → Indexes s def.table k
unfolding create_index
makes_index s def once k is =
    let a = not_refused (is_reserved def.table) Misuse _ k is in
    let b = then_ok (target s def.table) (λ at. and_then (table_at s at) (λ table. and_then (is_free s def def.if_missing) (once_free def at table))) k a in
    let c = then_ok (table_at s b.0) (λ table. and_then (is_free s def def.if_missing) (once_free def b.0 table)) k b.2 in
    let d = then_ok (is_free s def def.if_missing) (once_free def b.0 c.0) k c.2 in
    let new : d.0 ≡ true = is_new def.name (index_named s def.name) (option_or (table_named s def.name) (view_named s def.name)) d.0 (subst (λ x. is_free s def x ≡ Ok d.0) once d.1) in
    let e : and_then (define.index c.0 def) (λ _. Ok (CreateIndex b.0)) ≡ Ok k = subst (λ x. once_free def b.0 c.0 x ≡ Ok k) new d.2 in
    let f = then_ok (define.index c.0 def) (λ _. Ok (CreateIndex b.0)) k e in
    record { at = b.0; found = found_at (table_named s def.table) b.0 b.1; is = sym (same_ok f.2) }

-- ---- the text

-- a CREATE INDEX on the table of this name, without IF NOT EXISTS
abbrev IsBare : Name → Statement → Type 0
IsBare table (written.CreateIndex def) = (def.if_missing ≡ false) × (def.table ≡ table)
IsBare table _ = ⊥

-- the text is that one statement with nothing around it, and reads no clock
abbrev pub IsOnlyIndexOf : Name → List ℕ → Checked Parsed → Type 0
IsOnlyIndexOf table text (Ok p) = IsBare table p.statement × (p.formats ≡ []) × (slice_range text p.start p.end ≡ text)
IsOnlyIndexOf table text (Err e) = ⊥

-- it makes an index of the table, and has neither RETURNING nor a clock
record Makes (s : Schema) (table text : Name) (c : Compiled) : Type 0 where
  makes : Indexes s table c.command
  shows : c.returning ≡ None
  timeless : c.formats ≡ []
  whole : text_of text c ≡ text

module _ (text : List ℕ) (p : Parsed) (parsed : first text ≡ Ok p) (def : IndexText) (statement : p.statement ≡ written.CreateIndex def) (once : def.if_missing ≡ false) (timeless : p.formats ≡ [])
    (whole : slice_range text p.start p.end ≡ text) where
  compiled_makes : (s : Schema) (c : Compiled) → compiled s text ≡ Ok c → Makes s def.table text c
  unfolding compiled planned meaning returning command timed
  compiled_makes s c is =
      let base = small p.names + small (timed s p.formats p.statement) in
      let parts : and_then (planned s p) (λ plan. Ok (with_command p plan)) ≡ Ok c = subst (λ o. and_then o (λ q. and_then (planned s q) (λ plan. Ok (with_command q plan))) ≡ Ok c) parsed is in
      let a = then_ok (planned s p) (λ plan. Ok (with_command p plan)) c parts in
      let written : and_then (and_then (create_index s def) (λ k. Ok (k, None))) (λ found. Ok (p.formats, found)) ≡ Ok a.0 =
      subst (λ st. and_then (and_then (returning s base st) (λ shown. and_then (command s p.formats base st) (λ k. Ok (k, shown)))) (λ found. Ok (timed s p.formats st, found))
      ≡ Ok a.0) statement a.1 in
      let meant : and_then (and_then (create_index s def) (λ k. Ok (k, None))) (λ found. Ok ([], found)) ≡ Ok a.0 = subst (λ formats. and_then (and_then (create_index s def) (λ k. Ok (k, None))) (λ found. Ok (formats, found)) ≡ Ok a.0) timeless written in
      let b = then_ok (and_then (create_index s def) (λ k. Ok (k, None))) (λ found. Ok ([], found)) a.0 meant in
      let d = then_ok (create_index s def) (λ k. Ok (k, None)) b.0 b.1 in
      let made = makes_index s def once d.0 d.1 in
      let found : ◌≡◌ {A = Command × Option Returning} (d.0, None) b.0 = same_ok d.2 in
      let plan : ◌≡◌ {A = List Name × (Command × Option Returning)} ([], b.0) a.0 = same_ok b.2 in
      let plan_is : ◌≡◌ {A = List Name × (Command × Option Returning)} ([], (CreateIndex made.at, None)) a.0 = ap (λ (k : Command). ([], (k, None))) (sym made.is) ∙ ap (λ (f : Command × Option Returning). ([], f)) found ∙ plan in
      let c_is : with_command p ([], (CreateIndex made.at, None)) ≡ c = ap (with_command p) plan_is ∙ same_ok a.2 in
      subst (Makes s def.table text) c_is (record { makes = record { at = made.at; found = made.found; is = refl }; shows = refl; timeless = refl; whole = whole })

  understood_makes : (s : Schema) (c : Compiled) → understood s text ≡ Ok c → Makes s def.table text c
  unfolding understood
  understood_makes s c is = by (reads_listing s text) is
    where
      listed : (o : Checked Compiled) → compiled listing_schema text ≡ o → if_select o ≡ Ok c → Makes s def.table text c
      listed (Err e) was h = absurd (cc)
      listed (Ok other) was h =
          absurd (let k = (compiled_makes listing_schema other was).makes.is in let e : if_select (Ok other) ≡ Err NoSuchTable = ap (λ x. if is_select x then Ok other else Err NoSuchTable) k in let f = sym e ∙ h in cc)

      by : (b : Bool) → (if b then if_select (compiled listing_schema text) else compiled s text) ≡ Ok c → Makes s def.table text c
      by true h = listed (compiled listing_schema text) refl h
      by false h = compiled_makes s c h

understood_as : (table text : List ℕ) → IsOnlyIndexOf table text (first text) → (s : Schema) (c : Compiled) → understood s text ≡ Ok c → Makes s table text c
understood_as table text only = parse (first text) refl only
  where
    parse : (o : Checked Parsed) → first text ≡ o → IsOnlyIndexOf table text o → (s : Schema) (c : Compiled) → understood s text ≡ Ok c → Makes s table text c
    parse (Err e) parsed it = absurd it
    parse (Ok p) parsed it = state p.statement refl it.0
      where
        state : (st : Statement) → p.statement ≡ st → IsBare table st → (s : Schema) (c : Compiled) → understood s text ≡ Ok c → Makes s table text c
        state (written.CreateIndex def) statement bare = λ s c is. subst (λ t. Makes s t text c) bare.1 (understood_makes text p parsed def statement bare.0 it.1 it.2 s c is)
        state _ statement bare = absurd bare

-- ---- what it does

went : {B E R : Type 0} {b : B} {Stops : E → Type 0} → ((stop : E) × Stops stop × (Ok b ≡ Err stop)) ⊎ R → R
went (inl stopped) = absurd (let e = stopped.2 in cc)
went (inr on) = on

same_value : {B E : Type 0} {a b : B} → ◌≡◌ {A = Result B E} (Ok a) (Ok b) → a ≡ b
same_value e = cc

-- The index that the text tells is made of the table of this name. Each table has its rows.
pub record AddsIndex (name text : List ℕ) (old new : Database) : Type 0 where
  pub at : ℕ
  pub found : table_named old.schema name ≡ Some at
  pub table : Table
  pub there : slice_get old.schema.tables at ≡ Some table
  pub index : Index
  pub defined : index_defined_by table text ≡ Ok index
  pub schema : new.schema ≡ indexed old.schema table index
  pub rows : KeepsRows old.schema.tables old.trees new.trees

module _ (name text : List ℕ) (at : ℕ) (old new : State) (found : table_named old.now.schema name ≡ Some at) (count : ℕ) (w : Writes old new None (CreateIndex at) text [] count) where
  adds : AddsIndex name text old.now new.now
  adds = by (slice_get old.now.schema.tables at) refl w.changed
    where
      by : (o : Option Table) → slice_get old.now.schema.tables at ≡ o → AtPlace (λ table. Defines (mode_of old) (MakesIndex text old.now table)) o (Ok (w.tally, new.now))
          → AddsIndex name text old.now new.now
      by None is h = absurd (cc)
      by (Some table) is h =
          let done = went h in
          let made = done.1 in
          let now : done.0 ≡ new.now = sym (ap (λ (p : Tally × Database). p.1) (same_value done.2)) in
          subst (AddsIndex name text old.now) now (record { at = at; found = found; table = table; there = is; index = made.index; defined = made.defined; schema = made.is; rows = made.rows })

pub index_added : (name text : List ℕ) → IsOnlyIndexOf name text (first text) → (old new : State) (count : ℕ) → Executes text [] old new (Ok count) → AddsIndex name text old.now new.now
unfolding ExecutesIn
index_added name text only old new count h =
    let bare = understood_as name text only old.now.schema h.0 h.1.is in
    let is : command_of (understood old.now.schema text) ≡ CreateIndex bare.makes.at = ap command_of h.1.is ∙ bare.makes.is in
    let plain : IsPlain (understood old.now.schema text) = subst IsPlain (sym h.1.is) (bare.shows, bare.timeless) in
    let same : statement_of text (understood old.now.schema text) ≡ text = ap (statement_of text) h.1.is ∙ bare.whole in
    let w = runs_as text [] old new old.now.schema refl (CreateIndex bare.makes.at) is plain count h in
    adds name text bare.makes.at old new bare.makes.found count (subst (λ t. Writes old new None (CreateIndex bare.makes.at) t [] count) same w)

-- ---- the index is there

has_front : {X : Type 0} (xs ys : List X) (x : X) → Has xs x → Has (xs ++ ys) x
has_front [] ys x has = absurd has
has_front (z ∷ xs) ys x (inl is) = inl is
has_front (z ∷ xs) ys x (inr later) = inr (has_front xs ys x later)

has_last : {X : Type 0} (xs : List X) (y : X) → Has (xs ++ y ∷ []) y
has_last [] y = inl refl
has_last (x ∷ xs) y = inr (has_last xs y)

-- the index over these places of the table in this tree, as its statement tells it
abbrev pub index_as : TableIndex → List ℕ → ℕ → Index
index_as i places tree = record { name = i.name; tree = 0; table = tree; columns = places; order = plain; is_unique = false }

-- The text makes the index of any table of its table's layout, over the columns that stand at these places.
pub record Tells (text : List ℕ) (i : TableIndex) : Type 0 where
  pub only : IsOnlyIndexOf (name_of i.table) text (first text)
  pub places : List ℕ
  pub defined : (tree : ℕ) → index_defined_by (table_of (layout_of i.table) tree) text ≡ Ok (index_as i places tree)
  pub are : (tree : ℕ) → map Some places ≡ places_in (table_of (layout_of i.table) tree) i.columns

pub index_there : (text : List ℕ) (i : TableIndex) → Tells text i → (a b : Database) (at tree : ℕ) → HasTable a.schema at (table_of (layout_of i.table) tree) → AddsIndex (name_of i.table) text a b
    → HasIndex b.schema i
index_there text i tells a b at tree has it =
    let t : Table = table_of (layout_of i.table) tree in
    let place : at ≡ it.at = same_some (sym has.found ∙ it.found) in
    let same : t ≡ it.table = same_some (sym has.there ∙ ap (slice_get a.schema.tables) place ∙ it.there) in
    let is : it.index ≡ index_as i tells.places tree = same_ok (sym it.defined ∙ ap (λ u. index_defined_by u text) (sym same) ∙ tells.defined tree) in
    let placed : Index = record it.index { tree = next_tree a.schema; table = it.table.tree } in
    record {
      at = at;
      table = t;
      has = same_has a.schema b.schema at t (ap (λ (s : Schema). s.tables) it.schema) has;
      called = refl;
      index = placed;
      listed = subst (λ (s : Schema). Has s.indexes placed) (sym it.schema) (has_last a.schema.indexes placed);
      named = ap (λ (x : Index). x.name) is;
      on = ap (λ (u : Table). u.tree) (sym same);
      columns = ap (λ (x : Index). map Some x.columns) is ∙ tells.are tree;
      order = ap (λ (x : Index). x.order) is;
      repeats = ap (λ (x : Index). x.is_unique) is;
    }

-- and stays as others are made
index_stays : (name text : List ℕ) (a b : Database) → AddsIndex name text a b → (i : TableIndex) → HasIndex a.schema i → HasIndex b.schema i
index_stays name text a b it i was = record {
  at = was.at;
  table = was.table;
  has = same_has a.schema b.schema was.at was.table (ap (λ (s : Schema). s.tables) it.schema) was.has;
  called = was.called;
  index = was.index;
  listed = subst (λ (s : Schema). Has s.indexes was.index) (sym it.schema) (has_front a.schema.indexes _ was.index was.listed);
  named = was.named;
  on = was.on;
  columns = was.columns;
  order = was.order;
  repeats = was.repeats;
}

-- ---- one after another

-- each table has a place, as it is made
abbrev pub HaveTables : Schema → Type 0
HaveTables s = (t : TableName) → (at : ℕ) × (tree : ℕ) × HasTable s at (table_of (layout_of t) tree)

module _ {S : Type 0} (g : Ghosts S) where
  still_there : (texts : List (List ℕ)) (indexes : List TableIndex) (a c : Held S) → AllZip Tells texts indexes → RanAll g texts a c → (i : TableIndex) → HasIndex (state g a).now.schema i
      → HasIndex (state g c).now.schema i
  still_there [] [] a c tell same i was = subst (λ h. HasIndex (state g h).now.schema i) same was
  still_there [] (x ∷ xs) a c tell ran i was = absurd tell
  still_there (text ∷ texts) [] a c tell ran i was = absurd tell
  still_there (text ∷ texts) (x ∷ xs) a c (tells, more) (mid, ran, rest) i was =
      let it = index_added (name_of x.table) text tells.only (state g a) (state g mid) ran.0 ran.1.0 in
      still_there texts xs mid c more rest i (index_stays (name_of x.table) text (state g a).now (state g mid).now it i was)

  pub all_there : (texts : List (List ℕ)) (indexes : List TableIndex) (a c : Held S) → AllZip Tells texts indexes → HaveTables (state g a).now.schema → RanAll g texts a c
      → AllByRecursion (HasIndex (state g c).now.schema) indexes
  all_there [] [] a c tell have ran = tt
  all_there [] (x ∷ xs) a c tell have ran = absurd tell
  all_there (text ∷ texts) [] a c tell have ran = absurd tell
  all_there (text ∷ texts) (x ∷ xs) a c (tells, more) have (mid, ran, rest) =
      let old = (state g a).now in
      let new = (state g mid).now in
      let it = index_added (name_of x.table) text tells.only (state g a) (state g mid) ran.0 ran.1.0 in
      let here = have x.table in
      let made = index_there text x tells old new here.0 here.1 here.2 it in
      let kept : HaveTables new.schema = λ t. let was = have t in (was.0, was.1, same_has old.schema new.schema was.0 (table_of (layout_of t) was.1) (ap (λ (s : Schema). s.tables) it.schema) was.2) in
      (still_there texts xs mid c more rest x made, all_there texts xs mid c more kept rest)
