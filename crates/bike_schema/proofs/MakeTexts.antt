-- A CREATE TABLE that is understood makes a table, whatever the schema: where its name is not free it is refused.
use Rattle.std.proofs.Common.{◌≡◌, ◌==◌, ◌&&◌, ◌+◌, not, length, ℕ, Bool, true, false, List, [], slice_range, is_some, Option, None, Ok, Err, refl, sym, ap, subst, ◌∙◌, if◌then◌else◌}
use Rattle.sqlite_ast.specs.declared.Statement.{Statement}
use Rattle.sqlite_ast.specs.declared.Statement.TheVariants as written
use Rattle.sqlite_ast.specs.declared.CreateTable.{CreateTable as TableText}
use Rattle.sqlite_syntax.specs.declared.statement.Parsed.{Parsed}
use Rattle.std.specs.Option.{option_or}
use Rattle.sqlite_schema.specs.declared.schema.Table.{Table}
use Rattle.sqlite_schema.specs.Names.{table_named, index_named, view_named}
use Rattle.sqlite_schema.specs.declared.command.Returning.{Returning}
use Rattle.sqlite_resolve.specs.Define as define
use Rattle.sqlite_schema.specs.declared.schema.Schema.{Schema}
use Rattle.sqlite_schema.specs.declared.command.Command.{Command}
use Rattle.sqlite_schema.specs.declared.command.Command.TheVariants.{CreateTable, Nothing}
use Rattle.sqlite_resolve.specs.Scope.{Name}
use Rattle.sqlite_resolve.specs.Lowering.{Checked, and_then}
use Rattle.sqlite_resolve.specs.declared.error.CompileError.{CompileError}
use Rattle.sqlite_resolve.specs.declared.error.CompileError.TheVariants.{NoSuchTable, Exists, Misuse, Unsupported}
use Rattle.sqlite_resolve.specs.declared.compiled.Compiled.{Compiled}
use Rattle.sqlite_resolve.specs.Compile.{first, planned, meaning, returning, command, timed, compiled, create_table, creates, with_command, is_attached, is_reserved, small}
use Rattle.sqlite.specs.Listing.{understood, reads_listing, listing_schema, if_select, is_select}
use Rattle.sqlite.specs.State.{text_of}

-- ---- steps of a compilation that came to an end

same_ok : {A : Type 0} {a b : A} → ◌≡◌ {A = Checked A} (Ok a) (Ok b) → a ≡ b
same_ok e = cc

not_refused : {A : Type 0} (b : Bool) (e : CompileError) (r : Checked A) (k : A) → (if b then Err e else r) ≡ Ok k → r ≡ Ok k
not_refused true e r k is = absurd (cc)
not_refused false e r k is = is

then_ok : {A B : Type 0} (r : Checked A) (f : A → Checked B) (k : B) → and_then r f ≡ Ok k → (a : A) × (r ≡ Ok a) × (f a ≡ Ok k)
then_ok (Ok a) f k is = (a, refl, is)
then_ok (Err e) f k is = absurd (cc)

one_way : {A : Type 0} (b : Bool) (e : CompileError) (a k : A) → (if b then Ok a else Err e) ≡ Ok k → a ≡ k
one_way true e a k is = same_ok is
one_way false e a k is = absurd (cc)

is_new : (name : Name) (same other : Option ℕ) (b : Bool) → creates false name same other ≡ Ok b → b ≡ true
unfolding creates
is_new name same other b is =
    let unused : (if is_some other then Err Exists else (if is_some same then Err Exists else Ok true)) ≡ Ok b = not_refused (is_reserved name) Misuse _ b is in
    let alone : (if is_some same then Err Exists else Ok true) ≡ Ok b = not_refused (is_some other) Exists _ b unused in
    sym (same_ok (not_refused (is_some same) Exists (Ok true) b alone))

-- what a name that is free is asked, and what comes of it
abbrev is_free : Schema → TableText → Bool → Checked Bool
is_free s def if_missing = creates if_missing def.name (option_or (table_named s def.name) (view_named s def.name)) (index_named s def.name)

abbrev on_table : TableText → Table → Checked Command
on_table def t = if length t.computed == length t.stamps.places && not def.resolves then Ok CreateTable else Err Unsupported

abbrev once_free : List Name → TableText → Bool → Checked Command
once_free formats def is_new = if is_new then and_then (define.table formats def) (on_table def) else Ok Nothing

makes_table : (s : Schema) (formats : List Name) (def : TableText) → def.if_missing ≡ false → (k : Command) → create_table s formats def ≡ Ok k → k ≡ CreateTable
unfolding create_table
makes_table s formats def once k is =
    let a : and_then (is_free s def def.if_missing) (once_free formats def) ≡ Ok k = not_refused (is_attached s def.name) Unsupported _ k is in
    let b = then_ok (is_free s def def.if_missing) (once_free formats def) k a in
    let new : b.0 ≡ true = is_new def.name (option_or (table_named s def.name) (view_named s def.name)) (index_named s def.name) b.0 (subst (λ x. is_free s def x ≡ Ok b.0) once b.1) in
    let c : and_then (define.table formats def) (on_table def) ≡ Ok k = subst (λ x. once_free formats def x ≡ Ok k) new b.2 in
    let d = then_ok (define.table formats def) (on_table def) k c in
    sym (one_way (length d.0.computed == length d.0.stamps.places && not def.resolves) Unsupported CreateTable k d.2)

-- ---- the whole text

-- one CREATE TABLE with no IF NOT EXISTS, and nothing around it
abbrev IsBare : Statement → Type 0
IsBare (written.CreateTable def) = def.if_missing ≡ false
IsBare _ = ⊥

abbrev pub IsOnlyCreate : List ℕ → Checked Parsed → Type 0
IsOnlyCreate text (Ok p) = IsBare p.statement × (slice_range text p.start p.end ≡ text)
IsOnlyCreate text (Err e) = ⊥

pub record Makes (text : List ℕ) (c : Compiled) : Type 0 where
  pub makes : c.command ≡ CreateTable
  pub shows : c.returning ≡ None
  pub timeless : c.formats ≡ []
  pub whole : text_of text c ≡ text

module _ (text : List ℕ) (p : Parsed) (parsed : first text ≡ Ok p) (def : TableText) (statement : p.statement ≡ written.CreateTable def) (once : def.if_missing ≡ false)
    (whole : slice_range text p.start p.end ≡ text) where
  compiled_makes : (s : Schema) (c : Compiled) → compiled s text ≡ Ok c → Makes text c
  unfolding compiled planned meaning returning command timed
  compiled_makes s c is =
      let base = small p.names + small (timed s p.formats p.statement) in
      let parts : and_then (planned s p) (λ plan. Ok (with_command p plan)) ≡ Ok c = subst (λ o. and_then o (λ q. and_then (planned s q) (λ plan. Ok (with_command q plan))) ≡ Ok c) parsed is in
      let a = then_ok (planned s p) (λ plan. Ok (with_command p plan)) c parts in
      let meant : and_then (and_then (create_table s p.formats def) (λ k. Ok (k, None))) (λ found. Ok ([], found)) ≡ Ok a.0 =
      subst (λ st. and_then (and_then (returning s base st) (λ shown. and_then (command s p.formats base st) (λ k. Ok (k, shown)))) (λ found. Ok (timed s p.formats st, found))
      ≡ Ok a.0) statement a.1 in
      let b = then_ok (and_then (create_table s p.formats def) (λ k. Ok (k, None))) (λ found. Ok ([], found)) a.0 meant in
      let d = then_ok (create_table s p.formats def) (λ k. Ok (k, None)) b.0 b.1 in
      let made = makes_table s p.formats def once d.0 d.1 in
      let found : ◌≡◌ {A = Command × Option Returning} (d.0, None) b.0 = same_ok d.2 in
      let plan : ◌≡◌ {A = List Name × (Command × Option Returning)} ([], b.0) a.0 = same_ok b.2 in
      let plan_is : ◌≡◌ {A = List Name × (Command × Option Returning)} ([], (CreateTable, None)) a.0 = ap (λ (k : Command). ([], (k, None))) (sym made) ∙ ap (λ (f : Command × Option Returning). ([], f)) found ∙ plan in
      let c_is : with_command p ([], (CreateTable, None)) ≡ c = ap (with_command p) plan_is ∙ same_ok a.2 in
      subst (Makes text) c_is (record { makes = refl; shows = refl; timeless = refl; whole = whole })

  understood_makes : (s : Schema) (c : Compiled) → understood s text ≡ Ok c → Makes text c
  unfolding understood
  understood_makes s c is = by (reads_listing s text) is
    where
      listed : (o : Checked Compiled) → compiled listing_schema text ≡ o → if_select o ≡ Ok c → Makes text c
      listed (Err e) was h = absurd (cc)
      listed (Ok other) was h =
          absurd (let k = (compiled_makes listing_schema other was).makes in let e : if_select (Ok other) ≡ Err NoSuchTable = ap (λ x. if is_select x then Ok other else Err NoSuchTable) k in let f = sym e ∙ h in cc)

      by : (b : Bool) → (if b then if_select (compiled listing_schema text) else compiled s text) ≡ Ok c → Makes text c
      by true h = listed (compiled listing_schema text) refl h
      by false h = compiled_makes s c h

pub understood_as : (text : List ℕ) → IsOnlyCreate text (first text) → (s : Schema) (c : Compiled) → understood s text ≡ Ok c → Makes text c
understood_as text only = parse (first text) refl only
  where
    parse : (o : Checked Parsed) → first text ≡ o → IsOnlyCreate text o → (s : Schema) (c : Compiled) → understood s text ≡ Ok c → Makes text c
    parse (Err e) parsed it = absurd it
    parse (Ok p) parsed it = state p.statement refl it.0
      where
        state : (st : Statement) → p.statement ≡ st → IsBare st → (s : Schema) (c : Compiled) → understood s text ≡ Ok c → Makes text c
        state (written.CreateTable def) statement once = understood_makes text p parsed def statement once it.1
        state _ statement once = absurd once
