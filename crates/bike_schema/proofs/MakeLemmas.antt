-- What each CREATE TABLE makes of the database.
use Rattle.std.proofs.Common.{◌≡◌, ◌||◌, ◌⊎◌, unwrap_or, zero, suc, ℕ, ◌<◌, ◌≤◌, false, is_some, List, [], ◌∷◌, ◌++◌, slice_get, Option, Some, None, Ok, Err, Result, refl, sym, ap, subst, ◌∙◌, arith}
use Rattle.std.proofs.Common.{inl, inr}
use Rattle.std.specs.List.{AllByRecursion}
use Rattle.std.proofs.lemmas.Bool.{or_parts, cases_Bool}
use Rattle.sqlite_trees.specs.Tree.{Trees}
use Rattle.sqlite_schema.specs.declared.schema.Table.{Table}
use Rattle.sqlite_schema.specs.declared.schema.Reference.{Reference}
use Rattle.sqlite_schema.specs.declared.schema.Schema.{Schema}
use Rattle.sqlite_schema.specs.declared.command.Command.TheVariants.{CreateTable}
use Rattle.sqlite_schema.specs.Names.{table_named, index_named, view_named}
use Rattle.sqlite_resolve.specs.Lowering.{Checked}
use Rattle.sqlite_resolve.specs.Compile.{table_defined_by}
use Rattle.sqlite_tied.specs.Compute.{everything}
use Rattle.sqlite_catalog.specs.Change.{created, next_tree, KeepsRows, is_used}
use Rattle.sqlite_catalog.proofs.StepLemmas.{table_below}
use Rattle.sqlite_rules.specs.Lists.{Has}
use Rattle.sqlite_catalog.specs.Calls.{CreatesTable}
use Rattle.sqlite.specs.Effect.{Database, IsDatabase}
use Rattle.sqlite.specs.Does.{Tally, lacks_sequence, sequence_text}
use Rattle.sqlite.specs.Given.{IsPlain}
use Rattle.sqlite.specs.Listing.{understood}
use Rattle.sqlite.specs.State.{State, Writes, Executes, ExecutesIn}
use Rattle.sqlite.proofs.Callers.{command_of, statement_of, runs_as}
use Rattle.bike_sql.specs.Layout.{Layout, table_of}
use Rattle.bike_schema.proofs.MakeTexts.{understood_as}
use Rattle.bike_schema.proofs.MakeFacts.{Declares}

-- no table has a foreign key
abbrev pub Unreferring : List Table → Type 0
Unreferring = AllByRecursion (λ t. t.references ≡ [])

-- A table of this layout was made, with no rows, and what stood stays. Another may have come after it: the one in which AUTOINCREMENT counts.
pub record Adds (layout : Layout) (old new : Database) : Type 0 where
  pub more : List Table
  pub grown : new.schema.tables ≡ (created old.schema (table_of layout 0)).tables ++ more
  pub plain : Unreferring more
  pub above : AllByRecursion (λ t. next_tree old.schema < t.tree) more
  pub free : table_named old.schema layout.name ≡ None
  pub empty : new.trees (next_tree old.schema) ≡ []
  pub others : KeepsRows old.schema.tables old.trees new.trees
  pub sound : IsDatabase new

-- ---- lists

pub all_front : {X : Type 0} (P : X → Type 0) (xs ys : List X) → AllByRecursion P (xs ++ ys) → AllByRecursion P xs
all_front P [] ys h = tt
all_front P (x ∷ xs) ys h = (h.0, all_front P xs ys h.1)

pub all_back : {X : Type 0} (P : X → Type 0) (xs ys : List X) → AllByRecursion P (xs ++ ys) → AllByRecursion P ys
all_back P [] ys h = h
all_back P (x ∷ xs) ys h = all_back P xs ys h.1

pub all_both : {X : Type 0} (P : X → Type 0) (xs ys : List X) → AllByRecursion P xs → AllByRecursion P ys → AllByRecursion P (xs ++ ys)
all_both P [] ys h k = k
all_both P (x ∷ xs) ys h k = (h.0, all_both P xs ys h.1 k)

pub all_weaker : {X : Type 0} (P Q : X → Type 0) → ((x : X) → P x → Q x) → (xs : List X) → AllByRecursion P xs → AllByRecursion Q xs
all_weaker P Q f [] h = tt
all_weaker P Q f (x ∷ xs) h = (f x h.0, all_weaker P Q f xs h.1)

has_last : {X : Type 0} (xs : List X) (y : X) → Has (xs ++ y ∷ []) y
has_last [] y = inl refl
has_last (x ∷ xs) y = inr (has_last xs y)

pub get_has : {X : Type 0} (xs : List X) (k : ℕ) (x : X) → slice_get xs k ≡ Some x → Has xs x
get_has [] k x is = absurd (cc)
get_has (y ∷ ys) zero x is = inl (sym (ap (λ o. unwrap_or o x) is))
get_has (y ∷ ys) (suc k) x is = inr (get_has ys k x is)

kept_then : (tables : List Table) (a b c : Trees) → KeepsRows tables a b → KeepsRows tables b c → KeepsRows tables a c
kept_then [] a b c h k = tt
kept_then (t ∷ tables) a b c h k = (k.0 ∙ h.0, kept_then tables a b c h.1 k.1)

kept_same : (tables : List Table) (a : Trees) → KeepsRows tables a a
kept_same [] a = tt
kept_same (t ∷ tables) a = (refl, kept_same tables a)

nil_right : {X : Type 0} (xs : List X) → xs ≡ xs ++ []
nil_right [] = refl
nil_right (x ∷ xs) = ap (λ l. x ∷ l) (nil_right xs)

absent : {X : Type 0} (o : Option X) → is_some o ≡ false → o ≡ None
absent None h = refl
absent (Some x) h = absurd (cc)

-- ---- one CREATE TABLE

went : {B E R : Type 0} {b : B} {Stops : E → Type 0} → ((stop : E) × Stops stop × (Ok b ≡ Err stop)) ⊎ R → R
went (inl stopped) = absurd (let e = stopped.2 in cc)
went (inr on) = on

same_value : {B E : Type 0} {a b : B} → ◌≡◌ {A = Result B E} (Ok a) (Ok b) → a ≡ b
same_value e = cc

abbrev references_of : Checked Table → List Reference
references_of (Ok t) = t.references
references_of (Err e) = []

counter_plain : references_of (table_defined_by sequence_text) ≡ []
unfolding everything
counter_plain = refl

-- what may come after the table
record After (mid end : Database) : Type 0 where
  more : List Table
  grown : end.schema.tables ≡ mid.schema.tables ++ more
  plain : Unreferring more
  later : AllByRecursion (λ t. next_tree mid.schema ≤ t.tree) more
  others : KeepsRows mid.schema.tables mid.trees end.trees

module _ (text : List ℕ) (layout : Layout) (defined : table_defined_by text ≡ Ok (table_of layout 0)) (old new : State) (count : ℕ) (w : Writes old new None CreateTable text [] count) where
  makes : Adds layout old.now new.now
  makes =
      let all = went w.changed in
      let first = went all.1 in
      let made = first.1 in
      let both : Ok made.table ≡ Ok (table_of layout 0) = sym made.defined ∙ defined in
      let same : made.table ≡ table_of layout 0 = same_value both in
      let schema : first.0.schema ≡ created old.now.schema (table_of layout 0) = made.is ∙ ap (created old.now.schema) same in
      let tables : first.0.schema.tables ≡ (created old.now.schema (table_of layout 0)).tables = ap (λ (s : Schema). s.tables) schema in
      let now : all.0 ≡ new.now = sym (ap (λ (p : Tally × Database). p.1) (same_value all.2)) in
      let used : is_used old.now.schema layout.name ≡ false = subst (λ (t : Table). is_used old.now.schema t.name ≡ false) same made.free in
      let name = layout.name in
      let schema0 = old.now.schema in
      let free = absent (table_named schema0 name) (or_parts (is_some (table_named schema0 name)) (is_some (index_named schema0 name)) (or_parts (is_some (table_named schema0 name) || is_some (index_named schema0 name)) (is_some (view_named schema0 name)) used).0).0 in
      finish first.0 all.0 tables free made.empty made.others now (elim (cases_Bool (lacks_sequence first.0.schema)) [
        | inl lacks ↦ counted first.0 all.0 (rw lacks at first.2)
        | inr has ↦ uncounted first.0 all.0 (sym (same_value (rw has at first.2)))
      ])
    where
      counted : (mid end : Database) → CreatesTable mid.schema sequence_text mid.trees end.schema end.trees → After mid end
      counted mid end it = record {
        more = record it.table { tree = next_tree mid.schema } ∷ [];
        grown = ap (λ (s : Schema). s.tables) it.is;
        plain = (sym (ap references_of it.defined) ∙ counter_plain, tt);
        later = (omega arith, tt);
        others = it.others;
      }

      uncounted : (mid end : Database) → mid ≡ end → After mid end
      uncounted mid end same = subst (After mid) same (record { more = []; grown = nil_right mid.schema.tables; plain = tt; later = tt; others = kept_same mid.schema.tables mid.trees })

      finish : (mid end : Database) → mid.schema.tables ≡ (created old.now.schema (table_of layout 0)).tables → table_named old.now.schema layout.name ≡ None
          → mid.trees (next_tree old.now.schema) ≡ []
          → KeepsRows old.now.schema.tables old.now.trees mid.trees → end ≡ new.now → After mid end → Adds layout old.now new.now
      finish mid end tables free empty others now a =
          let ours : Table = table_of layout (next_tree old.now.schema) in
          let kept : KeepsRows (old.now.schema.tables ++ ours ∷ []) mid.trees end.trees = subst (λ ts. KeepsRows ts mid.trees end.trees) tables a.others in
          let P = λ (t : Table). end.trees t.tree ≡ mid.trees t.tree in
          let newest : next_tree old.now.schema < next_tree mid.schema = table_below mid.schema ours (subst (λ ts. Has ts ours) (sym tables) (has_last old.now.schema.tables ours)) in
          let front = all_front P old.now.schema.tables (ours ∷ []) kept in
          let back = all_back P old.now.schema.tables (ours ∷ []) kept in
          record {
            more = a.more;
            grown = ap (λ (d : Database). d.schema.tables) (sym now) ∙ a.grown ∙ ap (λ ts. ts ++ a.more) tables;
            plain = a.plain;
            above = all_weaker (λ (t : Table). next_tree mid.schema ≤ t.tree) (λ t. next_tree old.now.schema < t.tree) (λ t later. omega (arith, newest, later)) a.more a.later;
            free = free;
            empty = subst (λ (d : Database). d.trees (next_tree old.now.schema) ≡ []) now (back.0 ∙ empty);
            others = subst (λ (d : Database). KeepsRows old.now.schema.tables old.now.trees d.trees) now (kept_then old.now.schema.tables old.now.trees mid.trees end.trees others front);
            sound = w.sound;
          }

pub adds : (text : List ℕ) (layout : Layout) → Declares text layout → (old new : State) (count : ℕ) → Executes text [] old new (Ok count) → Adds layout old.now new.now
unfolding ExecutesIn
adds text layout declares old new count h =
    let bare = understood_as text declares.only old.now.schema h.0 h.1.is in
    let is : command_of (understood old.now.schema text) ≡ CreateTable = ap command_of h.1.is ∙ bare.makes in
    let plain : IsPlain (understood old.now.schema text) = subst IsPlain (sym h.1.is) (bare.shows, bare.timeless) in
    let whole : statement_of text (understood old.now.schema text) ≡ text = ap (statement_of text) h.1.is ∙ bare.whole in
    makes text layout declares.defined old new count (subst (λ t. Writes old new None CreateTable t [] count) whole (runs_as text [] old new old.now.schema refl CreateTable is plain count h))
