-- What stays kept over calls, and what a transaction leaves.
use Rattle.std.proofs.Common.{Bool, ◌||◌, not, ◌≡◌, inl, inr, ℕ, ◌≤◌, true, false, IsTrue, List, take, length, codes, Result, Ok, Err, refl, sym, ap, ◌∙◌, subst, arith, Option, Some, None}
use Rattle.std.specs.Prelude.{OnErr, is_none}
use Rattle.std.proofs.lemmas.Bool.{and_parts, both_ways}
use Rattle.std.proofs.lemmas.List.{take_all}
use Rattle.sqlite_trees.specs.Tree.{Trees}
use Rattle.sqlite_trees.specs.declared.store.Store.{Ghosts}
use Rattle.sqlite_schema.specs.declared.schema.Schema.{Schema}
use Rattle.sqlite_schema.specs.Names.{table_named}
use Rattle.sqlite.specs.Effect.{Database}
use Rattle.sqlite.specs.State.{State, HasCleanDisk, Survives, IsUnchanged, Shows}
use Rattle.sqlite.specs.Held.{Held, state}
use Rattle.sqlite.proofs.StateLemmas.{survives_then}
use Rattle.sqlite.proofs.Callers.{survives_begin}
use Rattle.bike_sql.specs.Calls.{IsQuiet}
use Rattle.bike_operator.specs.Operator.{Operator}
use Rattle.bike_book.specs.declared.row_change.RowChange.{RowChange}
use Rattle.bike_book.specs.Tables.{Meta}
use Rattle.bike_book.specs.Writes.{writes_of, tables_after_all}
use Rattle.bike_schema.specs.Tables.{is_parent, is_unused, HasTables, HasNone, IsOurs}
use Rattle.bike_schema.specs.Makes.{Makes, Puts}
use Rattle.bike_schema.specs.Stands.{Stores, IsOf, StandsFor, TreesStandFor, AllLeft, Keeps}
use Rattle.bike_desk.specs.Desk.{nothing_remembered, IsRemembered, TreesStandForEither}
use Rattle.bike_desk.specs.Serving.{IsNextBy}

-- an open store recovers what it committed last
abbrev pub Settles : {S : Type 0} → Ghosts S → Type 0
Settles {S} g = (s : S) (db : Trees) → IsTrue (g.view s).is_open → g.recovers s db → db ≡ (g.view s).committed

absent : (o : Option ℕ) → is_none o ≡ true → o ≡ None
absent None e = refl
absent (Some at) e = absurd cc

-- where there are none of the tables, no table has the name of `meta`
pub no_meta : (schema : Schema) → HasNone schema → table_named schema (codes "meta") ≡ None
no_meta schema none =
    let first = (and_parts (is_unused schema (codes "meta")) _ none).0 in
    absent (table_named schema (codes "meta")) (and_parts (is_none (table_named schema (codes "meta"))) (not (is_parent schema (codes "meta"))) first).0

pub never_both : (db : Database) → HasNone db.schema → HasTables db → ⊥
never_both db none all = let a = no_meta db.schema none in let b = (all Meta).has.found in absurd (cc)

-- the tables that are there are those of the operator, who is sound
pub stores_of : (db : Database) (s : Operator) → HasTables db → IsOf db s → Stores db s
stores_of db s all (inl none) = absurd (never_both db none.0 all)
stores_of db s all (inr h) = h

pub kept_stores : (c : State) (s : Operator) → Keeps c s → Stores c.now s
kept_stores c s keeps = stores_of c.now s keeps.tables keeps.now.is

pub kept_ours : (c : State) (s : Operator) → Keeps c s → IsOurs c.now
kept_ours c s keeps = record { sound = keeps.now.sound; has = keeps.tables }

pub stands_in : (db : Database) (trees : Trees) (s : Operator) → StandsFor db s → trees ≡ db.trees → TreesStandFor s trees
stands_in db trees s stands is = (db.schema, subst (λ t. StandsFor (record { schema = db.schema; trees = t }) s) (sym is) stands)

pub on_err : {T E P : Type 0} (r : Result T E) → P → OnErr r P
on_err (Ok x) h = tt
on_err (Err e) h = h

module _ {S : Type 0} (g : Ghosts S) (old new : Held S) (s : Operator) (keeps : Keeps (state g old) s) where
  -- a call that commits nothing leaves no more than there was
  pub quiet : HasCleanDisk (state g new) → IsQuiet g IsOurs old new → AllLeft (state g new) (state g old).may_leave
  quiet clean calm db h = elim (calm.survives.crash clean db h) [ inl before ↦ before | inr not_ours ↦ absurd (not_ours (kept_ours (state g old) s keeps)) ]

  -- and so what stands for the operator
  pub still_left : HasCleanDisk (state g new) → IsQuiet g IsOurs old new → AllLeft (state g new) (TreesStandFor s)
  still_left clean calm db h = keeps.left db (quiet clean calm db h)

  -- a read keeps what is kept
  pub still : HasCleanDisk (state g new) → IsUnchanged (state g old) (state g new) → IsQuiet g IsOurs old new → Keeps (state g new) s
  still clean same calm = record {
    is_open = same.0.is_open;
    autocommit = same.0.mode ∙ keeps.autocommit;
    settled = same.0.committed_is ∙ keeps.settled ∙ sym same.0.now_is;
    now = subst (λ d. StandsFor d s) (sym same.0.now_is) keeps.now;
    left = still_left clean calm;
    tables = subst HasTables (sym same.0.now_is) keeps.tables;
  }

-- an open connection on which nothing is pending keeps what its tables stand for
pub settled_keeps : {S : Type 0} (g : Ghosts S) → Settles g → (c : Held S) (s : Operator) → IsTrue (state g c).is_open → c.in_transaction ≡ false → (state g c).committed ≡ (state g c).now
    → StandsFor (state g c).now s → HasTables (state g c).now → Keeps (state g c) s
settled_keeps g settles c s live outside settled stands all = record {
  is_open = live;
  autocommit = outside;
  settled = settled;
  now = stands;
  left = λ db h. stands_in (state g c).now db s stands (settles c.store db live h ∙ ap (λ (d : Database). d.trees) settled);
  tables = all;
}

-- what the changes may make of the database
abbrev pub MayMake : List RowChange → Database → Trees → Type 0
MayMake changes old trees = (db : Database) × Makes (writes_of changes) old db × (trees ≡ db.trees)

-- a transaction: it begins, its changes are put, it ends
module _ {S : Type 0} (g : Ghosts S) (old last end : Held S) (changes : List RowChange) (i : ℕ) (whole : length changes ≤ i) (live : IsTrue (state g old).is_open)
    (ours : IsOurs (state g old).now)
    (made : HasCleanDisk (state g last) → IsTrue (state g old).is_open → IsOurs (state g old).now
    → Puts (writes_of (take i changes)) (state g (record old { in_transaction = true })) (state g last))
    (calm : Survives (state g (record old { in_transaction = true })) (state g last) (λ _. ⊥)) where
  pub all_put : HasCleanDisk (state g last) → Puts (writes_of changes) (state g (record old { in_transaction = true })) (state g last)
  all_put clean = subst (λ cs. Puts (writes_of cs) (state g (record old { in_transaction = true })) (state g last)) (take_all i changes whole) (made clean live ours)

  pub commit_leaves : Survives (state g last) (state g end) (λ db. db ≡ (state g last).now.trees) → Survives (state g old) (state g end) (MayMake changes (state g old).now)
  commit_leaves commit = survives_then (state g old) (state g last) (state g end) _ _ (MayMake changes (state g old).now) (λ _ db none. absurd none)
      (λ clean db is. ((state g last).now, (all_put (omega (arith, commit.clean))).makes, is))
      (survives_begin g old (state g last) _ calm) commit

module _ {S : Type 0} (g : Ghosts S) (old end : Held S) (changes : List RowChange) (s next : Operator) (it : IsNextBy (state g old) changes s next) where
  pub next_stands : (db : Database) → Makes (writes_of changes) (state g old).now db → StandsFor db next
  next_stands db makes = record {
    sound = makes.sound;
    is = inr (record {
      has = makes.has;
      sound = it.sound;
      listed = it.listed;
      listing = it.leads.listing;
      tables = makes.tables ∙ ap (tables_after_all (writes_of changes)) it.stores.tables ∙ it.leads.tables;
    });
  }

  pub next_kept : Settles g → (now : Database) → Makes (writes_of changes) (state g old).now now → Shows (state g old) (state g end) now now false → Keeps (state g end) next
  next_kept settles now makes shown =
      settled_keeps g settles end next shown.is_open shown.mode (shown.committed_is ∙ sym shown.now_is) (subst (λ d. StandsFor d next) (sym shown.now_is) (next_stands now makes))
      (subst HasTables (sym shown.now_is) makes.has)

  pub either_left : HasCleanDisk (state g end) → Survives (state g old) (state g end) (MayMake changes (state g old).now) → AllLeft (state g end) (TreesStandForEither s next)
  either_left clean crash db h = elim (crash.crash clean db h) [
    | inl before ↦ inl (it.keeps.left db before)
    | inr made ↦ inr (stands_in made.0 db next (next_stands made.0 made.1) made.2)
  ]

-- of nothing that is remembered anything is so
pub nothing_told : (s : Operator) → IsRemembered s nothing_remembered
nothing_told s = record { newest = λ told. absurd (both_ways false refl told); figures = tt }

-- a stop is the flag or an open transaction
pub still_going : (stopped before after : Bool) → (stopped || before) ≡ false → after ≡ false → (stopped || after) ≡ false
still_going true before after h k = absurd (cc)
still_going false before after h k = k
