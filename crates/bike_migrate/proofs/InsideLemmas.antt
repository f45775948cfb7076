-- A write inside a transaction.
use Rattle.std.proofs.Common.{inl, inr, ℕ, List, Bool, true, false, Option, Ok, Err, Result, IsErr, IsTrue, if◌then◌else◌, refl, subst}
use Rattle.std.proofs.lemmas.Bool.{cases_Bool, both_ways}
use Rattle.sqlite_value.specs.Order.{Row}
use Rattle.sqlite_trees.specs.Tree.{Trees}
use Rattle.sqlite_trees.specs.declared.store.Store.{Ghosts}
use Rattle.sqlite_schema.specs.declared.command.Command.{Command}
use Rattle.sqlite_schema.specs.declared.command.Command.TheVariants as command
use Rattle.sqlite_schema.specs.declared.command.Returning.{Returning}
use Rattle.sqlite.specs.Calls.{IsWrite}
use Rattle.sqlite.specs.Held.{Held, state}
use Rattle.sqlite.specs.State.{State, HasCleanDisk, Shows, Survives, Runs as RunsAs, ExecutesIn, Executes, ExecutesInside, CommitsBy, MayCommit, shows_rows}
use Rattle.sqlite.proofs.StateLemmas.{survives_weaker}
use Rattle.bike_sql.specs.Inside.{IsWriteIn}
use Rattle.bike_migrate.specs.Calls.{Runs}

-- ---- it commits nothing

module _ (old : State) (inside : IsTrue old.in_transaction) where
  write_may : (returning : Option Returning) (c : Command) (text : List ℕ) (params : Row) (db : Trees) → IsWrite c → MayCommit old returning c text params db → ⊥
  write_may returning c text params db write (inl (inl is, same)) = subst IsWrite is write
  write_may returning c text params db write (inl (inr release, same)) = subst IsWrite release.2 write
  write_may returning c text params db write (inr wrote) = both_ways old.in_transaction wrote.0 inside

  write_commits : (sql : List ℕ) (params : Row) (db : Trees) → IsWriteIn old.now.schema sql → CommitsBy sql params old db → ⊥
  unfolding CommitsBy
  write_commits sql params db write h = write_may h.0.returning h.0.command _ _ db (write h.0 h.1.is) h.2

  -- ---- the transaction goes on

  module _ (new : State) where
    wrote : (returning : Option Returning) (c : Command) (text : List ℕ) (params : Row) (count : ℕ) → IsWrite c → RunsAs old new returning c text params count
        → Shows old new new.now (if old.in_transaction then old.committed else new.now) old.in_transaction
    wrote returning (command.Insert at from) text params count write h = h.shown
    wrote returning (command.InsertOr at how from clauses) text params count write h = h.shown
    wrote returning (command.Update at q) text params count write h = h.shown
    wrote returning (command.Delete at q) text params count write h = h.shown
    wrote returning command.CreateTable text params count write h = h.shown
    wrote returning (command.CreateIndex at) text params count write h = h.shown
    wrote returning command.CreateView text params count write h = h.shown
    wrote returning (command.DropTable at) text params count write h = h.shown
    wrote returning (command.DropIndex at) text params count write h = h.shown
    wrote returning (command.DropView at) text params count write h = h.shown
    wrote returning _ text params count write h = elim write [ ]

    in_mode : (b : Bool) → IsTrue b → Shows old new new.now (if b then old.committed else new.now) b → Shows old new new.now old.committed true
    in_mode true is h = h
    in_mode false is h = absurd (both_ways false refl is)

    write_shows : (sql : List ℕ) (params : Row) (count : ℕ) → IsWriteIn old.now.schema sql → Executes sql params old new (Ok count) → Shows old new new.now old.committed true
    unfolding ExecutesIn
    write_shows sql params count write h = elim (cases_Bool (shows_rows false h.0)) [
      | inl shows ↦ absurd (let e = (rw shows at h.2).0 in cc)
      | inr runs ↦ in_mode old.in_transaction inside (wrote h.0.returning h.0.command _ _ count (write h.0 h.1.is) (rw runs at h.2))
    ]

    inside_of : (sql : List ℕ) (params : Row) (count : ℕ) → IsWriteIn old.now.schema sql → Executes sql params old new (Ok count) → ExecutesInside 0 sql params old new (Ok count)
    inside_of sql params count write h = (h, write_shows sql params count write h, λ _. refl)

-- ---- the call

run_survives : {S : Type 0} (g : Ghosts S) (old new : Held S) (text : List ℕ) (params : Row) → Survives (state g old) (state g new) (CommitsBy text params (state g old))
    → Survives (state g old) (state g new) (λ _. ¬ (IsTrue old.in_transaction × IsWriteIn (state g old).now.schema text))
run_survives g old new text params s = survives_weaker (state g old) (state g new) _ _ (λ clean db h both. write_commits (state g old) both.0 text params db both.1 h) s

module _ {S : Type 0} {g : Ghosts S} {old new : Held S} {text : List ℕ} {params : Row} where
  pub run_done : {E : Type 0} (count : ℕ) → (HasCleanDisk (state g new) → Executes text params (state g old) (state g new) (Ok count))
      → Survives (state g old) (state g new) (CommitsBy text params (state g old))
      → Runs g old new text params {X = Unit {0}} {E = E} (Ok tt)
  run_done count ran s =
      record { ran = λ clean inside write. (count, inside_of (state g old) inside (state g new) text params count write (ran clean)); survives = run_survives g old new text params s }

  pub run_failed : {X E : Type 0} {result : Result X E} → IsErr result → Survives (state g old) (state g new) (CommitsBy text params (state g old)) → Runs g old new text params result
  run_failed {result = Ok x} is s = absurd (let never = is in cc)
  run_failed {result = Err e} is s = record { ran = λ clean inside write. tt; survives = run_survives g old new text params s }
