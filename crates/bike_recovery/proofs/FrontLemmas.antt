-- The operator after a front of a list is sound, and is read.
use Rattle.std.proofs.Common.{◌≡◌, [], inl, inr, None, Result, Ok, Err, codes, sym, ap, subst}
use Rattle.std.specs.Prelude.{IfOk}
use Rattle.sqlite_trees.specs.declared.store.Store.{Ghosts}
use Rattle.sqlite_trees.specs.declared.memory.MemStore.{MemStore}
use Rattle.sqlite_schema.specs.declared.schema.Schema.{Schema}
use Rattle.sqlite_schema.specs.Names.{table_named}
use Rattle.sqlite.specs.Effect.{Database}
use Rattle.sqlite.specs.Held.{Held, state}
use Rattle.sqlite.specs.State.{HasCleanDisk}
use Rattle.sqlite.specs.Steps.{over_memory}
use Rattle.sqlite.proofs.Callers.{memory_is_clean}
use Rattle.bike_operator.specs.Operator.{Operator, no_operator}
use Rattle.bike_operator.specs.Sound.{IsSound}
use Rattle.bike_laws.proofs.NoOperatorLemmas.{none_sound}
use Rattle.bike_book.specs.Tables.{Meta}
use Rattle.bike_schema.specs.Stands.{IsOf}
use Rattle.bike_desk.specs.Desk.{DeskValue, desk_state, IsAt}

sound_of : (db : Database) (s : Operator) → IsOf db s → IsSound s
sound_of db s (inl none) = subst IsSound (sym none.1) none_sound
sound_of db s (inr stores) = stores.sound

-- an operator for which a desk stands is sound
pub sound_at : {S : Type 0} (g : Ghosts S) (d : DeskValue S) (s : Operator) → IsAt g d s → IsSound s
sound_at g d s at = sound_of _ s at.keeps.now.is

-- a database with no table is the operator's of which nothing was asked, and nobody else's
pub nobody : (db : Database) (s : Operator) → db.schema ≡ record { tables = []; indexes = []; views = [] } → IsOf db s → s ≡ no_operator
nobody db s empty (inl none) = none.1
nobody db s empty (inr h) =
    let none : table_named db.schema (codes "meta") ≡ None = ap (λ (x : Schema). table_named x (codes "meta")) empty in
    let some = (h.has Meta).has.found in
    absurd (cc)

-- a desk over a database in memory with no table is at that operator
pub at_nobody : (conn : Held MemStore) (desk : DeskValue MemStore) → (state over_memory conn).now.schema ≡ record { tables = []; indexes = []; views = [] }
    → (HasCleanDisk (desk_state over_memory desk) → (s : Operator) × IsOf (state over_memory conn).now s × IsAt over_memory desk s)
    → IsAt over_memory desk no_operator
at_nobody conn desk empty only =
    let it = only (memory_is_clean desk.conn) in
    subst (IsAt over_memory desk) (nobody (state over_memory conn).now it.0 empty it.1) it.2

-- over memory nothing has to be supposed of a disk
pub in_memory : {R E : Type 0} (P : DeskValue MemStore × R → Type 0) (o : Result (DeskValue MemStore × R) E)
    → IfOk o (λ r. HasCleanDisk (desk_state over_memory r.0) → P r) → IfOk o P
in_memory P (Err e) h = tt
in_memory P (Ok r) h = h (memory_is_clean r.0.conn)
