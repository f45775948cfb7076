-- What the program serves, and what it leaves.
use Rattle.std.proofs.Common.{◌≡◌, ◌≤◌, IsTrue, arith, ℕ, List, [], ◌∷◌, ◌++◌, refl, sym, subst, ap, Option, None, Some, Result, Ok, Err, inl, inr}
use Rattle.std.specs.Prelude.{MatchResult, IsErrAnd}
use Rattle.std.specs.Io.KnownBytes.{Keeps}
use Rattle.std.proofs.KnownBytes.{Keeps-refl}
use Rattle.sqlite.specs.Store.{Ghosts}
use Rattle.sqlite.specs.Steps.{over_memory, IsEmpty}
use Rattle.sqlite.specs.State.{HasCleanDisk}
use Rattle.sqlite.specs.Held.{Held, state}
use Rattle.sqlite.specs.Schema.{Schema}
use Rattle.sqlite_trees.specs.View.{doubt}
use Rattle.sqlite_trees.specs.declared.memory.MemStore.{MemStore}
use Rattle.bike_operator.specs.Operator.{Operator, no_operator}
use Rattle.bike_operator.specs.Runs.{Call}
use Rattle.bike_operator.specs.Sound.{IsCall, AreCalls}
use Rattle.bike_schema.specs.Tables.{HasNone}
use Rattle.bike_schema.specs.Stands.{AllLeft, TreesStandFor}
use Rattle.bike_desk.specs.Desk.{DeskValue, desk_state}
use Rattle.bike_desk.specs.declared.fault.DeskFault.{DeskFault}
use Rattle.bike_desk.specs.declared.fault.DeskFault.TheVariants.{NoMemory, StoreFailed, Stopped}
use Rattle.bike_audit.specs.declared.adoption.AdoptFault.{AdoptFault}
use Rattle.bike_audit.specs.declared.adoption.AdoptCause.{AdoptCause}
use Rattle.bike_audit.specs.declared.adoption.AdoptCause.TheVariants as adopt
use Rattle.bike_audit.specs.Adoption.{IsWantFor, IsWant, IsToldOf, handed, Adopts, Looks}
use Rattle.bike_migrate.specs.Raising as raising
use Rattle.bike_migrate.specs.declared.fault.RaiseFault.{RaiseFault}
use Rattle.bike_migrate.specs.declared.fault.RaiseCause.{RaiseCause}
use Rattle.bike_migrate.specs.declared.fault.RaiseCause.TheVariants as raise
use Rattle.bike_batch.specs.declared.line_fault.LinesFault.{LinesFault}
use Rattle.bike_console.specs.declared.end.Fault.{Fault}
use Rattle.bike_console.specs.Ends.{lines_fault, adoption_fault, adopt_fault, raising_fault, raise_fault, end_of}
use Rattle.bike_batch.specs.Runs.{ServesSome}
use Rattle.bike_app.specs.Raises.{RefusesToRaise}
use Rattle.bike_app.specs.Program.{StandsAfterSome, Refuses, Serves, FailsToBegin, ServesInMemory}

-- the fault of the lines is told as the program's
pub end_told : (result : Result ℕ LinesFault) (told : Result ℕ Fault) → MatchResult result (λ count. told ≡ Ok count) (λ e. IsErrAnd told (λ f. f ≡ lines_fault e)) → told ≡ end_of result
end_told (Ok count) told is = is
end_told (Err e) (Ok count) is = absurd is
end_told (Err e) (Err f) is = ap Err is

-- ---- what a crash may leave

pub calls_push : (calls : List Call) (c : Call) → AreCalls calls → IsCall c → AreCalls (calls ++ c ∷ [])
calls_push [] c good more = (more, tt)
calls_push (d ∷ calls) c good more = (good.0, calls_push calls c good.1 more)

pub some_left : {S : Type 0} (g : Ghosts S) (desk : DeskValue S) (s : Operator) (fault : Option DeskFault) → ServesSome g desk s fault → AllLeft (desk_state g desk) (StandsAfterSome s)
some_left g desk s None r db h = (r.calls, r.good, r.ends.keeps.left db h)
some_left g desk s (Some NoMemory) r db h = (r.calls, r.good, r.ends.keeps.left db h)
some_left g desk s (Some StoreFailed) r db h = elim (r.ends.3 db h) [
  | inl before ↦ (r.calls, r.good, before)
  | inr later ↦ (r.calls ++ r.ends.1 ∷ [], calls_push r.calls r.ends.1 r.good r.ends.2, later)
]
some_left g desk s (Some Stopped) r db h = absurd r.ends

-- ---- a connection that was taken into service

module _ {S : Type 0} (g : Ghosts S) (new : DeskValue S) {last : Held S} (same : last ≡ new.conn) (clean : HasCleanDisk (state g last)) where
  -- the store was clean when the desk ended, and when it began
  pub ended_clean : HasCleanDisk (desk_state g new)
  ended_clean = subst (λ (h : Held S). HasCleanDisk (state g h)) same clean

  pub began_clean : (desk : DeskValue S) → doubt (desk_state g desk).is_clean ≤ doubt (desk_state g new).is_clean → HasCleanDisk (desk_state g desk)
  began_clean desk le = let now = ended_clean in omega (arith, now, le)

-- ---- or was handed back

-- what is owed of a fault that hands the connection back
pub record HandsBack {S : Type 0} (g : Ghosts S) (first : Held S) (fault : AdoptFault S) : Type 0 where
  pub refused : (s : Operator) → TreesStandFor s (state g first).now.trees → HasCleanDisk (state g (handed fault)) → IsWant fault
  pub told : HasCleanDisk (state g (handed fault)) → IsToldOf g first fault
  pub left : (s : Operator) → TreesStandFor s (state g first).now.trees → IsTrue (state g first).is_open → HasCleanDisk (state g (handed fault))
      → AllLeft (state g (handed fault)) (TreesStandFor s)

pub by_adoption : {S : Type 0} {g : Ghosts S} {first : Held S} {fault : AdoptFault S} → Adopts g first (Err fault) → HandsBack g first fault
by_adoption it = record { refused = it.refused; told = it.told; left = it.left }

pub by_look : {S : Type 0} {g : Ghosts S} {first : Held S} {fault : AdoptFault S} → Looks g first (Err fault) → HandsBack g first fault
by_look it = record { refused = it.refused; told = it.told; left = it.left }

module _ {S : Type 0} (g : Ghosts S) {first last : Held S} (fault : AdoptFault S) (adopts : HandsBack g first fault) (conn : last ≡ handed fault) (clean : HasCleanDisk (state g last)) where
  still_clean : HasCleanDisk (state g (handed fault))
  still_clean = subst (λ (h : Held S). HasCleanDisk (state g h)) conn clean

  pub refuses : {old : Option (List ℕ)} (end : Result ℕ Fault) → end ≡ Err (adopt_fault fault) → Refuses g old old first last end
  refuses {old} end is = record {
    fault = fault;
    told = is;
    why = adopts.told still_clean;
    want = λ s stands. adopts.refused s stands still_clean;
    conn = conn;
    written = Keeps-refl old;
  }

  pub refused_left : (s : Operator) → TreesStandFor s (state g first).now.trees → IsTrue (state g first).is_open → AllLeft (state g last) (TreesStandFor s)
  refused_left s stands live = subst (λ (h : Held S). AllLeft (state g h) (TreesStandFor s)) (sym conn) (adopts.left s stands live still_clean)

-- ---- a database in memory

no_tables : Schema
no_tables = record { tables = []; indexes = []; views = [] }

none_in : HasNone no_tables
unfolding no_tables
none_in = refl

pub memory_is_clean : (h : Held MemStore) → HasCleanDisk (state over_memory h)
unfolding doubt
memory_is_clean h = refl

-- it has none of the tables, and begins with nothing
pub memory_has_none : (h : Held MemStore) → IsEmpty (state over_memory h) → HasNone (state over_memory h).now.schema
unfolding no_tables
memory_has_none h empty = subst HasNone (sym empty.2) none_in

pub memory_begins : (h : Held MemStore) → IsEmpty (state over_memory h) → TreesStandFor no_operator (state over_memory h).now.trees
memory_begins h empty = ((state over_memory h).now.schema, record { sound = (empty.1 empty.0.is_open).0; is = inl (memory_has_none h empty, refl) })

not_begun_for : (cause : AdoptCause) → IsWantFor cause → (old new : Option (List ℕ)) → Keeps old new → FailsToBegin old new (Err (adoption_fault cause))
not_begun_for adopt.Foreign want old new written = absurd want
not_begun_for (adopt.Unsound bad) want old new written = absurd want
not_begun_for (adopt.Older version) want old new written = absurd want
not_begun_for (adopt.Newer version) want old new written = absurd want
not_begun_for adopt.NoMemory want old new written = record { told = inl refl; written = written }
not_begun_for adopt.StoreFailed want old new written = record { told = inr refl; written = written }

pub not_begun : (fault : AdoptFault MemStore) → IsWant fault → (old new : Option (List ℕ)) → Keeps old new → FailsToBegin old new (Err (adopt_fault fault))
not_begun fault want old new written = not_begun_for fault.cause want old new written

-- a database in memory is refused for memory or storage alone
pub memory_refused : (first last : Held MemStore) → IsEmpty (state over_memory first) → (old new : Option (List ℕ)) (end : Result ℕ Fault) → Refuses over_memory old new first last end
    → FailsToBegin old new end
memory_refused first last empty old new end r =
    subst (FailsToBegin old new) (sym r.told) (not_begun r.fault (r.want no_operator (memory_begins first empty)) old new r.written)

not_raised_for : (cause : RaiseCause) → raising.IsWantFor cause → (old new : Option (List ℕ)) → Keeps old new → FailsToBegin old new (Err (raising_fault cause))
not_raised_for raise.Foreign want old new written = absurd want
not_raised_for (raise.Unsound bad) want old new written = absurd want
not_raised_for (raise.Newer version) want old new written = absurd want
not_raised_for raise.NoMemory want old new written = record { told = inl refl; written = written }
not_raised_for raise.StoreFailed want old new written = record { told = inr refl; written = written }

not_raised : (fault : RaiseFault MemStore) → raising.IsWant fault → (old new : Option (List ℕ)) → Keeps old new → FailsToBegin old new (Err (raise_fault fault))
not_raised fault want old new written = not_raised_for fault.cause want old new written

-- nor is its raising refused otherwise
pub raise_refused : (first last : Held MemStore) → IsEmpty (state over_memory first) → (old new : Option (List ℕ)) (end : Result ℕ Fault) → RefusesToRaise over_memory old new first last end
    → FailsToBegin old new end
raise_refused first last empty old new end r =
    subst (FailsToBegin old new) (sym r.told) (not_raised r.fault (r.want None no_operator (memory_begins first empty)) old new r.written)

pub in_memory : (first last : Held MemStore) → IsEmpty (state over_memory first) → (input ahead old new : Option (List ℕ)) (end : Result ℕ Fault)
    → Serves over_memory input ahead old new first last end → ServesInMemory input ahead old new end
in_memory first last empty input ahead old new end (inl (read, r)) = inl (read, memory_refused first last empty old new end r)
in_memory first last empty input ahead old new end (inr r) = inr (last, r.served no_operator (memory_begins first empty))
