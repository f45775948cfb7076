-- How listening ends.
use Rattle.std.specs.Prelude.{◌≡◌, ◌⊎◌, ℕ, List, Option, Result, Ok, Err}
use Rattle.std.specs.Io.KnownBytes.{Keeps}
use Rattle.sqlite_trees.specs.declared.store.Store.{Ghosts}
use Rattle.sqlite.specs.Held.{Held, state}
use Rattle.sqlite.specs.State.{HasCleanDisk}
use Rattle.bike_operator.specs.Operator.{Operator}
use Rattle.bike_schema.specs.Stands.{TreesStandFor}
use Rattle.bike_audit.specs.declared.adoption.AdoptFault.{AdoptFault}
use Rattle.bike_audit.specs.Adoption.{handed, IsToldOf, IsWant}
use Rattle.bike_console.specs.declared.end.Fault.{Fault}
use Rattle.bike_console.specs.declared.end.Fault.TheVariants.{StoreFailed, OutOfMemory, WriteFailed, BindFailed}
use Rattle.bike_console.specs.declared.end.Fault.TheVariants.{AcceptFailed}
use Rattle.bike_console.specs.Ends.{adopt_fault}
use Rattle.bike_server.specs.declared.fault.ServerFault.{ServerFault}
use Rattle.bike_server.specs.declared.fault.ServerFault.TheVariants as server

-- the fault of the program that tells one of serving
abbrev pub server_fault : ServerFault → Fault
server_fault server.StoreFailed = StoreFailed
server_fault server.OutOfMemory = OutOfMemory
server_fault server.BindFailed = BindFailed
server_fault server.WriteFailed = WriteFailed
server_fault server.AcceptFailed = AcceptFailed

-- how listening ends, as serving ended
abbrev pub end_of_serving : Result (Unit {0}) ServerFault → Result ℕ Fault
end_of_serving (Ok x) = Ok 0
end_of_serving (Err fault) = Err (server_fault fault)

-- a fault of serving itself: the store, memory, the port, the line that tells it, or accepting
abbrev pub IsOfServing : Fault → Type 0
IsOfServing told = (fault : ServerFault) × (told ≡ server_fault fault)

-- the connection before and after, and what was written before and after
module _ {S : Type 0} (g : Ghosts S) (first last : Held S) (old new : Option (List ℕ)) where
  -- The connection couldn't be adopted, for memory or storage alone where it stands for an operator: that is told, the
  -- connection is handed back as it was then, and nothing was written.
  pub record Refuses (told : Fault) : Type 0 where
    pub fault : AdoptFault S
    pub is : told ≡ adopt_fault fault
    pub conn : last ≡ handed fault
    pub why : HasCleanDisk (state g last) → IsToldOf g first fault
    pub want : (s : Operator) → TreesStandFor s (state g first).now.trees → HasCleanDisk (state g last) → IsWant fault
    pub written : Keeps old new

  -- HOW LISTENING ENDS: all that were to be served are, serving failed, or the connection couldn't be adopted
  abbrev pub EndsListening : Result ℕ Fault → Type 0
  EndsListening (Ok count) = count ≡ 0
  EndsListening (Err told) = IsOfServing told ⊎ Refuses told
