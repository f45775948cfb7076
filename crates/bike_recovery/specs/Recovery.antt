-- What is read of a database that is taken into service again.
use Rattle.std.specs.Prelude.{◌≡◌, ◌≢◌, ◌≤◌, ◌+◌, ℕ, List, length, take, Bool, IsTrue, Option, Some, None, Result}
use Rattle.std.specs.Prelude.{Err, IfOk, IfErr, OnOk, OnErr}
use Rattle.std.specs.Io.KnownBytes.{Keeps}
use Rattle.sqlite.specs.State.{HasCleanDisk}
use Rattle.sqlite.specs.Held.{Held, state}
use Rattle.sqlite_trees.specs.declared.store.Store.{Ghosts}
use Rattle.bike_commands.specs.declared.reply.Reply.{Reply}
use Rattle.bike_operator.specs.Operator.{Operator}
use Rattle.bike_operator.specs.Runs.{Call, after, replies}
use Rattle.bike_operator.specs.Sound.{IsSound}
use Rattle.bike_schema.specs.Stands.{AllLeft, TreesStandFor}
use Rattle.bike_queries.specs.Infos.{place_at}
use Rattle.bike_feed_texts.specs.declared.feed.Feed.TheVariants.{StationStatus}
use Rattle.bike_desk.specs.declared.fault.DeskFault.{DeskFault}
use Rattle.bike_desk.specs.declared.fault.DeskFault.TheVariants.{StoreFailed, Stopped}
use Rattle.bike_desk.specs.Desk.{DeskValue, desk_state, IsAt}
use Rattle.bike_feeds.specs.Publishing.{IsPublished, IsBegun}
use Rattle.bike_feeds.specs.declared.fault.FeedFault.TheVariants.{SystemMissing, Desk}
use Rattle.bike_recovery.specs.declared.reading.Reading.{Reading}

-- WHAT IS READ is the operator's: the bicycle's one place, and the bytes of the feed. Only a failed store leaves the
-- place unread; then the desk is stopped, and nothing is written. However it ends, a crash leaves the operator.
pub record ReadsOf {S : Type 0} (g : Ghosts S) (d : DeskValue S) (s : Operator)
    (bike moment : ℕ) (before written : Option (List ℕ)) (reading : Reading) : Type 0 where
  pub place : IfOk reading.place (λ p. p ≡ place_at s bike)
  pub feed : OnOk reading.status (IsPublished s StationStatus moment before written)
  pub missing : reading.status ≡ Err SystemMissing → s.system ≡ None
  pub begun : OnOk reading.place (OnErr reading.status (IsBegun s StationStatus moment before written))
  pub nothing : OnErr reading.place (Keeps before written)
  pub goes_on : OnOk reading.place (OnOk reading.status (IsAt g d s))
  pub failed : IfErr reading.place (λ e. e ≡ StoreFailed)
  pub stopped : OnErr reading.place (reading.status ≡ Err (Desk Stopped))
  pub unstopped : OnOk reading.place (reading.status ≢ Err (Desk Stopped))
  pub left : AllLeft (desk_state g d) (TreesStandFor s)

-- THE PROMISE: what is read is of the operator after such a front,
-- and it is sound: no dock and no rental holds two bicycles.
abbrev pub ReadsFront : {S : Type 0} → Ghosts S → DeskValue S → Operator → List Call → ℕ → ℕ → ℕ
    → Option (List ℕ) → Option (List ℕ) → Reading → Type 0
ReadsFront g d s calls k bike moment before written reading =
    (j : ℕ) × (k ≤ j) × (j ≤ k + 1) × (j ≤ length calls) × IsSound (after s (take j calls))
    × ReadsOf g d (after s (take j calls)) bike moment before written reading

-- the database of the connection is one that a crash of the desk's store may leave
abbrev pub CrashMayLeave : {S T : Type 0} → Ghosts S → DeskValue S → Ghosts T → Held T → Type 0
CrashMayLeave g desk h left = (desk_state g desk).may_leave (state h left).now.trees

-- So it is where what was left is taken into service again and read, on a disk that is clean then.
abbrev pub IfReadAgain : {S E : Type 0} → Ghosts S → Result (DeskValue S × Reading) E
    → (DeskValue S → Reading → Type 0) → Type 0
IfReadAgain g result says = IfOk result (λ r. HasCleanDisk (desk_state g r.0) → says r.0 r.1)

-- a desk that is stopped serves nothing and says so, and no other desk says that
abbrev pub TellsStopped : Bool → Option DeskFault → Type 0
TellsStopped is_stopped end = (IsTrue is_stopped → end ≡ Some Stopped) × (end ≡ Some Stopped → IsTrue is_stopped)

-- what was acknowledged are the replies to a front of the list
pub record AreReplies (s : Operator) (calls : List Call) (told : List Reply) : Type 0 where
  pub within : length told ≤ length calls
  pub front : told ≡ replies s (take (length told) calls)
