-- What the program publishes, and what it leaves.
use Rattle.std.specs.Prelude.{◌≡◌, ◌⊎◌, ℕ, List, Option, Some, None, Result, Ok, Err}
use Rattle.std.specs.Io.KnownBytes.{Keeps as KeepsBytes}
use Rattle.sqlite.specs.Store.{Ghosts}
use Rattle.sqlite.specs.Held.{Held, state}
use Rattle.bike_operator.specs.Operator.{Operator, no_operator}
use Rattle.bike_feed_texts.specs.declared.feed.Feed.{Feed}
use Rattle.bike_schema.specs.Tables.{HasNone}
use Rattle.bike_schema.specs.Stands.{IsOf, TreesStandFor}
use Rattle.bike_desk.specs.Desk.{DeskValue, IsAt}
use Rattle.bike_feeds.specs.declared.fault.FeedFault.{FeedFault}
use Rattle.bike_feeds.specs.declared.fault.FeedFault.TheVariants as feed
use Rattle.bike_feeds.specs.Publishing.{IsPublished, IsBegun}
use Rattle.bike_console.specs.declared.end.Fault.{Fault}
use Rattle.bike_console.specs.declared.end.Fault.TheVariants.{NoClock, StoreFailed}
use Rattle.bike_console.specs.Ends.{feed_fault}
use Rattle.bike_app.specs.Program.{Refuses, FailsToBegin}

-- what the program tells of a feed that was asked for
abbrev pub feed_end : {A : Type 0} → Result A FeedFault → Result ℕ Fault
feed_end (Ok u) = Ok 0
feed_end (Err fault) = Err (feed_fault fault)

-- a front of the feed was written, and not all; nothing where the operator has no system, and only then is that told
pub record BreaksOff (s : Operator) (f : Feed) (moment : ℕ) (old new : Option (List ℕ)) (told : Fault) : Type 0 where
  pub fault : FeedFault
  pub is : told ≡ feed_fault fault
  pub missing : fault ≡ feed.SystemMissing → s.system ≡ None
  pub begun : IsBegun s f moment old new

-- what was written of the operator's feed for the moment, as the end tells; nothing where the clock gave no moment
abbrev pub TellsFeed : Operator → Feed → Option ℕ → Option (List ℕ) → Option (List ℕ) → Result ℕ Fault → Type 0
TellsFeed s f None old new end = (end ≡ Err NoClock) × KeepsBytes old new
TellsFeed s f (Some moment) old new (Ok count) = (count ≡ 0) × IsPublished s f moment old new
TellsFeed s f (Some moment) old new (Err fault) = BreaksOff s f moment old new fault

-- The feed of a desk at an operator, who stays; only a store that fails stops the desk.
pub record PublishesAt {S : Type 0} (g : Ghosts S) (desk : DeskValue S) (s : Operator) (f : Feed) (moment : Option ℕ)
    (old new : Option (List ℕ)) (end : Result ℕ Fault) : Type 0 where
  pub told : TellsFeed s f moment old new end
  pub at : (end ≡ Err StoreFailed → ⊥) → IsAt g desk s

-- The database stood for an operator, and over a desk at it its feed was written.
pub record Publishes {S : Type 0} (g : Ghosts S) (first last : Held S) (f : Feed) (moment : Option ℕ)
    (old new : Option (List ℕ)) (end : Result ℕ Fault) : Type 0 where
  pub desk : DeskValue S
  pub conn : last ≡ desk.conn
  pub operator : Operator
  pub was : IsOf (state g first).now operator
  pub published : (s : Operator) → TreesStandFor s (state g first).now.trees → PublishesAt g desk s f moment old new end

-- The database had none of the tables, and is as it was: what the empty operator has was told.
pub record PublishesNobodys {S : Type 0} (g : Ghosts S) (first last : Held S) (f : Feed) (moment : Option ℕ)
    (old new : Option (List ℕ)) (end : Result ℕ Fault) : Type 0 where
  pub same : last ≡ first
  pub none : HasNone (state g first).now.schema
  pub told : TellsFeed no_operator f moment old new end

-- what was written before and after
module _ {S : Type 0} (g : Ghosts S) (old new : Option (List ℕ)) where
  -- the database isn't one that is served, or the feed is published
  abbrev pub TellsPublished : Held S → Held S → Feed → Option ℕ → Result ℕ Fault → Type 0
  TellsPublished first last f moment end =
      Refuses g old new first last end ⊎ (Publishes g first last f moment old new end
      ⊎ PublishesNobodys g first last f moment old new end)

-- the moment that is asked for, or the clock's where none is
abbrev pub moment_of : Option ℕ → Option ℕ → Option ℕ
moment_of None clock = clock
moment_of (Some at) clock = Some at

-- over a database in memory, where no system is set
abbrev pub PublishesInMemory : Option (List ℕ) → Option (List ℕ) → Feed → Option ℕ → Result ℕ Fault → Type 0
PublishesInMemory old new f moment end = FailsToBegin old new end ⊎ TellsFeed no_operator f moment old new end
