-- What publishing a feed owes.
use Rattle.std.specs.Prelude.{◌≡◌, ◌≢◌, ◌≤◌, ℕ, List, IsTrue, false, MatchOption, Option, Some, None, Result, Err, OnOk}
use Rattle.std.specs.Io.KnownBytes.{Keeps, Appends}
use Rattle.sqlite_trees.specs.View.{doubt}
use Rattle.sqlite_trees.specs.declared.store.Store.{Ghosts}
use Rattle.bike_stream.specs.Writing.{AppendsFront}
use Rattle.bike_json.specs.Tree.{text_of}
use Rattle.bike_catalogue.specs.Rows.{SystemRow}
use Rattle.bike_operator.specs.Operator.{Operator}
use Rattle.bike_feed_texts.specs.declared.feed.Feed.{Feed}
use Rattle.bike_feed_texts.specs.Trees.{feed_tree}
use Rattle.bike_schema.specs.Stands.{AllLeft}
use Rattle.bike_desk.specs.declared.fault.DeskFault.TheVariants.{NoMemory, StoreFailed, Stopped}
use Rattle.bike_desk.specs.Desk.{DeskValue, desk_state, IsAt, OfOperator, KeepsWhereGoing}
use Rattle.bike_feeds.specs.declared.fault.FeedFault.{FeedFault}
use Rattle.bike_feeds.specs.declared.fault.FeedFault.TheVariants.{SystemMissing, Write, Desk}

-- the text of a feed of an operator with this system, for a moment
abbrev pub feed_text : Operator → SystemRow → Feed → ℕ → List ℕ
feed_text s x feed moment = text_of (feed_tree s x feed moment)

-- THE WHOLE FEED: the operator has a system, and exactly the feed's text was written
abbrev pub IsPublished : Operator → Feed → ℕ → Option (List ℕ) → Option (List ℕ) → Type 0
IsPublished s feed moment old new = (x : SystemRow) × (s.system ≡ Some x) × Appends old new (feed_text s x feed moment)

-- A front of it, and not all; nothing where the operator has no system.
abbrev pub IsBegun : Operator → Feed → ℕ → Option (List ℕ) → Option (List ℕ) → Type 0
IsBegun s feed moment old new =
    MatchOption s.system (Keeps old new) (λ x. AppendsFront old new (feed_text s x feed moment))

-- No want of memory is told: a desk takes none of its own while it answers what a feed asks.
abbrev pub WantsNoMemory : {A : Type 0} → Result A FeedFault → Type 0
WantsNoMemory result = result ≢ Err (Desk NoMemory)

-- WHAT THE DESK IS AFTER A FEED, as the end tells; the faults of a desk are told as its own calls tell them
pub record LeavesDesk {S : Type 0} (g : Ghosts S) (old new : DeskValue S) {A : Type 0}
    (result : Result A FeedFault) : Type 0 where
  pub clean : doubt (desk_state g old).is_clean ≤ doubt (desk_state g new).is_clean
  pub same : OfOperator g old new (λ s. OnOk result (IsAt g new s))
  pub missing : OfOperator g old new (λ s. result ≡ Err SystemMissing → (s.system ≡ None) × IsAt g new s)
  pub write : OfOperator g old new (λ s. result ≡ Err Write → IsAt g new s)
  pub no_memory : OfOperator g old new (λ s. result ≡ Err (Desk NoMemory) → IsAt g new s)
  pub rests : KeepsWhereGoing g old new
  -- whatever is answered, a crash may leave no more than before
  pub left : OfOperator g old new (λ s. AllLeft (desk_state g new) (desk_state g old).may_leave)
  pub goes_on : OnOk result (new.is_stopped ≡ false)
  pub stops : result ≡ Err (Desk StoreFailed) → IsTrue new.is_stopped
  pub stopped : result ≡ Err (Desk Stopped) → IsTrue old.is_stopped
  pub stays : IsTrue old.is_stopped → (result ≡ Err (Desk Stopped)) × (new ≡ old)
