-- What is told of a feed over a desk.
use Rattle.std.proofs.Common.{ℕ, List, Option, Some, Result, Ok, Err, refl}
use Rattle.std.specs.Prelude.{OnOk, OnErr}
use Rattle.sqlite_trees.specs.declared.store.Store.{Ghosts}
use Rattle.sqlite.specs.State.{HasCleanDisk}
use Rattle.bike_operator.specs.Operator.{Operator}
use Rattle.bike_feed_texts.specs.declared.feed.Feed.{Feed}
use Rattle.bike_desk.specs.declared.fault.DeskFault.TheVariants.{NoMemory, StoreFailed, Stopped}
use Rattle.bike_desk.specs.Desk.{DeskValue, desk_state, IsAt}
use Rattle.bike_feeds.specs.declared.fault.FeedFault.{FeedFault}
use Rattle.bike_feeds.specs.declared.fault.FeedFault.TheVariants.{SystemMissing, Write, Desk}
use Rattle.bike_feeds.specs.Publishing.{IsPublished, IsBegun, LeavesDesk}
use Rattle.bike_app.specs.Feeds.{PublishesAt, feed_end}

module _ {S A : Type 0} (g : Ghosts S) (old new : DeskValue S) (s : Operator) (f : Feed) (moment : ℕ) (a b : Option (List ℕ)) (clean : HasCleanDisk (desk_state g new)) (at : IsAt g old s) where
  pub published_at : (result : Result A FeedFault) → LeavesDesk g old new result → OnOk result (IsPublished s f moment a b) → OnErr result (IsBegun s f moment a b)
      → PublishesAt g new s f (Some moment) a b (feed_end result)
  published_at (Ok u) leaves whole front = record { told = (refl, whole); at = λ other. leaves.same clean s at }
  published_at (Err SystemMissing) leaves whole front =
      let none = leaves.missing clean s at refl in
      record { told = record { fault = SystemMissing; is = refl; missing = λ is. none.0; begun = front }; at = λ other. none.1 }
  published_at (Err Write) leaves whole front =
      record { told = record { fault = Write; is = refl; missing = λ is. absurd cc; begun = front }; at = λ other. leaves.write clean s at refl }
  published_at (Err (Desk NoMemory)) leaves whole front =
      record { told = record { fault = Desk NoMemory; is = refl; missing = λ is. absurd cc; begun = front }; at = λ other. leaves.no_memory clean s at refl }
  published_at (Err (Desk StoreFailed)) leaves whole front =
      record { told = record { fault = Desk StoreFailed; is = refl; missing = λ is. absurd cc; begun = front }; at = λ other. absurd (other refl) }
  published_at (Err (Desk Stopped)) leaves whole front =
      record { told = record { fault = Desk Stopped; is = refl; missing = λ is. absurd cc; begun = front }; at = λ other. absurd (other refl) }
