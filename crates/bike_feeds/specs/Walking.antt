-- What the functions owe of which a feed is made, and what holds between two questions to the desk.
use Rattle.std.specs.Prelude.{◌≡◌, ◌≤◌, ◌+◌, ◌⊎◌, ℕ, List, length, false, IsTrue, Result, Err, OnOk, OnErr}
use Rattle.std.specs.Io.KnownBytes.{Appends}
use Rattle.sqlite_trees.specs.View.{doubt}
use Rattle.sqlite_trees.specs.declared.store.Store.{Ghosts}
use Rattle.bike_stream.specs.Writing.{AppendsFront}
use Rattle.bike_json.specs.Outputs.{OutputState}
use Rattle.bike_json.specs.Tree.{Items, items_text}
use Rattle.bike_json.specs.Rows.{WroteFront}
use Rattle.bike_json.specs.State.{Place, Wrote, MayFail, greatest_count, takes_array_end}
use Rattle.bike_operator.specs.Operator.{Operator}
use Rattle.bike_schema.specs.Stands.{AllLeft}
use Rattle.bike_desk.specs.Desk.{DeskValue, desk_state, IsAt, OfOperator, KeepsDatabase}
use Rattle.bike_feeds.specs.declared.fault.FeedFault.{FeedFault}
use Rattle.bike_feeds.specs.declared.fault.FeedFault.TheVariants.{Write}
use Rattle.bike_feeds.specs.Publishing.{LeavesDesk, WantsNoMemory}

-- the desk was asked, goes on, and is at the operator at which it was
pub record StaysAt {S : Type 0} (g : Ghosts S) (old new : DeskValue S) : Type 0 where
  pub clean : doubt (desk_state g old).is_clean ≤ doubt (desk_state g new).is_clean
  pub same : OfOperator g old new (λ s. IsAt g new s)
  pub rests : OfOperator g old new (λ s. KeepsDatabase g old new)
  pub left : OfOperator g old new (λ s. AllLeft (desk_state g new) (desk_state g old).may_leave)
  pub went_on : old.is_stopped ≡ false
  pub goes_on : new.is_stopped ≡ false

-- why the writing of a list may end: the output may refuse bytes, or with these the count reaches its greatest
abbrev pub MayEnd : OutputState → ℕ → List ℕ → Type 0
MayEnd output count bytes = IsTrue output.may_refuse ⊎ (greatest_count ≤ count + length bytes)

-- THE ELEMENTS OF A LIST were written as items, or at a fault a front of their text
pub record WritesItems {S : Type 0} (g : Ghosts S) (old new : DeskValue S) (from to : Place)
    (before after : OutputState) {A : Type 0} (result : Result A FeedFault)
    (them : Operator → Items) : Type 0 where
  pub desk : LeavesDesk g old new result
  pub takes_none : WantsNoMemory result
  pub all : OfOperator g old new (λ s. OnOk result (Wrote from to before after (items_text false (them s))))
  pub front : OfOperator g old new (λ s. OnErr result (WroteFront from to before after (items_text false (them s))))
  pub cause : OfOperator g old new (λ s. from.failed ≡ false → result ≡ Err Write
      → MayEnd before from.count (items_text false (them s)))
  pub inside : IsTrue (takes_array_end to.top)
  pub round : to.round ≡ from.round

-- A WHOLE TEXT was written, or at a fault a front of it and not all
pub record WritesText {S : Type 0} (g : Ghosts S) (old new : DeskValue S) (before after : OutputState) {A : Type 0}
    (result : Result A FeedFault)
    (text : Operator → List ℕ) : Type 0 where
  pub desk : LeavesDesk g old new result
  pub takes_none : WantsNoMemory result
  pub whole : OfOperator g old new (λ s. OnOk result (Appends before.bytes after.bytes (text s)))
  pub front : OfOperator g old new (λ s. OnErr result (AppendsFront before.bytes after.bytes (text s)))
  pub cause : OfOperator g old new (λ s. result ≡ Err Write → MayFail before 0 (text s))
