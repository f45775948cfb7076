-- What the reading of a desk tells.
use Rattle.std.proofs.Common.{◌≡◌, ℕ, List, Option, Result, Ok, Err, OnErr, OnOk, refl, sym, ap, subst}
use Rattle.std.proofs.lemmas.Bool.{both_ways}
use Rattle.std.specs.Prelude.{◌≢◌, IsTrue}
use Rattle.std.specs.Io.KnownBytes.{Keeps}
use Rattle.sqlite_trees.specs.declared.store.Store.{Ghosts}
use Rattle.sqlite.specs.State.{HasCleanDisk}
use Rattle.bike_operator.specs.declared.records.Place.{Place}
use Rattle.bike_operator.specs.Operator.{Operator}
use Rattle.bike_queries.specs.Infos.{place_at}
use Rattle.bike_feed_texts.specs.declared.feed.Feed.TheVariants.{StationStatus}
use Rattle.bike_schema.specs.Stands.{AllLeft, TreesStandFor}
use Rattle.bike_desk.specs.declared.fault.DeskFault.{DeskFault}
use Rattle.bike_desk.specs.declared.fault.DeskFault.TheVariants.{NoMemory, StoreFailed, Stopped}
use Rattle.bike_desk.specs.Desk.{DeskValue, desk_state, IsAt}
use Rattle.bike_desk.specs.Queries.{Queries}
use Rattle.bike_feeds.specs.Publishing.{IsPublished, IsBegun, LeavesDesk}
use Rattle.bike_feeds.specs.declared.fault.FeedFault.{FeedFault}
use Rattle.bike_feeds.specs.declared.fault.FeedFault.TheVariants.{Desk}
use Rattle.bike_recovery.specs.Recovery.{ReadsOf}

module _ {S : Type 0} (g : Ghosts S) (old mid new : DeskValue S) (s : Operator) (bike moment : ℕ) (before written : Option (List ℕ)) where
  abbrev Asked : Result (Option Place) DeskFault → Type 0
  Asked place = Queries g old mid place (λ s x. x ≡ place_at s bike)

  -- a query that failed stopped the desk
  fails_stopped : (e : DeskFault) → e ≢ NoMemory → IsAt g old s → Asked (Err e) → IsTrue mid.is_stopped
  fails_stopped NoMemory none at q = absurd (none refl)
  fails_stopped StoreFailed none at q = q.stops refl
  fails_stopped Stopped none at q = absurd (both_ways old.is_stopped at.goes_on (q.stopped refl))

  -- only a failed store does
  fails_stored : (e : DeskFault) → e ≢ NoMemory → IsAt g old s → Asked (Err e) → e ≡ StoreFailed
  fails_stored NoMemory none at q = absurd (none refl)
  fails_stored StoreFailed none at q = refl
  fails_stored Stopped none at q = absurd (both_ways old.is_stopped at.goes_on (q.stopped refl))

  -- after that nothing is written
  reads_nothing : (e : DeskFault) (status : Result (Unit {0}) FeedFault) → e ≡ StoreFailed → status ≡ Err (Desk Stopped) → Keeps before written
      → AllLeft (desk_state g new) (TreesStandFor s) → ReadsOf g new s bike moment before written (record { place = Err e; status = status })
  reads_nothing e (Ok x) stored ends keeps left = absurd (let a = ends in cc)
  reads_nothing e (Err f) stored ends keeps left =
      record {
        place = tt;
        feed = tt;
        missing = λ missing. absurd (let a = ends in let b = missing in cc);
        begun = tt;
        nothing = keeps;
        goes_on = tt;
        failed = stored;
        stopped = ends;
        unstopped = tt;
        left = left;
      }

  -- what is read of a desk that is at the operator
  pub reads : (place : Result (Option Place) DeskFault) (status : Result (Unit {0}) FeedFault) → HasCleanDisk (desk_state g mid) → HasCleanDisk (desk_state g new)
      → IsAt g old s → place ≢ Err NoMemory → Asked place → LeavesDesk g mid new status
      → (IsAt g mid s → OnOk status (IsPublished s StationStatus moment before written))
      → (IsAt g mid s → OnErr status (IsBegun s StationStatus moment before written))
      → (IsTrue mid.is_stopped → Keeps before written)
      → ReadsOf g new s bike moment before written (record { place = place; status = status })
  reads (Ok p) status early clean at none q leaves whole front nothing =
      let here = q.ok early s at in
      record {
        place = here.0;
        feed = whole here.1;
        missing = λ is. (leaves.missing clean s here.1 is).0;
        begun = front here.1;
        nothing = tt;
        goes_on = leaves.same clean s here.1;
        failed = tt;
        stopped = tt;
        unstopped = λ is. both_ways mid.is_stopped (q.goes_on) (leaves.stopped is);
        left = λ db h. here.1.keeps.left db (leaves.left clean s here.1 db h);
      }
  reads (Err e) status early clean at none q leaves whole front nothing =
      let stopped = fails_stopped e (λ is. none (ap Err is)) at q in
      let left : AllLeft (desk_state g mid) (TreesStandFor s) = λ db h. at.keeps.left db (q.left early s at db h) in
      reads_nothing e status (fails_stored e (λ is. none (ap Err is)) at q) (leaves.stays stopped).0 (nothing stopped)
      (subst (λ (d : DeskValue S). AllLeft (desk_state g d) (TreesStandFor s)) (sym (leaves.stays stopped).1) left)
