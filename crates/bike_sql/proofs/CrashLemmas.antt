-- What a refusal leaves, and what a crash may leave.
use Rattle.std.proofs.Common.{inl, inr, ℕ, List, true, Ok, Err, Result, OnOk, OnErr}
use Rattle.sqlite_value.specs.Order.{Row}
use Rattle.sqlite.specs.declared.error.Error.{Error}
use Rattle.sqlite.specs.Listing.{understood}
use Rattle.sqlite.specs.State.{State, Executes, ExecutesInside, Shows, Survives, CommitsShowing}
use Rattle.sqlite.proofs.Callers.{IsPlain, never_commits}
use Rattle.bike_sql.specs.Outcome.{IsLeft}

-- A statement that is refused or fails inside a transaction leaves all as it was, or as the last commit left it.
pub stopped_inside : (held : ℕ) (sql : List ℕ) (params : Row) (old new : State) (r : Result ℕ Error) → ExecutesInside held sql params old new r → OnErr r (IsLeft old new)
stopped_inside held sql params old new (Ok n) h = tt
stopped_inside held sql params old new (Err e) (inl h) = h.1
stopped_inside held sql params old new (Err e) (inr h) = inl h.2

-- Inside a transaction what is done is done to what is shown, and what is committed stays.
pub done_inside : {P : Type 0} (held : ℕ) (sql : List ℕ) (params : Row) (old new : State) (r : Result ℕ Error)
    → ((count : ℕ) → Shows old new new.now old.committed true → Executes sql params old new (Ok count) → P) → ExecutesInside held sql params old new r → OnOk r P
done_inside held sql params old new (Ok count) does h = does count h.1 h.0
done_inside held sql params old new (Err e) does h = tt

-- A query that shows no write leaves unchanged what a crash may leave.
pub read_survives : (sql : List ℕ) (params : Row) (old new : State) → IsPlain (understood old.now.schema sql) → Survives old new (CommitsShowing sql params old) → Survives old new (λ _. ⊥)
read_survives sql params old new plain s = record {
  clean = s.clean;
  shield = s.shield;
  counts = s.counts;
  limit = s.limit;
  closes = s.closes;
  crash = λ clean db left. elim (s.crash clean db left) [ inl was ↦ inl was | inr commits ↦ inr (never_commits sql params old db plain commits) ];
}
