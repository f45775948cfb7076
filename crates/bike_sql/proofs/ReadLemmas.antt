-- What the text of a query answers, where it stands for a query with no table computed before it.
use Rattle.std.proofs.Common.{◌≡◌, inl, inr, ℕ, List, [], Option, Err, subst}
use Rattle.sqlite_value.specs.Order.{Row}
use Rattle.sqlite_trees.specs.declared.error.StoreError.{StoreError}
use Rattle.sqlite_trees.specs.declared.error.StoreError.TheVariants.{OutOfMemory, Io, Corrupt, Full, Broken, Unstorable}
use Rattle.sqlite_schema.specs.declared.command.Command.{Command}
use Rattle.sqlite_schema.specs.declared.command.Command.TheVariants.{Select, Rows}
use Rattle.sqlite.specs.declared.error.Error.{Error}
use Rattle.sqlite.specs.declared.error.Error.TheVariants.{QueryReturnedNoRows}
use Rattle.sqlite.specs.Effect.{Database, RefusesToRead}
use Rattle.sqlite.specs.Listing.{understood}
use Rattle.sqlite.specs.State.{State, IsNotRun, IsUnchanged, FailsToQuery, FailsToShow, Shown, ShowsRows, QueriesRow, Fails, store_error}
use Rattle.sqlite.proofs.Callers.{IsPlain}
use Rattle.bike_sql.specs.Outcome.{IsLeft}

-- ---- "no row" is no other failure

fails_other : (old new : State) (too_big : Type 0) → Fails old new too_big QueryReturnedNoRows → ⊥
fails_other old new too_big failed = by failed.0 failed.1
  where
    by : (cause : StoreError) → QueryReturnedNoRows ≡ store_error cause → ⊥
    by OutOfMemory e = cc
    by Io e = cc
    by Corrupt e = cc
    by Full e = cc
    by Broken e = cc
    by Unstorable e = cc

refuses_other : (limit : Option ℕ) (command : Command) (db : Database) (params : Row) → RefusesToRead limit command db params QueryReturnedNoRows → ⊥
refuses_other limit (Select q names) db params (inl h) = let e = h.0 in cc
refuses_other limit (Select q names) db params (inr (inl h)) = let e = h.0 in cc
refuses_other limit (Select q names) db params (inr (inr h)) = let e = h.0 in cc
refuses_other limit (Rows values width names) db params h = let e = h.0 in cc
refuses_other limit _ db params h = let e = h in cc

module _ (text : List ℕ) (params : Row) (old new : State) (plain : IsPlain (understood old.now.schema text)) where
  pub never_none : FailsToQuery text params old new QueryReturnedNoRows → ⊥
  unfolding FailsToQuery IsNotRun
  never_none (inl (inl (inl bad, same))) = let e = bad.2 in cc
  never_none (inl (inl (inr (c, is, inl h), same))) = let e = h.1 in cc
  never_none (inl (inl (inr (c, is, inr (inl h)), same))) = let e = h.1 in cc
  never_none (inl (inl (inr (c, is, inr (inr h)), same))) = let e = h.1 in cc
  never_none (inl (inr failed)) = fails_other old new ⊥ failed
  never_none (inr (c, it, h)) = let none = (subst IsPlain it.is plain).0 in let shown = subst (FailsToShow old new text c _ QueryReturnedNoRows) none h in refuses_other _ _ _ _ shown.2

  -- a query whose rows were all read changes nothing
  pub shown_same : (rows : List Row) → Shown text params old new rows → IsUnchanged old new
  unfolding Shown
  shown_same rows h = let none = (subst IsPlain h.1.is plain).0 in (subst (ShowsRows old new text h.0 _ rows) none h.2).3

  pub query_stopped : (e : Error) → FailsToQuery text params old new e → IsLeft old new
  unfolding FailsToQuery IsNotRun
  query_stopped e (inl (inl refused)) = inl refused.1
  query_stopped e (inl (inr failed)) = inr failed.3
  query_stopped e (inr (c, it, h)) = let none = (subst IsPlain it.is plain).0 in inl (subst (FailsToShow old new text c _ e) none h).3

pub row_stopped : (text : List ℕ) (params : Row) (old new : State) → IsPlain (understood old.now.schema text) → (e : Error) → QueriesRow text params old new (Err e) → IsLeft old new
unfolding QueriesRow
row_stopped text params old new plain e (inl failed) = query_stopped text params old new plain e failed
row_stopped text params old new plain e (inr h) = inl (shown_same text params old new plain [] h.1)
