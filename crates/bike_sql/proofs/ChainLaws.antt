-- Calls one after another: what a function tells that makes several, or that makes more of what it read.
use Rattle.std.proofs.Common.{◌≡◌, inl, inr, false, Result, Ok, Err, IsErr, sym, subst, ◌∙◌, arith}
use Rattle.std.proofs.lemmas.Result.{IfOk-weaker, on_ok_weaker, on_err_weaker}
use Rattle.sqlite_trees.specs.declared.store.Store.{Ghosts}
use Rattle.sqlite.specs.Effect.{Database}
use Rattle.sqlite.specs.Held.{Held, state}
use Rattle.sqlite.specs.State.{HasCleanDisk, IsUnchanged, Survives}
use Rattle.sqlite.proofs.Callers.{unchanged_then}
use Rattle.sqlite.proofs.StateLemmas.{survives_weaker, survives_then}
use Rattle.bike_sql.specs.Outcome.{IsLeft}
use Rattle.bike_sql.specs.Calls.{IsQuiet, ReadsWhere}

-- ---- quiet calls

module _ {S : Type 0} {g : Ghosts S} {P : Database → Type 0} where
  -- where the tables stood, what a crash may leave is as it was
  pub quiet_survives : {old new : Held S} → IsQuiet g P old new → P (state g old).now → Survives (state g old) (state g new) (λ _. ⊥)
  quiet_survives {old} {new} it has = survives_weaker (state g old) (state g new) _ (λ _. ⊥) (λ clean db none. none has) it.survives

  -- one after another, where the tables still stand between them
  pub quiet_then : {old mid new : Held S} → IsQuiet g P old mid → (HasCleanDisk (state g mid) → P (state g old).now → P (state g mid).now) → IsQuiet g P mid new → IsQuiet g P old new
  quiet_then {old} {mid} {new} one stand two = record {
    mode = λ outside. two.mode (one.mode outside);
    survives =
        survives_then (state g old) (state g mid) (state g new) _ _ (λ _. ¬ P (state g old).now) (λ clean db none. none)
        (λ clean db none has. none (stand (omega (arith, clean, two.survives.clean)) has)) one.survives two.survives;
  }

  -- a step of a walk, after a quiet call
  pub quiet_step : {old mid new : Held S} → IsQuiet g P old mid → (mid.in_transaction ≡ false → new.in_transaction ≡ false) → Survives (state g mid) (state g new) (λ _. ⊥) → IsQuiet g P old new
  quiet_step {old} {mid} {new} one mode survives = record {
    mode = λ outside. mode (one.mode outside);
    survives = survives_then (state g old) (state g mid) (state g new) _ _ (λ _. ¬ P (state g old).now) (λ clean db none. none) (λ clean db none. absurd none) one.survives survives;
  }

-- ---- reads

-- What follows of a value that was read is told of another.
pub reads_as : {S X Y E F : Type 0} {g : Ghosts S} {P : Database → Type 0} {old new : Held S} {x : X} {y : Y} {says : Database → X → Type 0} {told : Database → Y → Type 0}
    → ReadsWhere g P old new {E = E} (Ok x) says → ((db : Database) → says db x → told db y) → ReadsWhere g P old new {E = F} (Ok y) told
reads_as {g = g} {old = old} it then = record { found = λ clean has. then (state g old).now (it.found clean has); same = it.same; failed = λ clean has. tt; quiet = it.quiet }

-- A read failed, and its caller with it.
pub reads_failed : {S X Y E F : Type 0} {g : Ghosts S} {P : Database → Type 0} {old new : Held S} {e : E} {result : Result Y F} {says : Database → X → Type 0} {told : Database → Y → Type 0}
    → ReadsWhere g P old new {X = X} (Err e) says → IsErr result → ReadsWhere g P old new result told
reads_failed {result = Ok y} it is = absurd (let e = is in cc)
reads_failed {result = Err f} it is = record { found = λ clean has. tt; same = λ clean has. tt; failed = it.failed; quiet = it.quiet }

-- The caller failed with what it had read.
pub reads_refused : {S X Y E F : Type 0} {g : Ghosts S} {P : Database → Type 0} {old new : Held S} {x : X} {result : Result Y F} {says : Database → X → Type 0} {told : Database → Y → Type 0}
    → ReadsWhere g P old new {E = E} (Ok x) says → IsErr result → ReadsWhere g P old new result told
reads_refused {result = Ok y} it is = absurd (let e = is in cc)
reads_refused {result = Err f} it is = record { found = λ clean has. tt; same = λ clean has. tt; failed = λ clean has. inl (it.same clean has); quiet = it.quiet }

-- Two reads, where the first gave a value: both values are so of the database before the first.
pub reads_both : {S X Y E F : Type 0} {g : Ghosts S} {P : Database → Type 0} {old mid new : Held S} {x : X} {result : Result Y F} {says : Database → X → Type 0} {told : Database → Y → Type 0}
    → ReadsWhere g P old mid {E = E} (Ok x) says → ReadsWhere g P mid new result told
    → ReadsWhere g P old new result (λ db y. says db x × told db y)
reads_both {E = E} {g = g} {P = P} {old = old} {mid = mid} {new = new} {x = x} {result = result} {says = says} {told = told} one two = record {
  found = λ clean has. let it = still (before clean) has in IfOk-weaker result _ _ (λ y at. (one.found (before clean) has, subst (λ db. told db y) it.1 at)) (two.found clean it.0);
  same = λ clean has. let it = still (before clean) has in on_ok_weaker result (unchanged_then (state g old) (state g mid) (state g new) it.2) (two.same clean it.0);
  failed = λ clean has. let it = still (before clean) has in on_err_weaker result (left_after it.2) (two.failed clean it.0);
  quiet = quiet_then one.quiet (λ clean has. (still clean has).0) two.quiet;
}
  where
    -- the first left what it read as it was
    still : HasCleanDisk (state g mid) → P (state g old).now → P (state g mid).now × ((state g mid).now ≡ (state g old).now) × IsUnchanged (state g old) (state g mid)
    still clean has = let same = one.same clean has in (subst P (sym same.0.now_is) has, same.0.now_is, same)

    before : HasCleanDisk (state g new) → HasCleanDisk (state g mid)
    before clean = omega (arith, clean, two.quiet.survives.clean)

    left_after : IsUnchanged (state g old) (state g mid) → IsLeft (state g mid) (state g new) → IsLeft (state g old) (state g new)
    left_after same (inl still) = inl (unchanged_then (state g old) (state g mid) (state g new) same still)
    left_after same (inr back) = inr (record {
      was_open = λ opened. same.0.was_open;
      undone = λ opened. let it = back.undone opened in (it.0 ∙ same.0.committed_is, it.1 ∙ same.0.committed_is);
      autocommit = back.autocommit;
      unmarked = back.unmarked;
      counts = record { changes = back.counts.changes ∙ same.1.changes; last_rowid = back.counts.last_rowid ∙ same.1.last_rowid };
    })
