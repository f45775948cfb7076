-- Reads of a database of which nothing is known.
use Rattle.std.proofs.Common.{◌≡◌, ℕ, List, [], false, inl, inr, Result, Ok, Err, IsErr, IsTrue, sym, subst, arith}
use Rattle.std.proofs.lemmas.Result.{IfOk-weaker}
use Rattle.sqlite_value.specs.Order.{Row}
use Rattle.sqlite_trees.specs.declared.store.Store.{Ghosts}
use Rattle.sqlite.specs.declared.error.Error.{Error}
use Rattle.sqlite.specs.Effect.{Database}
use Rattle.sqlite.specs.Held.{Held, state}
use Rattle.sqlite.specs.State.{State, HasCleanDisk, IsNotRun, Survives}
use Rattle.sqlite.proofs.StateLemmas.{survives_weaker}
use Rattle.bike_sql.specs.Calls.{IsQuiet, ReadsWhere}
use Rattle.bike_sql.specs.Outcome.{IsLeft}
use Rattle.bike_sql.proofs.ChainLaws.{quiet_survives, reads_both}
use Rattle.bike_schema.proofs.AnswerLemmas.{reads_weaker}
use Rattle.bike_recognition.specs.Recognition.{AnyDatabase, ReadsAny}

-- a statement that isn't run
not_run : (old new : State) (text : List ℕ) (params : Row) (e : Error) → IsNotRun old new text params e → IsLeft old new
unfolding IsNotRun
not_run old new text params e (inl refused) = inl refused.1
not_run old new text params e (inr failed) = inr failed.3

module _ {S : Type 0} {g : Ghosts S} {old new : Held S} where
  quiet_any : (old.in_transaction ≡ false → new.in_transaction ≡ false) → Survives (state g old) (state g new) (λ _. ⊥) → IsQuiet g AnyDatabase old new
  quiet_any mode survives = record { mode = mode; survives = survives_weaker (state g old) (state g new) (λ _. ⊥) _ (λ clean db none. absurd none) survives }

  -- a statement that couldn't be prepared
  pub unprepared : {X E : Type 0} {result : Result X E} {says : Database → X → Type 0} (text : List ℕ) (e : Error) → IsErr result
      → (HasCleanDisk (state g new) → (params : Row) → IsNotRun (state g old) (state g new) text params e)
      → (old.in_transaction ≡ false → new.in_transaction ≡ false) → Survives (state g old) (state g new) (λ _. ⊥) → ReadsAny g old new result says
  unprepared {result = Ok x} text e is refused mode survives = absurd (let never = is in cc)
  unprepared {result = Err f} text e is refused mode survives =
      record { found = λ clean _. tt; same = λ clean _. tt; failed = λ clean _. not_run (state g old) (state g new) text [] e (refused clean []); quiet = quiet_any mode survives }

  -- a read where something was known after all
  pub reads_any : {P : Database → Type 0} {X E : Type 0} {result : Result X E} {says : Database → X → Type 0} → P (state g old).now → ReadsWhere g P old new result says
      → ReadsAny g old new result says
  reads_any has it = record {
    found = λ clean _. it.found clean has;
    same = λ clean _. it.same clean has;
    failed = λ clean _. it.failed clean has;
    quiet = quiet_any it.quiet.mode (quiet_survives it.quiet has);
  }

  -- More follows of a value that was read, from what is known of the database that the read left.
  pub reads_more : {X Y E F : Type 0} {x : X} {y : Y} {says : Database → X → Type 0} {told : Database → Y → Type 0} → ReadsAny {E = E} g old new (Ok x) says
      → (HasCleanDisk (state g new) → IsTrue (state g new).is_open → says (state g new).now x → told (state g new).now y)
      → ReadsAny {E = F} g old new (Ok y) told
  reads_more {x = x} {y = y} {says = says} {told = told} it more = record {
    found = λ clean any. let same = it.same clean any in subst (λ db. told db y) same.0.now_is (more clean same.0.is_open (subst (λ db. says db x) (sym same.0.now_is) (it.found clean any)));
    same = it.same;
    failed = λ clean any. tt;
    quiet = it.quiet;
  }

  -- what was known of the database is known of it still
  pub reads_here : {X E : Type 0} {result : Result X E} {says told : Database → X → Type 0} → ReadsAny g old new result says → ((x : X) → says (state g old).now x → told (state g old).now x)
      → ReadsAny g old new result told
  reads_here {result = result} it then = record { found = λ clean any. IfOk-weaker result _ _ then (it.found clean any); same = it.same; failed = it.failed; quiet = it.quiet }

  -- a read of any database is one of some
  pub reads_known : {P : Database → Type 0} {X E : Type 0} {result : Result X E} {says : Database → X → Type 0} → ReadsAny g old new result says → ReadsWhere g P old new result says
  reads_known it = record {
    found = λ clean has. it.found clean tt;
    same = λ clean has. it.same clean tt;
    failed = λ clean has. it.failed clean tt;
    quiet = record { mode = it.quiet.mode; survives = survives_weaker (state g old) (state g new) _ _ (λ clean db none. absurd (none tt)) it.quiet.survives };
  }

-- A read that finds out what the next one asks for.
pub reads_once : {S X Y E F : Type 0} {g : Ghosts S} {old mid new : Held S} {P : Database → Type 0} {x : X} {result : Result Y F} {says : Database → X → Type 0} {told : Database → Y → Type 0}
    → ReadsAny {E = E} g old mid (Ok x) says → ((db : Database) → says db x → P db)
    → ReadsWhere g P mid new result told → ReadsAny g old new result (λ db y. P db × told db y)
reads_once {F = F} {g = g} {old = old} {mid = mid} {new = new} {P = P} {result = result} {told = told} one finds two = reads_weaker (reads_both one at_mid) (λ db y both. both.1)
  where
    has : HasCleanDisk (state g new) → P (state g mid).now
    has clean =
        let kept = two.quiet.survives.clean in
        let early : HasCleanDisk (state g mid) = omega (arith, clean, kept) in
        subst P (sym (one.same early tt).0.now_is) (finds (state g old).now (one.found early tt))

    at_mid : ReadsAny g mid new result (λ db y. P db × told db y)
    at_mid = record {
      found = λ clean _. IfOk-weaker result _ _ (λ y at. (has clean, at)) (two.found clean (has clean));
      same = λ clean _. two.same clean (has clean);
      failed = λ clean _. two.failed clean (has clean);
      quiet = record { mode = two.quiet.mode; survives = survives_weaker (state g mid) (state g new) _ _ (λ clean db none. absurd (none (has clean))) two.quiet.survives };
    }
