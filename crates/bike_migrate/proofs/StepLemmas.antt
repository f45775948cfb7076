-- Steps inside a transaction, and one after another.
use Rattle.std.proofs.Common.{◌≡◌, ℕ, List, Result, Ok, Err, IfOk, OnOk, IsErr, IsTrue, refl, subst, ◌∙◌, arith}
use Rattle.std.proofs.lemmas.Result.{IfOk-weaker}
use Rattle.sqlite_value.specs.Order.{Row}
use Rattle.sqlite_trees.specs.declared.store.Store.{Ghosts}
use Rattle.sqlite.specs.Effect.{Database}
use Rattle.sqlite.specs.Held.{Held, state}
use Rattle.sqlite.specs.State.{State, HasCleanDisk, ExecutesInside, IsUnchanged}
use Rattle.sqlite.proofs.StateLemmas.{survives_weaker, survives_then}
use Rattle.bike_sql.specs.Inside.{IsWriteIn}
use Rattle.bike_sql.specs.Calls.{ReadsWhere}
use Rattle.bike_schema.specs.Makes.{Continues}
use Rattle.bike_schema.proofs.MakesLemmas.{continues_then}
use Rattle.bike_migrate.specs.Calls.{Runs, DoesInside}

-- what an INSERT, say, is from what it does to the database
pub runs_does : {S X E : Type 0} {g : Ghosts S} {old new : Held S} {text : List ℕ} {params sent : Row} {result : Result X E} {P : Database → Type 0} {does : Database → Database → X → Type 0}
    → Runs g old new text sent result → sent ≡ params
    → ((db : Database) → P db → IsWriteIn db.schema text) → ((a b : State) → P a.now → (count : ℕ) → ExecutesInside 0 text params a b (Ok count) → (x : X) → does a.now b.now x)
    → DoesInside g P old new result does
runs_does {X = X} {E = E} {g = g} {old = old} {new = new} {text = text} {params = params} {sent = sent} {result = result} {P = P} {does = does} ran same writes effect = record {
  done =
      λ clean inside has. by result has (subst (λ values. OnOk result ((count : ℕ) × ExecutesInside 0 text values (state g old) (state g new) (Ok count))) same (ran.ran clean inside (writes _ has)));
  survives = survives_weaker (state g old) (state g new) _ _ (λ clean db none both. none (both.0, writes _ both.1)) ran.survives;
}
  where
    by : (r : Result X E) → P (state g old).now → OnOk r ((count : ℕ) × ExecutesInside 0 text params (state g old) (state g new) (Ok count))
        → IfOk r (λ x. Continues (state g old) (state g new) × does (state g old).now (state g new).now x)
    by (Ok x) has it = (it.1.1, effect (state g old) (state g new) has it.0 it.1 x)
    by (Err e) has it = tt

module _ {S X E : Type 0} {g : Ghosts S} {P : Database → Type 0} {old new : Held S} {result : Result X E} where
  -- what follows of what was done
  pub does_weaker : {does tells : Database → Database → X → Type 0} → DoesInside g P old new result does → ((a b : Database) (x : X) → P a → does a b x → tells a b x)
      → DoesInside g P old new result tells
  does_weaker it then = record { done = λ clean inside has. IfOk-weaker result _ _ (λ x at. (at.0, then _ _ x has at.1)) (it.done clean inside has); survives = it.survives }

  -- .. where more was known
  pub does_under : {Q : Database → Type 0} {does : Database → Database → X → Type 0} → ((db : Database) → Q db → P db) → DoesInside g P old new result does → DoesInside g Q old new result does
  does_under tells it = record {
    done = λ clean inside has. it.done clean inside (tells _ has);
    survives = survives_weaker (state g old) (state g new) _ _ (λ clean db none both. none (both.0, tells _ both.1)) it.survives;
  }

-- what follows of what was done, in place of its value
pub does_as : {S X Y E F : Type 0} {g : Ghosts S} {P : Database → Type 0} {old new : Held S} {x : X} {y : Y} {does : Database → Database → X → Type 0} {tells : Database → Database → Y → Type 0}
    → DoesInside g P old new {E = E} (Ok x) does
    → ((a b : Database) → P a → does a b x → tells a b y) → DoesInside g P old new {E = F} (Ok y) tells
does_as it then = record { done = λ clean inside has. let at = it.done clean inside has in (at.0, then _ _ has at.1); survives = it.survives }

-- A step failed, or its caller did after it.
pub does_failed : {S X Y E F : Type 0} {g : Ghosts S} {P : Database → Type 0} {old new : Held S} {first : Result X E} {result : Result Y F} {does : Database → Database → X → Type 0}
    {tells : Database → Database → Y → Type 0} → DoesInside g P old new first does → IsErr result → DoesInside g P old new result tells
does_failed {result = Ok y} it is = absurd (let never = is in cc)
does_failed {result = Err f} it is = record { done = λ clean inside has. tt; survives = it.survives }

-- One step after another. The first leaves what the second is done to.
module _ {S X Y E F : Type 0} {g : Ghosts S} {P Q : Database → Type 0} {old mid new : Held S} {x : X} {result : Result Y F} {first : Database → Database → X → Type 0}
    {second : Database → Database → Y → Type 0} where
  pub does_both : DoesInside g P old mid {E = E} (Ok x) first → ((a b : Database) → P a → first a b x → Q b) → DoesInside g Q mid new result second
      → DoesInside g P old new result (λ a c y. (b : Database) × first a b x × second b c y)
  does_both one then two = record {
    done = λ clean inside has. let at = before clean inside has in
        IfOk-weaker result _ _ (λ y it. (continues_then (state g old) (state g mid) (state g new) at.0 it.0, ((state g mid).now, at.1, it.1))) (two.done clean at.0.mode (then _ _ has at.1));
    survives = survives_then (state g old) (state g mid) (state g new) _ _ _ (λ clean db none. none)
        (λ clean db none both. let at = before clean both.0 both.1 in none (at.0.mode, then _ _ both.1 at.1)) one.survives two.survives;
  }
    where
      before : HasCleanDisk (state g new) → IsTrue old.in_transaction → P (state g old).now → Continues (state g old) (state g mid) × first (state g old).now (state g mid).now x
      before clean inside has = let early : HasCleanDisk (state g mid) = omega (arith, clean, two.survives.clean) in one.done early inside has

-- .. and what follows of both
pub does_then : {S X Y E F : Type 0} {g : Ghosts S} {P Q : Database → Type 0} {old mid new : Held S} {x : X} {result : Result Y F} {first : Database → Database → X → Type 0}
    {second tells : Database → Database → Y → Type 0}
    → DoesInside g P old mid {E = E} (Ok x) first → ((a b : Database) → P a → first a b x → Q b) → DoesInside g Q mid new result second
    → ((a b c : Database) (y : Y) → P a → first a b x → second b c y → tells a c y) → DoesInside g P old new result tells
does_then one then two follows = does_weaker (does_both one then two) (λ a c y has it. follows a it.0 c y has it.1 it.2)

-- A read inside a transaction is a step that leaves what it read.
pub reads_does : {S X E : Type 0} {g : Ghosts S} {P : Database → Type 0} {old new : Held S} {result : Result X E} {says : Database → X → Type 0} → ReadsWhere g P old new result says
    → DoesInside g P old new result (λ a b x. (b ≡ a) × says a x)
reads_does {X = X} {E = E} {g = g} {P = P} {old = old} {new = new} {result = result} {says = says} it = record {
  done = λ clean inside has. by result inside (it.found clean has) (it.same clean has);
  survives = survives_weaker (state g old) (state g new) _ _ (λ clean db none both. none both.1) it.quiet.survives;
}
  where
    by : (r : Result X E) → IsTrue old.in_transaction → IfOk r (says (state g old).now) → OnOk r (IsUnchanged (state g old) (state g new))
        → IfOk r (λ x. Continues (state g old) (state g new) × (((state g new).now ≡ (state g old).now) × says (state g old).now x))
    by (Ok x) inside at same = (
      record { was_open = same.0.was_open; is_open = same.0.is_open; now_is = refl; committed_is = same.0.committed_is; mode = same.0.mode ∙ inside },
      (same.0.now_is, at),
    )
    by (Err e) inside at same = tt
