-- Reads one after another, of which a later one may read nothing.
use Rattle.std.proofs.lemmas.Result.{on_ok_weaker}
use Rattle.std.proofs.Common.{inl, Result, Ok, Err, IsErr, refl, sym, subst, arith}
use Rattle.sqlite_trees.specs.declared.store.Store.{Ghosts}
use Rattle.sqlite.specs.Effect.{Database}
use Rattle.sqlite.specs.Held.{Held, state}
use Rattle.sqlite.specs.State.{HasCleanDisk}
use Rattle.sqlite.proofs.StateLemmas.{unchanged}
use Rattle.bike_sql.specs.Calls.{IsQuiet, ReadsWhere}
use Rattle.bike_sql.proofs.ChainLaws.{quiet_then, reads_as, reads_both, reads_failed, reads_refused}
use Rattle.bike_operator.specs.Operator.{Operator}
use Rattle.bike_operator.specs.Sound.{IsSound}
use Rattle.bike_book.specs.Stored.{Listed}
use Rattle.bike_schema.specs.Tables.{IsOurs}
use Rattle.bike_schema.specs.Answers.{OfEach, Answers}
use Rattle.bike_schema.proofs.AnswerLemmas.{reads_weaker}
use Rattle.bike_views.specs.Open.{AnswersOpen}

-- nothing was called
quiet_same : {S : Type 0} (g : Ghosts S) (P : Database → Type 0) (h : Held S) → IsQuiet g P h h
quiet_same g P h = record {
  mode = λ outside. outside;
  survives = record {
    clean = omega arith;
    shield = λ shielded. shielded;
    counts = omega arith;
    limit = refl;
    closes = λ clean is_open. inl is_open;
    crash = λ clean db left. inl left;
  };
}

module _ {S : Type 0} {g : Ghosts S} where
  -- Nothing is read, and what is said holds of every operator.
  pub open_none : {A E : Type 0} {h : Held S} {x : A} (says : Operator → Listed → A → Type 0) → ((s : Operator) (m : Listed) → says s m x) → AnswersOpen g h h {E = E} (Ok x) says
  open_none {h = h} says fact = record {
    answers = λ is_open. record { found = λ clean has s stores. fact s stores.listed; same = λ clean has. unchanged (state g h) is_open; failed = λ clean has. tt; quiet = quiet_same g IsOurs h };
    quiet = quiet_same g IsOurs h;
    ours = λ clean has. has;
  }

  -- the same of every sound operator
  pub open_sound : {A E : Type 0} {h : Held S} {x : A} (says : Operator → Listed → A → Type 0) → ((s : Operator) (m : Listed) → IsSound s → says s m x) → AnswersOpen g h h {E = E} (Ok x) says
  open_sound {h = h} says fact = record {
    answers =
        λ is_open. record {
          found = λ clean has s stores. fact s stores.listed stores.sound;
          same = λ clean has. unchanged (state g h) is_open;
          failed = λ clean has. tt;
          quiet = quiet_same g IsOurs h;
        };
    quiet = quiet_same g IsOurs h;
    ours = λ clean has. has;
  }

  pub open_of : {A E : Type 0} {old new : Held S} {result : Result A E} {says : Operator → Listed → A → Type 0} → Answers g old new result says → AnswersOpen g old new result says
  open_of {old = old} {result = result} it = record {
    answers = λ is_open. it;
    quiet = it.quiet;
    ours = λ clean has. on_ok_weaker result (λ same. subst IsOurs (sym same.0.now_is) has) (it.same clean has);
  }

  pub open_weaker : {A E : Type 0} {old new : Held S} {result : Result A E} {says told : Operator → Listed → A → Type 0} → AnswersOpen g old new result says
      → ((s : Operator) (m : Listed) (x : A) → says s m x → told s m x) → AnswersOpen g old new result told
  open_weaker it then = record { answers = λ is_open. reads_weaker (it.answers is_open) (λ db x each s h. then s h.listed x (each s h)); quiet = it.quiet; ours = it.ours }

  -- what is made of a value
  pub open_as : {A B E F : Type 0} {old new : Held S} {x : A} {y : B} {says : Operator → Listed → A → Type 0} {told : Operator → Listed → B → Type 0} → AnswersOpen g old new {E = E} (Ok x) says
      → ((s : Operator) (m : Listed) → says s m x → told s m y) → AnswersOpen g old new {E = F} (Ok y) told
  open_as it then = record { answers = λ is_open. reads_as (it.answers is_open) (λ db each s h. then s h.listed (each s h)); quiet = it.quiet; ours = it.ours }

  -- it failed, and its caller with it
  pub open_failed : {A B E F : Type 0} {old new : Held S} {e : E} {result : Result B F} {says : Operator → Listed → A → Type 0} {told : Operator → Listed → B → Type 0}
      → AnswersOpen g old new {A = A} (Err e) says → IsErr result → AnswersOpen g old new result told
  open_failed {result = Ok y} it is = absurd (let e = is in cc)
  open_failed {result = Err f} it is = record { answers = λ is_open. reads_failed (it.answers is_open) is; quiet = it.quiet; ours = λ clean has. tt }

  -- its caller failed with what it had read
  pub open_refused : {A B E F : Type 0} {old new : Held S} {x : A} {result : Result B F} {says : Operator → Listed → A → Type 0} {told : Operator → Listed → B → Type 0}
      → AnswersOpen g old new {E = E} (Ok x) says → IsErr result → AnswersOpen g old new result told
  open_refused {result = Ok y} it is = absurd (let e = is in cc)
  open_refused {result = Err f} it is = record { answers = λ is_open. reads_refused (it.answers is_open) is; quiet = it.quiet; ours = λ clean has. tt }

  -- After a read the connection is open, and both values are so of the database before the first.
  pub open_both : {X Y E F : Type 0} {old mid new : Held S} {x : X} {result : Result Y F} {says : Database → X → Type 0} {told : Operator → Listed → Y → Type 0}
      → ReadsWhere g IsOurs old mid {E = E} (Ok x) says → AnswersOpen g mid new result told
      → ReadsWhere g IsOurs old new result (λ db y. says db x × OfEach told db y)
  open_both {old = old} {mid = mid} {new = new} {x = x} {result = result} {says = says} {told = told} one two = record {
    found = λ clean has. (both clean has).found clean has;
    same = λ clean has. (both clean has).same clean has;
    failed = λ clean has. (both clean has).failed clean has;
    quiet = quiet_then one.quiet (λ clean has. stands clean has) two.quiet;
  }
    where
      stands : HasCleanDisk (state g mid) → IsOurs (state g old).now → IsOurs (state g mid).now
      stands clean has = subst IsOurs (sym (one.same clean has).0.now_is) has

      before : HasCleanDisk (state g new) → HasCleanDisk (state g mid)
      before clean = omega (arith, clean, two.quiet.survives.clean)

      both : HasCleanDisk (state g new) → IsOurs (state g old).now → ReadsWhere g IsOurs old new result (λ db y. says db x × OfEach told db y)
      both clean has = reads_both one (two.answers (one.same (before clean) has).0.is_open)

  -- two that may read nothing, one after the other
  pub open_then : {X Y E F : Type 0} {old mid new : Held S} {x : X} {result : Result Y F} {says : Operator → Listed → X → Type 0} {told : Operator → Listed → Y → Type 0}
      → AnswersOpen g old mid {E = E} (Ok x) says → AnswersOpen g mid new result told
      → AnswersOpen g old new result (λ s m y. says s m x × told s m y)
  open_then one two = record {
    answers = λ is_open. reads_weaker (open_both (one.answers is_open) two) (λ db y both s h. (both.0 s h, both.1 s h));
    quiet = quiet_then one.quiet one.ours two.quiet;
    ours = λ clean has. two.ours clean (one.ours (omega (arith, clean, two.quiet.survives.clean)) has);
  }
