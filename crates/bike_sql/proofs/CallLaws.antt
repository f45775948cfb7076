-- One law for each kind of call: all that a function of one statement tells, from what its text does and what the engine makes of it.
-- The values that it sends compute to the parameters.
use Rattle.std.proofs.Common.{◌≡◌, ℕ, List, false, Option, Result, Ok, Err, IfOk, OnOk, OnErr, refl, subst}
use Rattle.std.proofs.lemmas.Result.{IfOk-weaker, on_ok_weaker}
use Rattle.std.specs.Borrow.{name_if_ok, MutBor}
use Rattle.sqlite_value.specs.Order.{Row}
use Rattle.sqlite_trees.specs.declared.store.Store.{Ghosts}
use Rattle.sqlite.specs.declared.error.Error.{Error}
use Rattle.sqlite.specs.declared.rows.stream.Rows.{Rows}
use Rattle.sqlite.specs.Effect.{Database}
use Rattle.sqlite.specs.Given.{HasBegun, IsRefused}
use Rattle.sqlite.specs.Held.{Held, state}
use Rattle.sqlite.specs.State.{State, ExecutesInside, HasCleanDisk, IsUnchanged, Survives, CommitsShowing}
use Rattle.sqlite.specs.Listing.{understood}
use Rattle.sqlite.proofs.Callers.{IsPlain, never_commits}
use Rattle.sqlite.proofs.StateLemmas.{survives_weaker}
use Rattle.bike_sql.specs.Answer.{HasOneAnswer}
use Rattle.bike_sql.specs.Outcome.{if_any, ToldAs}
use Rattle.bike_sql.specs.Runs.{QueriesFirst, RunsInside}
use Rattle.bike_sql.specs.Walk.{IsWalking}
use Rattle.bike_sql.specs.Calls.{IsQuiet, ReadsWhere, WritesWhere, WalksWhere, StopsWhere}
use Rattle.bike_sql.proofs.CrashLemmas.{stopped_inside}
use Rattle.bike_sql.proofs.ReadLemmas.{query_stopped}
use Rattle.bike_sql.proofs.WalkLaw.{walk_opens, Finds, finds_first}

-- Done inside a transaction on a database of which `P` holds, the text tells `Q`, and `Was` of what was there before.
pub record Does (P Was : Database → Type 0) (Q : State → State → Type 0) (text : List ℕ) (params : Row) : Type 1 where
  pub does : (old new : State) → P old.now → (r : Result ℕ Error) → ExecutesInside 0 text params old new r → OnOk r (Q old new × Was old.now)

-- ---- reads

-- A query that commits nothing and shows no write is quiet.
quiet_query : {S : Type 0} (g : Ghosts S) {P : Database → Type 0} (old new : Held S) (text : List ℕ) (params : Row) → ((db : Database) → P db → IsPlain (understood db.schema text))
    → (old.in_transaction ≡ false → new.in_transaction ≡ false)
    → Survives (state g old) (state g new) (CommitsShowing text params (state g old)) → IsQuiet g P old new
quiet_query g {P} old new text params plain mode survives = record {
  mode = mode;
  survives =
      survives_weaker (state g old) (state g new) _ (λ _. ¬ P (state g old).now) (λ clean db commits has. never_commits text params (state g old) db (plain (state g old).now has) commits) survives;
}

-- what is said of a result is said of what is told of it
carried : {X E F : Type 0} (P : X → Type 0) (Q : Type 0) (Gives : E → F → Type 0) (r : Result X E) (result : Result X F) → ToldAs Gives (λ x y. x ≡ y) r result → IfOk r P × OnErr r Q
    → IfOk result P × OnErr result Q
carried P Q Gives (Ok x) (Ok y) same it = (subst P same it.0, tt)
carried P Q Gives (Err e) (Err f) same it = (tt, it.1)
carried P Q Gives (Ok x) (Err f) same it = absurd same
carried P Q Gives (Err e) (Ok y) same it = absurd same

-- A look-up's text finds a row, or none, wherever `P` holds.
pub read_returns : {S E : Type 0} {g : Ghosts S} {P : Database → Type 0} {old new : Held S} {text : List ℕ} {params sent : Row} {found : Database → Option Row} {Gives : Error → E → Type 0}
    {result : Result (Option Row) E} → ((db : Database) → P db → Finds db text params (found db))
    → QueriesFirst g old new text sent Gives result → sent ≡ params → ReadsWhere g P old new result (λ db row. found db ≡ row)
read_returns {g = g} {P = P} {old = old} {new = new} {text = text} {params = params} {found = found} {Gives = Gives} {result = result} finds ensures same =
    let h : QueriesFirst g old new text params Gives result = subst (λ values. QueriesFirst g old new text values Gives result) same ensures in
    let told = λ (clean : HasCleanDisk (state g new)) (has : P (state g old).now).
    let it = h.answer clean in carried _ _ Gives (if_any it.0) result it.2
    (finds_first text params (state g old) (state g new) (found (state g old).now) (finds (state g old).now has) it.0 it.1) in record {
      found = λ clean has. IfOk-weaker result _ _ (λ row at. at.0) (told clean has).0;
      same = λ clean has. of_ok _ _ result (told clean has).0;
      failed = λ clean has. (told clean has).1;
      quiet = quiet_query g old new text params (λ db has. (finds db has).one.means.1) h.mode h.survives;
    }
  where
    of_ok : {X F : Type 0} (A : X → Type 0) (B : Type 0) (r : Result X F) → IfOk r (λ x. A x × B) → OnOk r B
    of_ok A B (Ok x) it = it.1
    of_ok A B (Err e) it = tt

-- ---- writes inside a transaction

module _ {S X E : Type 0} {g : Ghosts S} {P Was : Database → Type 0} {Q : State → State → Type 0} {text : List ℕ} {params sent : Row} {old new : MutBor (Held S)} {Gives : Error → E → Type 0}
    {result : Result X E} where
  -- An INSERT's caller is told what was there before, as that its key was free.
  pub insert_returns : Does P Was Q text params → RunsInside g old new text sent Gives result → sent ≡ params → WritesWhere g P old new result (λ a b. Q a b × Was a.now)
  insert_returns does ensures same = record {
    same_reference = ensures.same_reference;
    done =
        λ clean inside has. let it = ensures.ran clean inside in on_ok _ Gives it.0 result it.2
        (does.does (state g old.now) (state g new.now) has it.0 (subst (λ values. ExecutesInside 0 text values (state g old.now) (state g new.now) it.0) same it.1));
    refused = λ clean inside. let it = ensures.ran clean inside in on_err _ Gives it.0 result it.2 (stopped_inside 0 text sent (state g old.now) (state g new.now) it.0 it.1);
    survives = ensures.survives;
  }
    where
      on_ok : {A B F G : Type 0} (T : Type 0) (Gives : F → G → Type 0) (r : Result A F) (s : Result B G) → ToldAs Gives (λ x y. Unit {0}) r s → OnOk r T → OnOk s T
      on_ok T Gives (Ok x) (Ok y) same it = it
      on_ok T Gives (Err e) (Err f) same it = tt
      on_ok T Gives (Ok x) (Err f) same it = absurd same
      on_ok T Gives (Err e) (Ok y) same it = absurd same

      on_err : {A B F G : Type 0} (T : Type 0) (Gives : F → G → Type 0) (r : Result A F) (s : Result B G) → ToldAs Gives (λ x y. Unit {0}) r s → OnErr r T → OnErr s T
      on_err T Gives (Ok x) (Ok y) same it = tt
      on_err T Gives (Err e) (Err f) same it = it
      on_err T Gives (Ok x) (Err f) same it = absurd same
      on_err T Gives (Err e) (Ok y) same it = absurd same

  pub write_returns : Does P Was Q text params → RunsInside g old new text sent Gives result → sent ≡ params → WritesWhere g P old new result Q
  write_returns does ensures same = let it = insert_returns does ensures same in record {
    same_reference = it.same_reference;
    done = λ clean inside has. on_ok_weaker result (λ told. told.0) (it.done clean inside has);
    refused = it.refused;
    survives = it.survives;
  }

-- ---- walks

module _ {S : Type 0} (g : Ghosts S) where
  -- what follows of `query` and of the connection that is lent to it
  abbrev pub FollowsQuery : MutBor (Held S) → List ℕ → Row → Result (Rows S g) Error → Type 0
  FollowsQuery conn text params r = record {
    lender : Held S → Held S;
    holds : (w : Held S) → OnOk r (lender w ≡ w);
    lender-at-none : Held S;
    holds-at-none : OnErr r (IsRefused g text params conn.now r lender-at-none);
    claims : IfOk r (λ rows. rows.conn.ghost_name ≡ conn.ghost_name) × (IfOk r (λ rows. HasCleanDisk (state g rows.conn.now) → HasBegun g text params conn.now rows.conn.now)
        × (IfOk r (λ rows. conn.now.in_transaction ≡ false → rows.conn.now.in_transaction ≡ false)
        × IfOk r (λ rows. Survives (state g conn.now) (state g rows.conn.now) (CommitsShowing text params (state g conn.now)))));
  }

  -- what is told of that connection
  abbrev pub TellsLender : (Database → Type 0) → MutBor (Held S) → (Held S → Held S) → Held S → Result (Rows S g) Error → Type 0
  TellsLender P conn lender last r =
      (name_if_ok (λ (rows : Rows S g). rows.conn.ghost_name) r ≡ name_if_ok (λ (rows : Rows S g). rows.conn.ghost_name) r) × ((w : Held S) → OnOk r (lender w ≡ w))
      × OnErr r (StopsWhere g P conn.now last)

  -- A query's text has one answer wherever `P` holds. This is the form for a function that names its lifetime, as it does beside another reference.
  pub named_walk_returns : {P : Database → Type 0} {text : List ℕ} {params sent : Row} {all : Database → List Row} → ((db : Database) → P db → HasOneAnswer db text params (all db))
      → (conn : MutBor (Held S)) (r : Result (Rows S g) Error) (query : FollowsQuery conn text sent r) → sent ≡ params
      → TellsLender P conn query.lender query.lender-at-none r × WalksWhere g P conn r all
  named_walk_returns {P = P} {text = text} {params = params} {all = all} one conn r query same =
      let old = conn.now in
      let h = query.claims in
      let begun : IfOk r (λ rows. HasCleanDisk (state g rows.conn.now) → P (state g old).now → IsWalking g rows.conn.now (all (state g old).now) × IsUnchanged (state g old) (state g rows.conn.now)) =
      IfOk-weaker r _ _ (λ rows begun clean has. walk_opens g old rows.conn.now text params (all (state g old).now) (one (state g old).now has) (begun clean))
      (subst (λ values. IfOk r (λ rows. HasCleanDisk (state g rows.conn.now) → HasBegun g text values old rows.conn.now)) same h.1.0) in (
        (refl, query.holds, stops query.lender-at-none r (subst (λ values. OnErr r (IsRefused g text values old r query.lender-at-none)) same query.holds-at-none)),
        record {
          same_reference = h.0;
          begun = IfOk-weaker r _ _ (λ rows it clean has. (it clean has).0) begun;
          same = IfOk-weaker r _ _ (λ rows it clean has. (it clean has).1) begun;
          quiet = quiets r h.1.1.0 (subst (λ values. IfOk r (λ rows. Survives (state g old) (state g rows.conn.now) (CommitsShowing text values (state g old)))) same h.1.1.1);
        },
      )
    where
      plain : (db : Database) → P db → IsPlain (understood db.schema text)
      plain db has = (one db has).means.1

      stops : (last : Held S) (q : Result (Rows S g) Error) → OnErr q (IsRefused g text params conn.now q last) → OnErr q (StopsWhere g P conn.now last)
      stops last (Ok rows) it = tt
      stops last (Err e) it = record {
        left = λ clean has. query_stopped text params (state g conn.now) (state g last) (plain (state g conn.now).now has) e (it.err clean);
        quiet = quiet_query g conn.now last text params plain it.mode it.survives;
      }

      quiets : (q : Result (Rows S g) Error) → IfOk q (λ rows. conn.now.in_transaction ≡ false → rows.conn.now.in_transaction ≡ false)
          → IfOk q (λ rows. Survives (state g conn.now) (state g rows.conn.now) (CommitsShowing text params (state g conn.now)))
          → IfOk q (λ rows. IsQuiet g P conn.now rows.conn.now)
      quiets (Ok rows) mode survives = quiet_query g conn.now rows.conn.now text params plain mode survives
      quiets (Err e) mode survives = tt

  -- .. and this for one that leaves it out
  pub walk_returns : {P : Database → Type 0} {text : List ℕ} {params sent : Row} {all : Database → List Row} → ((db : Database) → P db → HasOneAnswer db text params (all db))
      → (conn : MutBor (Held S)) (r : Result (Rows S g) Error) (query : FollowsQuery conn text sent r) → sent ≡ params
      → TellsLender P conn query.lender query.lender-at-none r × record { lends : Unit {0}; walks : WalksWhere g P conn r all }
  walk_returns one conn r query same = let it = named_walk_returns one conn r query same in (it.0, record { lends = tt; walks = it.1 })
