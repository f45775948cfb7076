-- The calls of a pass over rowids, one after another.
use Rattle.std.proofs.Common.{◌≡◌, List, ℕ, [], ◌∷◌, ◌++◌, map, true, false, Option, Some, Result, Ok, Err, IfOk, OnErr, IsTrue, refl, sym, subst, arith}
use Rattle.std.specs.Borrow.{MutBor}
use Rattle.std.proofs.lemmas.List.{map-append}
use Rattle.std.proofs.lemmas.Result.{IfOk-weaker}
use Rattle.sqlite_value.specs.declared.value.Value.TheVariants.{Null}
use Rattle.sqlite_value.specs.Order.{Row}
use Rattle.sqlite_trees.specs.declared.store.Store.{Ghosts}
use Rattle.sqlite.specs.declared.error.Error.{Error}
use Rattle.sqlite.specs.declared.rows.stream.Rows.{Rows}
use Rattle.sqlite.specs.Effect.{Database}
use Rattle.sqlite.specs.Given.{HasBegun, HasGiven, IsRefused}
use Rattle.sqlite.specs.Held.{Held, state}
use Rattle.sqlite.specs.State.{HasCleanDisk, IsUnchanged, Survives, CommitsShowing}
use Rattle.sqlite.proofs.Callers.{reads_as, begun_plain, never_commits, unchanged_then}
use Rattle.sqlite.proofs.StateLemmas.{survives_weaker}
use Rattle.bike_sql.specs.Calls.{IsQuiet, ReadsWhere, StopsWhere}
use Rattle.bike_sql.proofs.CallLaws.{FollowsQuery, TellsLender}
use Rattle.bike_sql.proofs.ChainLaws.{quiet_step}
use Rattle.bike_sql.proofs.ReadLemmas.{query_stopped}
use Rattle.bike_recognition.specs.declared.rowids.Rowid.{Rowid}
use Rattle.bike_recognition.specs.declared.rowids.NextRowid.{NextRowid}
use Rattle.bike_recognition.specs.declared.rowids.NextRowid.TheVariants.{Number, End}
use Rattle.bike_recognition.specs.Rowids.{AsksRowids, AreApart, rowid_row, is_above, IsClimbing, BeginsPass, IsPassing, Steps}
use Rattle.bike_recognition.proofs.ClimbLemmas.{climb_more, given_apart, all_given}

module _ {S : Type 0} (g : Ghosts S) (text : List ℕ) where
  abbrev Asks : Database → Type 0
  Asks db = AsksRowids db text

  -- ---- the query

  quiet_of : (old new : Held S) → (old.in_transaction ≡ false → new.in_transaction ≡ false) → Survives (state g old) (state g new) (CommitsShowing text [] (state g old)) → IsQuiet g Asks old new
  quiet_of old new mode survives = record {
    mode = mode;
    survives = survives_weaker (state g old) (state g new) _ (λ _. ¬ Asks (state g old).now) (λ clean db commits asks. never_commits text [] (state g old) db asks.means.1 commits) survives;
  }

  pub pass_begins : (conn : MutBor (Held S)) (r : Result (Rows S g) Error) (sent : Row) (query : FollowsQuery g conn text sent r) → sent ≡ []
      → TellsLender g Asks conn query.lender query.lender-at-none r
      × (IfOk r (λ rows. rows.conn.ghost_name ≡ conn.ghost_name) × (IfOk r (λ rows. HasCleanDisk (state g rows.conn.now) → Asks (state g conn.now).now → BeginsPass g text conn.now rows.conn.now)
      × IfOk r (λ rows. IsQuiet g Asks conn.now rows.conn.now)))
  pass_begins conn r sent query none =
      let old = conn.now in
      let begun = subst (λ values. IfOk r (λ rows. HasCleanDisk (state g rows.conn.now) → HasBegun g text values old rows.conn.now)) none query.claims.1.0 in (
        (refl, query.holds, stops query.lender-at-none r (subst (λ values. OnErr r (IsRefused g text values old r query.lender-at-none)) none query.holds-at-none)),
        (
          query.claims.0,
          (
            IfOk-weaker r _ _ (λ rows began clean asks. let it = begun_plain g text [] old rows.conn.now asks.means.1 (began clean) in record { gave = it.0; same = it.1 }) begun,
            quiets r query.claims.1.1.0 (subst (λ values. IfOk r (λ rows. Survives (state g old) (state g rows.conn.now) (CommitsShowing text values (state g old)))) none query.claims.1.1.1),
          ),
        ),
      )
    where
      stops : (last : Held S) (q : Result (Rows S g) Error) → OnErr q (IsRefused g text [] conn.now q last) → OnErr q (StopsWhere g Asks conn.now last)
      stops last (Ok rows) it = tt
      stops last (Err e) it = record {
        left = λ clean asks. query_stopped text [] (state g conn.now) (state g last) asks.means.1 e (it.err clean);
        quiet = quiet_of conn.now last it.mode it.survives;
      }

      quiets : (q : Result (Rows S g) Error) → IfOk q (λ rows. conn.now.in_transaction ≡ false → rows.conn.now.in_transaction ≡ false)
          → IfOk q (λ rows. Survives (state g conn.now) (state g rows.conn.now) (CommitsShowing text [] (state g conn.now)))
          → IfOk q (λ rows. IsQuiet g Asks conn.now rows.conn.now)
      quiets (Ok rows) mode survives = quiet_of conn.now rows.conn.now mode survives
      quiets (Err e) mode survives = tt

  -- ---- a step

  module _ (old mid new : Held S) (last : Option Rowid) (was : IsPassing g text old mid last) where
    quiet_after : {E : Type 0} {result : Result NextRowid E} → Steps g mid new result → IsQuiet g Asks old new
    quiet_after it = quiet_step was.quiet it.mode it.survives

    before : {E : Type 0} {result : Result NextRowid E} → Steps g mid new result → HasCleanDisk (state g new) → HasCleanDisk (state g mid)
    before it clean = let kept = it.survives.clean in omega (arith, clean, kept)

    same_after : {E : Type 0} {next : NextRowid} → Steps g mid new {E = E} (Ok next) → HasCleanDisk (state g new) → Asks (state g old).now → IsUnchanged (state g old) (state g new)
    same_after it clean asks = unchanged_then (state g old) (state g mid) (state g new) (was.same (before it clean) asks) (it.same clean)

    -- a number above the last
    pub passes_on : {E : Type 0} (id : Rowid) → Steps g mid new {E = E} (Ok (Number id)) → is_above last id ≡ true → IsPassing g text old new (Some id)
    passes_on id it above = record {
      quiet = quiet_after it;
      same = same_after it;
      climbing = λ clean asks.
          let so_far = was.climbing (before it clean) asks in
          let more = climb_more last id so_far.ids so_far.climb so_far.reach above in
          record {
            ids = so_far.ids ++ id.number ∷ [];
            climb = more.0;
            reach = more.1;
            gave = subst (HasGiven g text [] new) (sym (map-append rowid_row so_far.ids (id.number ∷ []))) (it.next clean text (map rowid_row so_far.ids) so_far.gave);
          };
    }

    -- the end
    pub pass_ends : {E F : Type 0} → Steps g mid new {E = E} (Ok End) → ReadsWhere g Asks old new {E = F} (Ok true) (λ db apart. IsTrue apart → (it : Asks db) → AreApart (db.trees it.tree))
    pass_ends it = record { found = λ clean asks _. all clean asks; same = same_after it; failed = λ clean asks. tt; quiet = quiet_after it }
      where
        listed : HasCleanDisk (state g new) → (so_far : IsClimbing g text mid last) → (asked : Asks (state g mid).now) → AreApart ((state g mid).now.trees asked.tree)
        listed clean so_far asked =
            let rows = map rowid_row so_far.ids in
            let answer = reads_as text [] (state g mid) (state g new) mid.schema refl _ asked.means.0 asked.means.1 asked.means.2 rows (it.next clean text rows so_far.gave) in
            given_apart ((state g mid).now.trees asked.tree) so_far.ids so_far.climb (all_given asked.tree (state g mid).now.trees rows (answer.answer Null))

        all : HasCleanDisk (state g new) → Asks (state g old).now → (asked : Asks (state g old).now) → AreApart ((state g old).now.trees asked.tree)
        all clean asks = subst (λ (db : Database). (asked : Asks db) → AreApart (db.trees asked.tree)) (was.same (before it clean) asks).0.now_is (listed clean (was.climbing (before it clean) asks))
