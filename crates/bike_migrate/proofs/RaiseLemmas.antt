-- What a raise owes, from what came of the database.
use Rattle.std.proofs.Common.{◌≡◌, ◌⊎◌, inl, inr, Bool, true, false, if◌then◌else◌, Option, Some, None, Ok, Err, IsTrue, refl, sym, ap, subst, ◌∙◌}
use Rattle.sqlite_trees.specs.declared.store.Store.{Ghosts}
use Rattle.sqlite.specs.Effect.{Database}
use Rattle.sqlite.specs.Held.{Held, state}
use Rattle.sqlite.specs.State.{HasCleanDisk, IsLive, Survives}
use Rattle.bike_operator.specs.Operator.{Operator, no_operator}
use Rattle.bike_schema.specs.Stands.{Stores, IsOf, StandsFor, TreesStandFor, AllLeft}
use Rattle.bike_schema.specs.Indexes.{HasRoom}
use Rattle.bike_schema.specs.Tables.{tables_of, HasNone}
use Rattle.bike_schema.specs.declared.fault.StatementFault.{StatementFault}
use Rattle.bike_schema.specs.declared.fault.StatementFault.TheVariants as statement
use Rattle.bike_readings.specs.ReadOff.{operator_of}
use Rattle.bike_readings.specs.Rules.{AllGood}
use Rattle.bike_readings.proofs.RulesLaws.{of_are_good, stored_good, stored_bad}
use Rattle.bike_audit.specs.Audit.{row_name, IsAudited}
use Rattle.bike_audit.specs.declared.finding.Finding.TheVariants as finding
use Rattle.bike_recognition.specs.declared.earlier_versions.earlier.Earlier.{Earlier}
use Rattle.bike_recognition.specs.declared.earlier_versions.found.Found.{Found}
use Rattle.bike_recognition.specs.declared.earlier_versions.found.Found.TheVariants as found
use Rattle.bike_recognition.specs.EarlierVersions.Found.{IsFoundAs}
use Rattle.bike_recognition.specs.EarlierVersions.Stores.{StoresAt, StandsForAt, TreesStandForAt}
use Rattle.bike_desk.proofs.KeepLemmas.{Settles, stands_in}
use Rattle.bike_migrate.specs.Raised.{OthersKept, tables_raised, Raises}
use Rattle.bike_migrate.specs.Raising.{Holds, IsUnsoundAt, IsUnsound, MayCommitAny, TreesStandSince, failed, IsAsBefore, IsRaisedFrom, IsReady, IsToldBy, IsOutcome, ComesTo, IsWantFor, IsOutsideFor}
use Rattle.bike_migrate.specs.Raising.{IsRaise}
use Rattle.bike_migrate.specs.declared.fault.RaiseCause.{RaiseCause}
use Rattle.bike_migrate.specs.declared.fault.RaiseCause.TheVariants as cause
use Rattle.bike_migrate.specs.declared.fault.UnsoundRow.{UnsoundRow}
use Rattle.bike_migrate.proofs.FoundLemmas.{found_earlier, found_none, never_both, one_earlier}
use Rattle.bike_migrate.proofs.OperatorLemmas.{raised_for, stores_raised, good_stores, stored_all_good, none_bad}
use Rattle.bike_migrate.proofs.StandsLemmas.{stands_here, found_empty, IsFoundOf, Nothing, Whole, Before, found_there}

same_of : (e f : Earlier) → found.Of e ≡ found.Of f → e ≡ f
same_of e f is = cc

-- of a database that stands for an operator no row is bad
all_good : (e : Earlier) (db : Database) (s : Operator) → StoresAt e db s → AllGood (tables_raised e db)
all_good e db s it = of_are_good (tables_raised e db) s it.listed (record { sound = it.sound; listing = it.listing; tables = raised_for e db s it })

unsound_never : (db : Database) (v : Option Earlier) (s : Operator) → StandsForAt v db s → (bad : UnsoundRow) → IsUnsound db bad → ⊥
unsound_never db v s stands bad = by bad.earlier
  where
    newest : IsFoundOf db found.Newest s → IsAudited db (finding.Unsound bad.row) → ⊥
    newest (Nothing none nobody is) it = cc
    newest (Whole stores is) it = stored_bad db (row_name bad.row) it.1.1 s stores
    newest (Before e stores is) it = cc

    by : (w : Option Earlier) → IsUnsoundAt db w bad.row → ⊥
    by None it = newest (found_there db found.Newest v s stands it.0) it.1
    by (Some e) it = earlier (found_there db (found.Of e) v s stands it.0)
      where
        earlier : IsFoundOf db (found.Of e) s → ⊥
        earlier (Nothing none nobody is) = cc
        earlier (Whole stores is) = cc
        earlier (Before f stores is) =
            let here : StoresAt e db s = subst (λ x. StoresAt x db s) (sym (same_of e f is)) stores in
            none_bad e (tables_raised e db) (row_name bad.row).0 (row_name bad.row).1 (stored_all_good e db s here (all_good e db s here)) it.1

module _ {S : Type 0} (g : Ghosts S) (settles : Settles g) (old : Held S) (settled : IsTrue (state g old).is_open → (state g old).now ≡ (state g old).committed) (live : IsLive (state g old))
    (new : Held S) where
  abbrev db : Database
  db = (state g old).now

  -- ---- the connection that comes back

  holds : (s : Operator) → IsTrue (state g new).is_open → (state g new).in_transaction ≡ false → (state g new).committed ≡ (state g new).now → StandsFor (state g new).now s → Holds (state g new) s
  holds s is_open outside same stands = record {
    is_open = is_open;
    autocommit = outside;
    settled = same;
    now = stands;
    left = λ trees h. stands_in (state g new).now trees s stands (settles new.store trees is_open h ∙ ap (λ (d : Database). d.trees) same);
  }

  holds_before : (s : Operator) → IsAsBefore g old new → IsOf db s → Holds (state g new) s
  holds_before s before is =
      holds s before.is_open before.mode (before.committed_is ∙ sym (settled before.was_open) ∙ sym before.now_is)
      (subst (λ d. StandsFor d s) (sym before.now_is) (record { sound = (live before.was_open).0; is = is }))

  holds_raised : (s : Operator) (it : IsRaisedFrom g old new) → Stores (state g new).now s → Holds (state g new) s
  holds_raised s it stores = holds s it.shown.is_open it.shown.mode it.shown.committed_is (record { sound = it.raises.raised.sound; is = inr stores })

  -- ---- what a crash may leave

  module _ (survives : Survives (state g old) (state g new) (MayCommitAny db)) (ended : HasCleanDisk (state g new) → new.in_transaction ≡ false) where
    all_crash : (v : Option Earlier) (s : Operator) → TreesStandForAt v s db.trees → HasCleanDisk (state g new) → AllLeft (state g new) (λ trees. (state g old).may_leave trees ⊎ TreesStandFor s trees)
    all_crash v s stands clean trees h = elim (survives.crash clean trees h) [
      | inl before ↦ inl before
      | inr may ↦ inr (raised may)
    ]
      where
        raised : MayCommitAny db trees → TreesStandFor s trees
        raised (e, is, may) = by (found_there db (found.Of e) v s (stands_here db may.sound v s stands) is)
          where
            by : IsFoundOf db (found.Of e) s → TreesStandFor s trees
            by (Nothing none nobody is) = absurd cc
            by (Whole stores is) = absurd cc
            by (Before f stores is) =
                let here : StoresAt e db s = subst (λ x. StoresAt x db s) (sym (same_of e f is)) stores in
                stands_in may.db trees s (record { sound = may.raises.raised.sound; is = inr (stores_raised e db may.db may.raises.raised s here) }) may.trees_are

    all_left : (v : Option Earlier) (s : Operator) → TreesStandForAt v s db.trees → IsTrue (state g old).is_open → HasCleanDisk (state g new) → AllLeft (state g new) (TreesStandSince v s)
    all_left v s stands opened clean trees h = elim (all_crash v s stands clean trees h) [
      | inl before ↦ inl (subst (TreesStandForAt v s) (sym (settles old.store trees opened before ∙ sym (ap (λ (d : Database). d.trees) (settled opened)))) stands)
      | inr stands_then ↦ inr stands_then
    ]

    all_stay : ((v : Option Earlier) (s : Operator) → ¬ StandsForAt v db s) → HasCleanDisk (state g new) → AllLeft (state g new) (state g old).may_leave
    all_stay never clean trees h = elim (survives.crash clean trees h) [
      | inl before ↦ before
      | inr may ↦ absurd (somebody may)
    ]
      where
        somebody : MayCommitAny db trees → ⊥
        somebody (e, is, may) =
            let it = good_stores e db may.db may.raises.raised (found_earlier db e is) may.good in
            never (Some e) it.0 (may.sound, it.1)

    -- ---- a fault

    fault_owes : (why : RaiseCause) → IsOutsideFor new why → (HasCleanDisk (state g new) → IsToldBy g old new why)
        → ((v : Option Earlier) (s : Operator) → TreesStandForAt v s db.trees → HasCleanDisk (state g new) → IsWantFor why) → IsRaise g old (Err (record { conn = new; cause = why }))
    fault_owes why outside told refused = record {
      clean = survives.clean;
      only = tt;
      others = tt;
      newest = λ is. tt;
      empty = λ none. tt;
      room = λ none. tt;
      raised = λ e is. tt;
      found = λ v s stands. tt;
      refused = refused;
      told = told;
      autocommit = outside;
      ended = ended;
      crash = all_crash;
      left = all_left;
      stays = all_stay;
    }

    pub failed_owes : (f : StatementFault) → IsRaise g old (Err (failed f new))
    failed_owes statement.NoMemory = by new.in_transaction refl
      where
        by : (is_open : Bool) → new.in_transaction ≡ is_open → IsRaise g old (Err (record { conn = new; cause = if is_open then cause.StoreFailed else cause.NoMemory }))
        by true is = fault_owes cause.StoreFailed tt (λ clean. tt) (λ v s stands clean. tt)
        by false is = fault_owes cause.NoMemory is (λ clean. tt) (λ v s stands clean. tt)
    failed_owes statement.StoreFailed = fault_owes cause.StoreFailed tt (λ clean. tt) (λ v s stands clean. tt)

  -- ---- what the database is

  -- it is found to be nothing of the product's
  not_found : (f : Found) → IsAsBefore g old new → IsFoundAs db f → (f ≡ found.Empty → ⊥) → (f ≡ found.Newest → ⊥) → ((e : Earlier) → f ≡ found.Of e → ⊥) → (v : Option Earlier) (s : Operator)
      → TreesStandForAt v s db.trees → ⊥
  not_found f before is empty newest earlier v s stands = by (found_there db f v s (stands_here db (live before.was_open).0 v s stands) is)
    where
      by : IsFoundOf db f s → ⊥
      by (Nothing none nobody is) = empty is
      by (Whole stores is) = newest is
      by (Before e stores is) = earlier e is

  pub cause_owes : (why : RaiseCause) → ComesTo g old new (Ok (Some why)) → IsRaise g old (Err (record { conn = new; cause = why }))
  cause_owes cause.Foreign it = fault_owes it.survives it.ended cause.Foreign it.outside it.comes
      (λ v s stands clean. let at = it.comes clean in absurd (not_found found.Foreign at.1 at.0 (λ is. cc) (λ is. cc) (λ e is. cc) v s stands))
  cause_owes (cause.Newer version) it = fault_owes it.survives it.ended (cause.Newer version) it.outside it.comes
      (λ v s stands clean. let at = it.comes clean in absurd (not_found (found.Newer version) at.1 at.0 (λ is. cc) (λ is. cc) (λ e is. cc) v s stands))
  cause_owes (cause.Unsound bad) it = fault_owes it.survives it.ended (cause.Unsound bad) it.outside it.comes
      (λ v s stands clean. let at = it.comes clean in absurd (unsound_never db v s (stands_here db (live at.1.was_open).0 v s stands) bad at.0))
  cause_owes cause.NoMemory it = fault_owes it.survives it.ended cause.NoMemory it.outside (λ clean. tt) (λ v s stands clean. tt)
  cause_owes cause.StoreFailed it = fault_owes it.survives it.ended cause.StoreFailed tt (λ clean. tt) (λ v s stands clean. tt)

  -- ---- it is ready

  module _ (it : ComesTo g old new (Ok None)) where
    ready_only : HasCleanDisk (state g new) → (v : Option Earlier) × (s : Operator) × StandsForAt v db s × Holds (state g new) s
    ready_only clean = by (it.comes clean)
      where
        by : IsOutcome g old new None → (v : Option Earlier) × (s : Operator) × StandsForAt v db s × Holds (state g new) s
        by (inl (inl (is, verdict, before))) =
            let stores = stored_good db verdict.1.0 verdict.1.1 in
            (None, operator_of (tables_of db), record { sound = (live before.was_open).0; is = inr stores }, holds_before (operator_of (tables_of db)) before (inr stores))
        by (inl (inr (is, room, before))) =
            let nobody : HasNone db.schema × (no_operator ≡ no_operator) = (found_none db is, refl) in
            (None, no_operator, record { sound = (live before.was_open).0; is = inl nobody }, holds_before no_operator before (inl nobody))
        by (inr raised) =
            let at = good_stores raised.earlier db (state g new).now raised.raises.raised (found_earlier db raised.earlier raised.found) raised.good in
            (Some raised.earlier, at.0, ((live raised.shown.was_open).0, at.1), holds_raised at.0 raised at.2)

    kept_same : OthersKept db db
    kept_same keys layout other stands = record { stands = stands; rows = refl }

    ready_others : HasCleanDisk (state g new) → OthersKept db (state g new).now
    ready_others clean = by (it.comes clean)
      where
        by : IsOutcome g old new None → OthersKept db (state g new).now
        by (inl (inl (is, verdict, before))) = subst (OthersKept db) (sym before.now_is) kept_same
        by (inl (inr (is, room, before))) = subst (OthersKept db) (sym before.now_is) kept_same
        by (inr raised) = raised.raises.others

    as_before : IsReady g old new → IsAsBefore g old new
    as_before (inl it) = it.2
    as_before (inr it) = it.2

    ready_newest : IsFoundAs db found.Newest → HasCleanDisk (state g new) → IsAsBefore g old new
    ready_newest is clean = elim (it.comes clean) [
      | inl ready ↦ as_before ready
      | inr raised ↦ absurd (never_both db raised.earlier is raised.found)
    ]

    ready_empty : HasNone db.schema → HasCleanDisk (state g new) → IsAsBefore g old new
    ready_empty none clean = elim (it.comes clean) [
      | inl ready ↦ as_before ready
      | inr raised ↦ absurd (let never = found_empty db (found.Of raised.earlier) none raised.found in cc)
    ]

    ready_room : HasNone db.schema → HasCleanDisk (state g new) → HasRoom db.schema
    ready_room none clean = by (it.comes clean)
      where
        by : IsOutcome g old new None → HasRoom db.schema
        by (inl (inl (is, verdict, before))) = absurd (let never = found_empty db found.Newest none is in cc)
        by (inl (inr (is, room, before))) = room
        by (inr raised) = absurd (let never = found_empty db (found.Of raised.earlier) none raised.found in cc)

    ready_raised : (e : Earlier) → IsFoundAs db (found.Of e) → HasCleanDisk (state g new) → Raises e db (state g new).now
    ready_raised e is clean = by (it.comes clean)
      where
        by : IsOutcome g old new None → Raises e db (state g new).now
        by (inl (inl (newest, verdict, before))) = absurd (never_both db e newest is)
        by (inl (inr (empty, room, before))) = absurd (let never = found_empty db (found.Of e) (found_none db empty) is in cc)
        by (inr raised) = subst (λ v. Raises v db (state g new).now) (one_earlier db raised.earlier e raised.found is) raised.raises

    module _ (v : Option Earlier) (s : Operator) (stands : TreesStandForAt v s db.trees) where
      there : (f : Found) → IsTrue (state g old).is_open → IsFoundAs db f → IsFoundOf db f s
      there f opened is = found_there db f v s (stands_here db (live opened).0 v s stands) is

      ready_found : HasCleanDisk (state g new) → Holds (state g new) s
      ready_found clean = by (it.comes clean)
        where
          newest : IsFoundOf db found.Newest s → IsAsBefore g old new → Holds (state g new) s
          newest (Nothing none nobody is) before = absurd cc
          newest (Whole stores is) before = holds_before s before (inr stores)
          newest (Before e stores is) before = absurd cc

          empty : IsFoundOf db found.Empty s → IsAsBefore g old new → Holds (state g new) s
          empty (Nothing none nobody is) before = holds_before s before (inl (none, nobody))
          empty (Whole stores is) before = absurd cc
          empty (Before e stores is) before = absurd cc

          earlier : (raised : IsRaisedFrom g old new) → IsFoundOf db (found.Of raised.earlier) s → Holds (state g new) s
          earlier raised (Nothing none nobody is) = absurd cc
          earlier raised (Whole stores is) = absurd cc
          earlier raised (Before e stores is) =
              let here : StoresAt raised.earlier db s = subst (λ x. StoresAt x db s) (sym (same_of raised.earlier e is)) stores in
              holds_raised s raised (stores_raised raised.earlier db (state g new).now raised.raises.raised s here)

          by : IsOutcome g old new None → Holds (state g new) s
          by (inl (inl (is, verdict, before))) = newest (there found.Newest before.was_open is) before
          by (inl (inr (is, room, before))) = empty (there found.Empty before.was_open is) before
          by (inr raised) = earlier raised (there (found.Of raised.earlier) raised.shown.was_open raised.found)

    pub ready_owes : IsRaise g old (Ok new)
    ready_owes = record {
      clean = it.survives.clean;
      only = ready_only;
      others = ready_others;
      newest = ready_newest;
      empty = ready_empty;
      room = ready_room;
      raised = ready_raised;
      found = ready_found;
      refused = λ v s stands. tt;
      told = tt;
      autocommit = it.outside;
      ended = tt;
      crash = λ v s stands. tt;
      left = λ v s stands opened. tt;
      stays = λ never. tt;
    }
