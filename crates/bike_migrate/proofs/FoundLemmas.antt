-- What was found of a database, and what came of it.
use Rattle.std.proofs.Common.{◌≡◌, ◌==◌, inl, inr, ℕ, Bool, true, false, Option, Some, None, Result, Ok, Err, IfOk, OnOk, IsErr, Ordering, Less, Equal, Greater, if◌then◌else◌, refl, sym, ap, subst}
use Rattle.std.proofs.Common.{◌∙◌, arith}
use Rattle.std.specs.Prelude.{option_map}
use Rattle.std.specs.Ordering.{nat_cmp}
use Rattle.std.proofs.lemmas.Bool.{eqb-true}
use Rattle.sqlite_trees.specs.declared.store.Store.{Ghosts}
use Rattle.sqlite.specs.Effect.{Database}
use Rattle.sqlite.specs.Held.{Held, state}
use Rattle.sqlite.specs.State.{HasCleanDisk, IsUnchanged, Survives}
use Rattle.sqlite.proofs.StateLemmas.{survives_weaker, survives_then}
use Rattle.bike_sql.proofs.ChainLaws.{quiet_survives}
use Rattle.bike_book.specs.declared.version.TheConstants.{NEWEST}
use Rattle.bike_schema.specs.declared.fault.StatementFault.{StatementFault}
use Rattle.bike_schema.specs.Tables.{HasNone}
use Rattle.bike_recognition.specs.Recognition.{ReadsAny, meta_version}
use Rattle.bike_recognition.specs.declared.version.MetaVersion.{MetaVersion}
use Rattle.bike_recognition.specs.declared.version.MetaVersion.TheVariants.{Missing, Version, NotOurs}
use Rattle.bike_audit.specs.Audit.{row_name, IsAudited}
use Rattle.bike_audit.specs.declared.finding.Finding.TheVariants as finding
use Rattle.bike_audit.specs.declared.tables.BadRow.{BadRow}
use Rattle.bike_recognition.specs.declared.earlier_versions.earlier.Earlier.{Earlier}
use Rattle.bike_recognition.specs.declared.earlier_versions.earlier.Earlier.TheVariants.{First, Second, Third}
use Rattle.bike_recognition.specs.declared.earlier_versions.found.Found.{Found}
use Rattle.bike_recognition.specs.declared.earlier_versions.found.Found.TheVariants as found
use Rattle.bike_recognition.specs.EarlierVersions.Earlier.{number_of, IsAt}
use Rattle.bike_recognition.specs.EarlierVersions.Found.{earlier_of, IsNewest, IsOfEarlier, IsByNumber, IsByVersion, IsFoundAs}
use Rattle.bike_migrate.specs.Raised.{IsEarlier, Raises, tables_raised}
use Rattle.bike_migrate.specs.Raising.{IsOnNewest, MayCommit, IsAsBefore, BecomesAt, RaisesInPlace, IsOutcome, MayCommitAny, ComesTo, cause_of}
use Rattle.bike_migrate.specs.Verdicts.{AllGoodAt, IsVerdictAt}
use Rattle.bike_migrate.specs.declared.fault.RaiseCause.{RaiseCause}
use Rattle.bike_migrate.specs.declared.fault.RaiseCause.TheVariants as cause

-- ---- found to be of an earlier version

number_is : (v : ℕ) (e : Earlier) → earlier_of v ≡ Some e → v ≡ number_of e
number_is v e = by (v == 1) refl
  where
    third : (b : Bool) → (v == 3) ≡ b → (if b then Some Third else None) ≡ Some e → v ≡ number_of e
    third true is same = let it : Third ≡ e = cc in eqb-true v 3 is ∙ ap number_of it
    third false is same = absurd cc

    second : (b : Bool) → (v == 2) ≡ b → (if b then Some Second else (if v == 3 then Some Third else None)) ≡ Some e → v ≡ number_of e
    second true is same = let it : Second ≡ e = cc in eqb-true v 2 is ∙ ap number_of it
    second false is same = third (v == 3) refl same

    by : (b : Bool) → (v == 1) ≡ b → (if b then Some First else (if v == 2 then Some Second else (if v == 3 then Some Third else None))) ≡ Some e → v ≡ number_of e
    by true is same = let it : First ≡ e = cc in eqb-true v 1 is ∙ ap number_of it
    by false is same = second (v == 2) refl same

module _ (db : Database) (e : Earlier) where
  of_earlier : (v : ℕ) → meta_version db ≡ Version v → (o : Option Earlier) → earlier_of v ≡ o → IsOfEarlier db o (found.Of e) → IsEarlier e db
  of_earlier v told None is other = absurd cc
  of_earlier v told (Some f) is (inl it) =
      let same : f ≡ e = let both = it.1 in cc in
      record { is_at = subst (λ x. IsAt x db) same it.0; version = told ∙ ap Version (number_is v f is ∙ ap number_of same) }
  of_earlier v told (Some f) is (inr it) = absurd (let other = it.1 in cc)

  newest_never : IsNewest db (found.Of e) → ⊥
  newest_never (inl it) = let other = it.1 in cc
  newest_never (inr it) = let other = it.1 in cc

  by_number : (v : ℕ) → meta_version db ≡ Version v → (o : Ordering) → IsByNumber db v o (found.Of e) → IsEarlier e db
  by_number v told Less is = of_earlier v told (earlier_of v) refl is
  by_number v told Equal is = absurd (newest_never is)
  by_number v told Greater is = absurd cc

  by_version : (m : MetaVersion) → meta_version db ≡ m → IsByVersion db m (found.Of e) → IsEarlier e db
  by_version NotOurs told is = absurd cc
  by_version Missing told is = absurd (newest_never is)
  by_version (Version v) told is = by_number v told (nat_cmp v NEWEST) is

  pub found_earlier : IsFoundAs db (found.Of e) → IsEarlier e db
  found_earlier (inl none) = absurd (let other = none.1 in cc)
  found_earlier (inr (some, inl other)) = absurd (let never = other.1 in cc)
  found_earlier (inr (some, inr (stands, is))) = by_version (meta_version db) refl is

-- ---- found to be of the newest version, or to have none of the tables

module _ (db : Database) where
  earlier_never : (o : Option Earlier) (f : Found) → ((e : Earlier) → f ≡ found.Of e → ⊥) → (f ≡ found.Foreign → ⊥) → IsOfEarlier db o f → ⊥
  earlier_never None f other foreign is = foreign is
  earlier_never (Some e) f other foreign (inl it) = other e it.1
  earlier_never (Some e) f other foreign (inr it) = foreign it.1

  never_newest : IsNewest db found.Empty → ⊥
  never_newest (inl it) = let other = it.1 in cc
  never_newest (inr it) = let other = it.1 in cc

  never_by : (v : ℕ) (o : Ordering) → IsByNumber db v o found.Empty → ⊥
  never_by v Less is = earlier_never (earlier_of v) found.Empty (λ e same. cc) (λ same. cc) is
  never_by v Equal is = never_newest is
  never_by v Greater is = cc

  never_of : (m : MetaVersion) → IsByVersion db m found.Empty → ⊥
  never_of NotOurs is = cc
  never_of Missing is = never_newest is
  never_of (Version v) is = never_by v (nat_cmp v NEWEST) is

  pub found_none : IsFoundAs db found.Empty → HasNone db.schema
  found_none (inl none) = none.0
  found_none (inr (some, inl other)) = absurd (let never = other.1 in cc)
  found_none (inr (some, inr (stands, is))) = absurd (never_of (meta_version db) is)

  -- it is of one version alone
  pub never_both : (e : Earlier) → IsFoundAs db found.Newest → IsFoundAs db (found.Of e) → ⊥
  never_both e (inl none) is = let other = none.1 in cc
  never_both e (inr (some, inl other)) is = let never = other.1 in cc
  never_both e (inr (some, inr (stands, newest))) is = by e (subst (λ m. IsByVersion db m found.Newest) (found_earlier db e is).version newest)
    where
      by : (e : Earlier) → IsByVersion db (Version (number_of e)) found.Newest → ⊥
      by First newest = earlier_never (Some First) found.Newest (λ f same. cc) (λ same. cc) newest
      by Second newest = earlier_never (Some Second) found.Newest (λ f same. cc) (λ same. cc) newest
      by Third newest = earlier_never (Some Third) found.Newest (λ f same. cc) (λ same. cc) newest

  pub one_earlier : (e f : Earlier) → IsFoundAs db (found.Of e) → IsFoundAs db (found.Of f) → e ≡ f
  one_earlier e f first second = by e f (sym (found_earlier db e first).version ∙ (found_earlier db f second).version)
    where
      by : (e f : Earlier) → Version (number_of e) ≡ Version (number_of f) → e ≡ f
      by First First same = refl
      by First Second same = absurd (cc)
      by First Third same = absurd (cc)
      by Second First same = absurd (cc)
      by Second Second same = refl
      by Second Third same = absurd (cc)
      by Third First same = absurd (cc)
      by Third Second same = absurd (cc)
      by Third Third same = refl

-- ---- what came of it, where it is foreign

pub comes_foreign : {S : Type 0} (g : Ghosts S) (old new : Held S) {E : Type 0} → ReadsAny {E = E} g old new (Ok found.Foreign) IsFoundAs → old.in_transaction ≡ false
    → ComesTo g old new (Ok (Some cause.Foreign))
comes_foreign g old new read outside = record {
  comes = λ clean.
      let same = (read.same clean tt).0 in
      (read.found clean tt, record { was_open = same.was_open; is_open = same.is_open; now_is = same.now_is; committed_is = same.committed_is; mode = same.mode ∙ outside });
  outside = read.quiet.mode outside;
  ended = λ clean. read.quiet.mode outside;
  survives = survives_weaker (state g old) (state g new) _ _ (λ clean db none. absurd none) (quiet_survives read.quiet tt);
}

-- ---- what came of it, where it is of the newest version

module _ {S : Type 0} (g : Ghosts S) (old mid : Held S) {E : Type 0} (read : ReadsAny {E = E} g old mid (Ok found.Newest) IsFoundAs) (new : Held S) (bad : Option BadRow) {F : Type 0}
    (audited : ReadsAny {E = F} g mid new (Ok bad) IsOnNewest) (outside : old.in_transaction ≡ false) where
  first_clean : HasCleanDisk (state g new) → HasCleanDisk (state g mid)
  first_clean clean = omega (arith, clean, audited.quiet.survives.clean)

  first_same : HasCleanDisk (state g new) → IsUnchanged (state g old) (state g mid)
  first_same clean = read.same (first_clean clean) tt

  both_before : HasCleanDisk (state g new) → IsAsBefore g old new
  both_before clean =
      let first = (first_same clean).0 in
      let second = (audited.same clean tt).0 in
      record {
        was_open = first.was_open;
        is_open = second.is_open;
        now_is = second.now_is ∙ first.now_is;
        committed_is = second.committed_is ∙ first.committed_is;
        mode = second.mode ∙ first.mode ∙ outside;
      }

  newest_outcome : (b : Option BadRow) → HasCleanDisk (state g new) → IsOnNewest (state g mid).now b → IsOutcome g old new (cause_of None b)
  newest_outcome None clean is =
      inl (inl (read.found (first_clean clean) tt, subst (λ d. IsAudited d finding.Sound) (first_same clean).0.now_is is, both_before clean))
  newest_outcome (Some row) clean is =
      ((read.found (first_clean clean) tt, subst (λ d. IsAudited d (finding.Unsound row)) (first_same clean).0.now_is is), both_before clean)

  pub comes_newest : ComesTo g old new (Ok (cause_of None bad))
  comes_newest = record {
    comes = λ clean. newest_outcome bad clean (audited.found clean tt);
    outside = audited.quiet.mode (read.quiet.mode outside);
    ended = λ clean. audited.quiet.mode (read.quiet.mode outside);
    survives = survives_then (state g old) (state g mid) (state g new) _ _ _ (λ clean db none. absurd none) (λ clean db none. absurd none)
        (quiet_survives read.quiet tt) (quiet_survives audited.quiet tt);
  }

-- ---- what came of it, where it was raised

module _ {S : Type 0} (g : Ghosts S) (old : Held S) where
  module _ (mid : Held S) (e : Earlier) {E : Type 0} (read : ReadsAny {E = E} g old mid (Ok (found.Of e)) IsFoundAs) (new : Held S) {told : Result (Option BadRow) StatementFault}
      (it : RaisesInPlace g e mid new told) (ended : HasCleanDisk (state g new) → new.in_transaction ≡ false) where
    early : HasCleanDisk (state g new) → HasCleanDisk (state g mid)
    early clean = omega (arith, clean, it.survives.clean)

    -- what was found, of what was left
    found_there : HasCleanDisk (state g new) → IsFoundAs (state g old).now (found.Of e)
    found_there clean = read.found (early clean) tt

    same_there : HasCleanDisk (state g new) → IsUnchanged (state g old) (state g mid)
    same_there clean = read.same (early clean) tt

    was_there : HasCleanDisk (state g new) → IsEarlier e (state g mid).now
    was_there clean = subst (IsEarlier e) (sym (same_there clean).0.now_is) (found_earlier (state g old).now e (found_there clean))

    comes_survives : Survives (state g old) (state g new) (MayCommitAny (state g old).now)
    comes_survives = survives_then (state g old) (state g mid) (state g new) _ _ _ (λ clean db none. absurd none)
        (λ clean db may. (e, found_there clean, subst (λ d. MayCommit e d db) (same_there clean).0.now_is (may (was_there clean)))) (quiet_survives read.quiet tt) it.survives

    raised_outcome : (bad : Option BadRow) → HasCleanDisk (state g new) → IsVerdictAt e (tables_raised e (state g mid).now) (option_map row_name bad) × BecomesAt g e mid new bad
        → IsOutcome g old new (cause_of (Some e) bad)
    raised_outcome None clean at =
        let same = same_there clean in
        inr (record {
          earlier = e;
          found = found_there clean;
          good = subst (λ d. AllGoodAt e (tables_raised e d)) same.0.now_is at.0;
          shown = record { was_open = same.0.was_open; is_open = at.1.0.is_open; now_is = refl; committed_is = at.1.0.committed_is; mode = at.1.0.mode };
          raises = subst (λ d. Raises e d (state g new).now) same.0.now_is at.1.1;
        })
    raised_outcome (Some row) clean at =
        let same = same_there clean in (
          (found_there clean, subst (λ d. IsVerdictAt e (tables_raised e d) (Some (row_name row))) same.0.now_is at.0),
          record { was_open = same.0.was_open; is_open = at.1.is_open; now_is = at.1.now_is ∙ same.0.now_is; committed_is = at.1.committed_is ∙ same.0.committed_is; mode = at.1.mode },
        )

    pub comes_failed : {result : Result (Option RaiseCause) StatementFault} → IsErr result → ComesTo g old new result
    comes_failed {result = Ok o} is = absurd (let never = is in cc)
    comes_failed {result = Err f} is = record { comes = λ clean. tt; outside = tt; ended = ended; survives = comes_survives }

    pub comes_raised : (bad : Option BadRow) → told ≡ Ok bad → ComesTo g old new (Ok (cause_of (Some e) bad))
    comes_raised bad is = record {
      comes =
          λ clean. raised_outcome bad clean (subst (λ r. IfOk r (λ b. IsVerdictAt e (tables_raised e (state g mid).now) (option_map row_name b) × BecomesAt g e mid new b)) is
          (it.ends clean (was_there clean)));
      outside = subst (λ r. OnOk r (new.in_transaction ≡ false)) is it.outside;
      ended = ended;
      survives = comes_survives;
    }
